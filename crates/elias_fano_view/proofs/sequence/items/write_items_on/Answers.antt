-- What each word has from the first bit on are the 1 bits of the next numbers.
use Rattle.std.proofs.Common.{◌≡◌, ℕ, ◌+◌, ◌-◌, ◌*◌, ◌^◌, ◌<◌, ◌≤◌, true, max, List, length, get_or, bit_and, count_ones, w64, refl, sym, subst, ap, ◌∙◌, arith, rules}
use Rattle.std.specs.Int.{bit_not}
use Rattle.bit_lists.proofs.BitLaws.{bits_are_counted}
use Rattle.bit_lists.proofs.lemmas.PickLemmas.{from-Picks, rank_below}
use Rattle.bit_lists.specs.Count.{ones_before}
use Rattle.bitm_tables.specs.Tables.{bits_in, Lists}
use Rattle.bit_words.proofs.lemmas.PositionLemmas.{few_before}
use Rattle.elias_fano.proofs.lemmas.UpperLemmas.{ones_are}
use Rattle.elias_fano.specs.Parts.{ArePartsOf}
use Rattle.elias_fano_view.proofs.RestLemmas.{masked-rest, rest-ones}
use Rattle.elias_fano_view.specs.Lists.{AreItemsFrom}
use Rattle.elias_fano_view.specs.Rests.{IsRestFrom}
use Rattle.elias_fano_view.proofs.sequence.items.write_items_on.Goals as goal
use Rattle.elias_fano_view.proofs.sequence.items.write_items_on.Goals.{After-loop-at, After-write_ones_of}

-- ---- one word

read : (g : _) (c : After-write_ones_of g) → c.word.result ≡ get_or (g.T.TableSource.lists c.args.source.now).words c.loop-at.at 0
read g c = c.word.ensures.item ∙ ap (λ (l : Lists). get_or l.words c.loop-at.at 0) c.loop-at.invariant.same

left : (g : _) (c : After-write_ones_of g)
    → IsRestFrom (g.T.TableSource.lists c.args.source.now).words (max c.args.first (64 * c.loop-at.at)) c.loop-at.at
    (bit_and c.word.result (bit_not w64 c.n_lowest_bits.result))
left g c =
    let at = c.loop-at.at in
    let fits : c.word.result < 2 ^ 64 = search rules in
    let skipped : c.saturating_sub.result ≡ max c.args.first (64 * at) - 64 * at = omega (arith, c.saturating_sub.ensures) in
    masked-rest (g.T.TableSource.lists c.args.source.now).words (max c.args.first (64 * at)) at c.word.result c.n_lowest_bits.result
    (omega (arith, c.loop-at-test.true, c.words_len-at-end.ensures)) (omega arith) (omega (arith, c.loop-at.auto.at)) (read g c) fits
    (c.n_lowest_bits.ensures ∙ ap (λ d. 2 ^ d - 1) skipped)

counted : (g : _) (c : After-write_ones_of g) → let b = bits_in (g.T.TableSource.lists c.args.source.now) in
    ones_before b (max c.args.first (64 * c.loop-at.at)) + count_ones (bit_and c.word.result (bit_not w64 c.n_lowest_bits.result))
    ≡ ones_before b (64 * (c.loop-at.at + 1))
counted g c =
    let fits : c.word.result < 2 ^ 64 = search rules in
    rest-ones (g.T.TableSource.lists c.args.source.now).words _ c.loop-at.at _ (left g c) (omega (arith, read g c, fits))

written : (g : _) (c : After-write_ones_of g) (xs : List ℕ) (n : ℕ) → let lists = g.T.TableSource.lists c.args.source.now in
    ArePartsOf xs n c.args.low.now.width c.args.low.now.words lists.words → c.args.from + c.args.most ≤ n
    → ones_before (bits_in lists) c.args.first ≡ c.args.from
    → AreItemsFrom xs c.args.from (c.loop-at.done + c.min.result) c.write_ones_of.new.out
written g c xs n parts room begin =
    let words = (g.T.TableSource.lists c.args.source.now).words in
    let i = c.loop-at.invariant in
    let W : ℕ → Type 0 = λ w. ArePartsOf xs n w c.args.low.now.words words in
    let L : List ℕ → Type 0 = λ ws. ArePartsOf xs n c.loop-at.low.width ws words in
    let here = subst L (sym i.fragments.words) (subst W (sym i.fragments.width) parts) in
    c.write_ones_of.ensures.items xs n words (max c.args.first (64 * c.loop-at.at)) here (omega (arith, room, c.min.ensures, i.most))
    (left g c) (omega (arith, i.count, begin)) (i.items xs n parts room begin)

pub loop-at-preserved : goal.loop-at-preserved
loop-at-preserved g c =
    let d = (goal.at.loop-at-preserved g c).After-write_ones_of in
    let b = bits_in (g.T.TableSource.lists c.args.source.now) in
    let i = c.loop-at.invariant in
    let next : max c.args.first (64 * (c.loop-at.at + 1)) ≡ 64 * (c.loop-at.at + 1) = omega (arith, c.loop-at.auto.at) in
    let some = c.write_ones_of.ensures.fragments in
    record {
      count = omega (arith, ap (ones_before b) next, counted g d, i.count, c.min.ensures, c.if-done-most.false);
      most = omega (arith, i.most, c.min.ensures);
      more = λ _. omega (arith, i.most, c.min.ensures, c.if-done-most.false);
      items = written g d;
      kept = λ j past. c.write_ones_of.ensures.kept.1 j past ∙ i.kept j (omega (arith, past));
      fragments = record {
        at_most = omega (arith, some.at_most, i.fragments.at_most);
        words = some.words ∙ i.fragments.words;
        width = some.width ∙ i.fragments.width;
      };
      same = c.word.ensures.same ∙ i.same;
      reads = record {
        upper = omega (arith, i.reads.upper, ap (λ r. r.upper) c.word.ensures.counted);
        lower = omega (arith, i.reads.lower, ap (λ r. r.lower) c.word.ensures.counted);
        words = omega (arith, i.reads.words, ap (λ r. r.words) c.word.ensures.counted, c.loop-at.auto.at);
        upper_kept = omega (arith, i.reads.upper_kept, ap (λ r. r.upper) c.word.ensures.counted);
        lower_kept = omega (arith, i.reads.lower_kept, ap (λ r. r.lower) c.word.ensures.counted);
        words_kept = omega (arith, i.reads.words_kept, ap (λ r. r.words) c.word.ensures.counted);
      };
    }

-- ---- where all are written

pub returns-then-done-most-clause-ones : goal.returns-then-done-most-clause-ones
returns-then-done-most-clause-ones g c =
    let d = (goal.at.returns-then-done-most-clause-ones g c).After-write_ones_of in
    let among = few_before (bits_in (g.T.TableSource.lists c.args.source.now)) true (64 * (c.loop-at.at + 1)) in
    omega (arith, among, counted g d, c.loop-at.invariant.count, c.min.ensures, c.if-done-most.true)

pub returns-then-done-most-clause-items : goal.returns-then-done-most-clause-items
returns-then-done-most-clause-items g c = λ xs n parts room begin.
    let d = (goal.at.returns-then-done-most-clause-items g c).After-write_ones_of in
    (refl, λ j less. written g d xs n parts room begin j (omega (arith, less, c.if-done-most.true)))

pub returns-then-done-most-clause-once : goal.returns-then-done-most-clause-once
returns-then-done-most-clause-once g c p some picked =
    let b = bits_in (g.T.TableSource.lists c.args.source.now) in
    let i = c.loop-at.invariant in
    let from = from-Picks b true (max c.args.first (64 * c.loop-at.at)) _ p (omega (arith, i.count, i.more some)) picked in
    record {
      upper = omega (arith, i.reads.upper, ap (λ r. r.upper) c.word.ensures.counted);
      lower = omega (arith, i.reads.lower, ap (λ r. r.lower) c.word.ensures.counted);
      words = omega (arith, i.reads.words, ap (λ r. r.words) c.word.ensures.counted, c.loop-at.auto.at, from);
      upper_kept = omega (arith, i.reads.upper_kept, ap (λ r. r.upper) c.word.ensures.counted);
      lower_kept = omega (arith, i.reads.lower_kept, ap (λ r. r.lower) c.word.ensures.counted);
      words_kept = omega (arith, i.reads.words_kept, ap (λ r. r.words) c.word.ensures.counted);
    }

-- ---- where no word is left

all : (g : _) (c : After-loop-at g) → let b = bits_in (g.T.TableSource.lists c.args.source.now) in
    ones_before b (length b) ≡ ones_before b c.args.first + c.loop-at.done
all g c =
    let b = bits_in (g.T.TableSource.lists c.args.source.now) in
    let bits = bits_are_counted (g.T.TableSource.lists c.args.source.now).words in
    let end : max c.args.first (64 * c.loop-at.at) ≡ length b =
    omega (arith, bits, c.requires.first, c.loop-at-test.false, c.loop-at.auto.at-end, c.words_len-at-end.ensures) in
    ap (ones_before b) (sym end) ∙ c.loop-at.invariant.count

pub returns-clause-ones : goal.returns-clause-ones
returns-clause-ones g c = omega (arith, all g c, c.loop-at.invariant.most)

pub returns-clause-items : goal.returns-clause-items
returns-clause-items g c = λ xs n parts room begin.
    let here = ones_are xs c.args.low.now.width (g.T.TableSource.lists c.args.source.now).words parts.upper_is in
    (omega (arith, all g c, here, begin, room, parts.count, c.loop-at.invariant.most), c.loop-at.invariant.items xs n parts room begin)

pub returns-clause-reads : goal.returns-clause-reads
returns-clause-reads g c =
    let i = c.loop-at.invariant in
    let bits = bits_are_counted (g.T.TableSource.lists c.args.source.now).words in
    record {
      at_most = record {
        upper = i.reads.upper;
        lower = i.reads.lower;
        words = omega (arith, i.reads.words, c.loop-at.auto.at-end, c.words_len-at-end.ensures, c.requires.first, bits);
        upper_kept = i.reads.upper_kept;
        lower_kept = i.reads.lower_kept;
        words_kept = i.reads.words_kept;
      };
      same = i.same;
    }

pub returns-clause-once : goal.returns-clause-once
returns-clause-once g c p some picked =
    let b = bits_in (g.T.TableSource.lists c.args.source.now) in
    absurd (omega (arith, rank_below b true _ p picked, all g c, c.loop-at.invariant.more some))

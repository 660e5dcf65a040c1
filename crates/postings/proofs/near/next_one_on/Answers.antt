-- A word shows where its bits are ones.
use Rattle.std.proofs.Common.{◌≡◌, ◌+◌, ◌*◌, ◌-◌, ◌/◌, ◌<◌, ◌≤◌, ℕ, get_or, [], ◌∷◌, ap, sym, ◌∙◌, false, arith, ⊎_elim, length}
use Rattle.std.proofs.lemmas.Bool.{cases_lt}
use Rattle.bit_lists.specs.Bits.{bits_of, item}
use Rattle.bitm_tables.specs.Tables.{bits_in, Lists}
use Rattle.bit_lists.proofs.BitLaws.{bits_are_counted}
use Rattle.postings.proofs.WordLemmas.{one_word}
use Rattle.postings.proofs.near.next_one_on.Goals as goal
use Rattle.postings.proofs.near.next_one_on.Goals.{After-find_bit_one}

inside : (g : _) (c : After-find_bit_one g) → c.args.position / 64 + c.loop-k.k < length (g.T.TableSource.lists c.args.source.now).words
inside g c = omega (arith, c.words_len.ensures, c.if-first-k.false, ap (λ (l : Lists). length l.words) c.loop-k.invariant.reads.same)

bit : (g : _) (c : After-find_bit_one g) (j : ℕ) → j < 64 → item (bits_of (c.word-word.result ∷ [])) j ≡ item (bits_in (g.T.TableSource.lists c.args.source.now)) (64 * (c.args.position / 64 + c.loop-k.k) + j)
bit g c j l =
    let words = (g.T.TableSource.lists c.args.source.now).words in
    one_word words c.word-word.result (c.args.position / 64 + c.loop-k.k) j (inside g c)
    (c.word-word.ensures.item ∙ ap (λ (l : Lists). get_or l.words (c.args.position / 64 + c.loop-k.k) 0) c.loop-k.invariant.reads.same) l

pub overflow_add-result-in-Some : goal.overflow_add-result-in-Some
overflow_add-result-in-Some g c = omega (arith, inside g (goal.at.overflow_add-result-in-Some g c).After-find_bit_one, c.requires, c.in-Some.ensures.inside, bits_are_counted (c.word-word.result ∷ []))

pub returns-in-Some-clause-first : goal.returns-in-Some-clause-first
returns-in-Some-clause-first g c =
    let w = (goal.at.returns-in-Some-clause-first g c).After-find_bit_one in
    let b = bits_in (g.T.TableSource.lists c.args.source.now) in
    let e = c.in-Some.ensures in
    let K = c.args.position / 64 + c.loop-k.k in
    let small : c.in-Some.digit < 64 = omega (arith, e.inside, bits_are_counted (c.word-word.result ∷ [])) in
    let is : 64 * K + c.in-Some.digit ≡ K * 64 + c.in-Some.digit = omega arith in
    record {
      from = omega (arith, c.loop-k.invariant.order, e.from);
      inside = omega (arith, inside g w, small, bits_are_counted (g.T.TableSource.lists c.args.source.now).words);
      is = ap (item b) (sym is) ∙ (sym (bit g w c.in-Some.digit small) ∙ e.is);
      least = λ i from less. ⊎_elim
          (λ (before : i < 64 * K + c.loop-k.from). c.loop-k.invariant.zeros i from before)
          (λ (past : 64 * K + c.loop-k.from ≤ i).
          let there : 64 * K + (i - 64 * K) ≡ i = omega (arith, past) in
          ap (item b) (sym there) ∙ (sym (bit g w (i - 64 * K) (omega (arith, less, small))) ∙ e.least (i - 64 * K) (omega (arith, past)) (omega (arith, less, past))))
          (cases_lt i (64 * K + c.loop-k.from));
    }

pub loop-k-preserved : goal.loop-k-preserved
loop-k-preserved g c =
    let w = (goal.at.loop-k-preserved g c).After-find_bit_one in
    let b = bits_in (g.T.TableSource.lists c.args.source.now) in
    let K = c.args.position / 64 + c.loop-k.k in
    let none : (j : ℕ) → c.loop-k.from ≤ j → item (bits_of (c.word-word.result ∷ [])) j ≡ false = c.in_default.ensures in
    let read = c.loop-k.invariant.reads in
    record {
      zeros = λ i from less. ⊎_elim
          (λ (before : i < 64 * K + c.loop-k.from). c.loop-k.invariant.zeros i from before)
          (λ (past : 64 * K + c.loop-k.from ≤ i).
          let there : 64 * K + (i - 64 * K) ≡ i = omega (arith, past) in
          ap (item b) (sym there) ∙ (sym (bit g w (i - 64 * K) (omega (arith, less, past))) ∙ none (i - 64 * K) (omega (arith, past))))
          (cases_lt i (64 * K + c.loop-k.from));
      order = omega (arith, c.loop-k.invariant.order, c.loop-k.invariant.digit);
      digit = omega arith;
      reads = record {
        at_most = record {
          upper = omega (arith, read.at_most.upper, ap (λ r. r.upper) c.word-word.ensures.counted);
          lower = omega (arith, read.at_most.lower, ap (λ r. r.lower) c.word-word.ensures.counted);
          words = omega (arith, read.at_most.words, ap (λ r. r.words) c.word-word.ensures.counted);
          upper_kept = omega (arith, read.at_most.upper_kept, ap (λ r. r.upper) c.word-word.ensures.counted);
          lower_kept = omega (arith, read.at_most.lower_kept, ap (λ r. r.lower) c.word-word.ensures.counted);
          words_kept = omega (arith, read.at_most.words_kept, ap (λ r. r.words) c.word-word.ensures.counted);
        };
        same = c.word-word.ensures.same ∙ read.same;
      };
    }

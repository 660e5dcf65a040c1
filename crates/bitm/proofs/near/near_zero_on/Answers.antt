-- The word that is read holds bits of the content, so its first zero is the first of all, behind the ones before it.
use Rattle.std.proofs.Common.{◌≡◌, ◌/◌, ◌<◌, [], ◌∷◌, length, get_or, ap, ◌∙◌, arith}
use Rattle.bitm_tables.specs.Tables.{Lists}
use Rattle.bit_lists.proofs.lemmas.BitsLemmas.{length-bits_of}
use Rattle.bit_lists.proofs.BitLaws.{bits_are_counted}
use Rattle.bitm.proofs.lemmas.NearLemmas.{near-found, near-none}
use Rattle.bitm.proofs.near.near_zero_on.Goals as goal
use Rattle.bitm.proofs.near.near_zero_on.Goals.{After-word-word}

inside : (g : _) (c : After-word-word g) → c.loop.start / 64 < length (g.T.TableSource.lists c.args.source.now).words
inside g c = omega (arith, c.if-at-words_len.false, c.words_len.ensures, ap (λ (l : Lists). length l.words) c.loop.invariant.same)

word : (g : _) (c : After-word-word g)
    → c.word-word.result ≡ get_or (g.T.TableSource.lists c.args.source.now).words (c.loop.start / 64) 0
word g c = c.word-word.ensures.item ∙ ap (λ (l : Lists). get_or l.words (c.loop.start / 64) 0) c.loop.invariant.same

pub overflow_add-result : goal.overflow_add-result
overflow_add-result g c =
    let at = (goal.at.overflow_add-result g c).After-word-word in
    record { fits = omega (arith, inside g at, c.requires, c.in-Some.ensures.inside, length-bits_of (c.word-word.result ∷ [])) }

pub returns-in-Some-clause-zero : goal.returns-in-Some-clause-zero
returns-in-Some-clause-zero g c =
    let at = (goal.at.returns-in-Some-clause-zero g c).After-word-word in
    let h = c.loop.invariant in
    near-found (g.T.TableSource.lists c.args.source.now).words (c.loop.start / 64) c.word-word.result (inside g at) (word g at)
    c.args.from c.loop.start (omega arith) h.order h.ones c.in-Some.position c.in-Some.ensures

pub returns-then-at-words_len-clause-zero : goal.returns-then-at-words_len-clause-zero
returns-then-at-words_len-clause-zero g c = λ p order near inside.
    let h = c.loop.invariant in
    h.ones p order (omega (
      arith,
      inside,
      bits_are_counted (g.T.TableSource.lists c.args.source.now).words,
      c.if-at-words_len.true,
      c.words_len.ensures,
      ap (λ (l : Lists). length l.words) h.same,
    ))

pub returns-clause-zero : goal.returns-clause-zero
returns-clause-zero g c = λ p order near inside.
    let h = c.loop.invariant in
    h.ones p order (omega (arith, near, h.on))

pub loop-preserved : goal.loop-preserved
loop-preserved g c =
    let at = (goal.at.loop-preserved g c).After-word-word in
    let h = c.loop.invariant in
    record {
      order = omega (arith, h.order);
      on = omega (arith, h.on);
      ones = near-none (g.T.TableSource.lists c.args.source.now).words (c.loop.start / 64) c.word-word.result (inside g at) (word g at)
          c.args.from c.loop.start (omega arith) h.order h.ones c.in_default.ensures;
      same = c.word-word.ensures.same ∙ h.same;
      reads = record {
        upper = omega (arith, h.reads.upper, ap (λ r. r.upper) c.word-word.ensures.counted);
        lower = omega (arith, h.reads.lower, ap (λ r. r.lower) c.word-word.ensures.counted);
        words = omega (arith, h.reads.words, ap (λ r. r.words) c.word-word.ensures.counted);
        upper_kept = omega (arith, h.reads.upper_kept, ap (λ r. r.upper) c.word-word.ensures.counted);
        lower_kept = omega (arith, h.reads.lower_kept, ap (λ r. r.lower) c.word-word.ensures.counted);
        words_kept = omega (arith, h.reads.words_kept, ap (λ r. r.words) c.word-word.ensures.counted);
      };
    }

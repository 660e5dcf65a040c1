-- The word that is read holds bits of the content, so its last zero is the last of all, before the ones behind it.
use Rattle.std.proofs.Common.{◌≡◌, ◌/◌, length, get_or, ap, ◌∙◌, arith}
use Rattle.bit_lists.proofs.BitLaws.{bits_are_counted}
use Rattle.bitm_tables.specs.Tables.{Lists}
use Rattle.louds.proofs.lemmas.NearLemmas.{last-found, last-none}
use Rattle.louds.proofs.near.near_last_zero_on.Goals as goal
use Rattle.louds.proofs.near.near_last_zero_on.Goals.{After-word-word}

pub word-word-requires : goal.word-word-requires
word-word-requires g c =
    omega (
      arith,
      c.requires.inside,
      bits_are_counted (g.T.TableSource.lists c.args.source.now).words,
      c.loop.invariant.order,
      ap (λ (l : Lists). length l.words) c.loop.invariant.same,
    )

word : (g : _) (c : After-word-word g)
    → c.word-word.result ≡ get_or (g.T.TableSource.lists c.args.source.now).words (c.loop.last / 64) 0
word g c = c.word-word.ensures.item ∙ ap (λ (l : Lists). get_or l.words (c.loop.last / 64) 0) c.loop.invariant.same

pub returns-in-Some-clause-zero : goal.returns-in-Some-clause-zero
returns-in-Some-clause-zero g c =
    let h = c.loop.invariant in
    last-found (g.T.TableSource.lists c.args.source.now).words c.loop.last c.word-word.result (omega (arith, c.requires.inside, h.order))
    (word g (goal.at.returns-in-Some-clause-zero g c).After-word-word) c.args.to h.order h.ones c.in-Some.position c.in-Some.ensures

pub returns-then-at-eq0-clause-zero : goal.returns-then-at-eq0-clause-zero
returns-then-at-eq0-clause-zero g c = λ p order near.
    let h = c.loop.invariant in
    last-none (g.T.TableSource.lists c.args.source.now).words c.loop.last c.word-word.result (omega (arith, c.requires.inside, h.order))
    (word g (goal.at.returns-then-at-eq0-clause-zero g c).After-word-word) c.args.to h.order h.ones c.in_default.ensures
    p (omega (arith, c.if-at-eq0.true)) order

pub loop-preserved : goal.loop-preserved
loop-preserved g c =
    let h = c.loop.invariant in
    record {
      order = omega (arith, h.order);
      back = omega (arith, h.back, c.if-at-eq0.false);
      ones = λ i more most.
          last-none (g.T.TableSource.lists c.args.source.now).words c.loop.last c.word-word.result (omega (arith, c.requires.inside, h.order))
          (word g (goal.at.loop-preserved g c).After-word-word) c.args.to h.order h.ones c.in_default.ensures
          i (omega (arith, more, c.if-at-eq0.false)) most;
      same = c.word-word.ensures.same ∙ h.same;
      reads = record {
        upper = omega (arith, h.reads.upper, ap (λ r. r.upper) c.word-word.ensures.counted);
        lower = omega (arith, h.reads.lower, ap (λ r. r.lower) c.word-word.ensures.counted);
        words = omega (arith, h.reads.words, ap (λ r. r.words) c.word-word.ensures.counted);
        upper_kept = omega (arith, h.reads.upper_kept, ap (λ r. r.upper) c.word-word.ensures.counted);
        lower_kept = omega (arith, h.reads.lower_kept, ap (λ r. r.lower) c.word-word.ensures.counted);
        words_kept = omega (arith, h.reads.words_kept, ap (λ r. r.words) c.word-word.ensures.counted);
      };
    }

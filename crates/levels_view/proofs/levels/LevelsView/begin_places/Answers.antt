-- One more number begins, while the others stay.
use Rattle.std.proofs.Common.{◌≡◌, ℕ, ◌^◌, ◌<◌, ◌≤◌, get_or, length, ◌∙◌, arith}
use Rattle.std.proofs.lemmas.List.{length-set}
use Rattle.bitm_tables.specs.Tables.{Lists}
use Rattle.matrix_levels.proofs.lemmas.ManyLemmas.{done-more}
use Rattle.levels_view.specs.Walk.{IsPositionOnTheWay}
use Rattle.levels_view.proofs.levels.LevelsView.begin_places.Goals as goal

pub loop-k-preserved : goal.loop-k-preserved
loop-k-preserved c =
    let l = c.args.self.now in
    let i = c.loop-k.invariant in
    let k = c.loop-k.k in
    let us = c.loop-k.firsts in
    let vs = c.loop-k.lasts in
    let within : k < length us = omega (arith, c.loop-k-test.true, i.firsts_len) in
    let room : k < length vs = omega (arith, c.loop-k-test.true, i.lasts_len) in
    let P : ℕ → ℕ → ℕ → Type 0 = λ j p q. (lists : Lists) → get_or c.args.numbers.now j 0 < 2 ^ l.width
    → IsPositionOnTheWay l lists l.known (get_or c.args.numbers.now j 0) 0 p in
    let Q : ℕ → ℕ → ℕ → Type 0 = λ j p q. get_or c.args.ends.now j 0 ≤ l.len → p ≡ get_or c.args.ends.now j 0 in
    record {
      firsts_len = length-set us k _ ∙ i.firsts_len;
      lasts_len = length-set vs k _ ∙ i.lasts_len;
      starts = done-more P us us k _ 0 within within i.starts c.known_position.ensures;
      ends = done-more Q vs vs k _ 0 room room i.ends c.end_position.ensures;
    }

pub returns-clause-starts : goal.returns-clause-starts
returns-clause-starts c = λ k less. c.loop-k.invariant.starts k (omega (arith, less, c.loop-k-test.false))

pub returns-clause-ends : goal.returns-clause-ends
returns-clause-ends c = λ k less. c.loop-k.invariant.ends k (omega (arith, less, c.loop-k-test.false))

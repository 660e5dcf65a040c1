use Rattle.std.proofs.Common.{◌≡◌, ℕ, ◌+◌, ◌^◌, ◌<◌, List, [], length, get_or, sym, ap, ap₂, subst, ◌∙◌, arith, rules}
use Rattle.std.proofs.lemmas.List.{nil_from_length}
use Rattle.bit_lists.specs.Coming.{coming}
use Rattle.bit_lists.proofs.lemmas.PositionLemmas.{coming_end, coming_turn, coming_next}
use Rattle.bit_words.proofs.positions.BitBIteratorIterator.next.Goals as goal

pub returns-in_err-word-clause-steps : goal.returns-in_err-word-clause-steps
returns-in_err-word-clause-steps g c =
    let it = c.loop-self.self-inside in
    let ended : coming g.row.BIT it.first it.current it.rest.now ≡ [] =
    ap₂ (λ x r. coming g.row.BIT it.first x r) c.loop-self-test.true (nil_from_length it.rest.now c.in_err-word.ensures.cases)
    ∙ coming_end g.row.BIT it.first in
    rw c.from_residual.ensures (sym c.self.view_is ∙ sym c.loop-self.invariant.same ∙ ended, ended)

pub loop-self-preserved : goal.loop-self-preserved
loop-self-preserved g c =
    let it = c.loop-self.self-inside in
    let rest = c.in_ok-word.rest.now in
    let cut = c.in_ok-word.ensures.cases.0 in
    let first_word : get_or it.rest.now 0 0 < 2 ^ 64 = search rules in
    let P : List ℕ → Type 0 = λ words. get_or words 0 0 < 2 ^ 64 in
    record {
      same =
          ap (λ x. coming g.row.BIT (it.first + 64) x rest) c.word_of-self-inside.ensures
          ∙ sym (coming_turn g.row.BIT it.first c.in_ok-word.word.now rest (subst P cut first_word))
          ∙ sym (ap₂ (λ x r. coming g.row.BIT it.first x r) c.loop-self-test.true cut)
          ∙ c.loop-self.invariant.same;
      room = omega (arith, c.in_ok-word.ensures.cases.1, c.loop-self.invariant.room);
    }

pub returns-clause-steps : goal.returns-clause-steps
returns-clause-steps g c =
    let it = c.loop-self.self-inside in
    let fits : it.current < 2 ^ 64 = search rules in
    sym c.self.view_is ∙ sym c.loop-self.invariant.same ∙ coming_next g.row.BIT it.first it.current it.rest.now (omega arith) fits

pub returns-clause-goes : goal.returns-clause-goes
returns-clause-goes g c =
    let step = ap length (returns-clause-steps g c) in
    record { on = λ f. (tt, tt, omega (arith, step)); keeps = tt; rests = λ f. tt }

-- The bit at the start of the range comes, and the range goes on after it.
use Rattle.std.proofs.Common.{length, sym, ap, ◌∙◌, arith, rules}
use Rattle.bit_lists.proofs.lemmas.ComingLemmas.{ended_bits_coming, bits_coming_step}
use Rattle.bit_lists.specs.Coming.{bits_left}
use Rattle.bit_words.proofs.each_bit.BitIteratorIterator.next.Goals as goal

pub returns-in_err-position-clause-steps : goal.returns-in_err-position-clause-steps
returns-in_err-position-clause-steps c =
    let it = c.self.inside in
    let to = c.next.new.self in
    let ended = c.in_err-position.ensures.steps in
    let none = ended_bits_coming it.words.now it.range.start it.range.end to.start to.end (omega (arith, ended.1.0))
    (omega (arith, ended.0, ended.1.0, ended.1.1)) in
    (rw c.from_residual.ensures (sym (ap bits_left c.self.view_is) ∙ none.0, none.1), search rules)

pub returns-clause-steps : goal.returns-clause-steps
returns-clause-steps c =
    let it = c.self.inside in
    let to = c.next.new.self in
    let step = c.in_ok-position.ensures.steps in (
      sym (ap bits_left c.self.view_is)
          ∙ bits_coming_step it.words.now it.range.start it.range.end to.start to.end c.in_ok-position.position c.get_bit.result c.self.invariant.0
          step.1.0 step.0 step.1.1 step.1.2 c.get_bit.ensures,
      search rules,
    )

pub returns-clause-goes : goal.returns-clause-goes
returns-clause-goes c =
    let step = ap length (returns-clause-steps c).0 in
    record { on = λ f. (tt, tt, omega (arith, step)); keeps = tt; rests = λ f. tt }

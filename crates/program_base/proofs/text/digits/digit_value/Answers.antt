use Rattle.std.proofs.Common.{sym, ◌∙◌}
use Rattle.program_base.proofs.lemmas.NumeralLemmas.{digit_none, digit_some}
use Rattle.program_base.proofs.text.digits.digit_value.Goals as goal

pub returns : goal.returns
returns c =
    let h = rw c.from.ensures at c.in_ok-digit.ensures.value in
    sym (digit_some c.args.radix c.args.byte c.from-2.result h.0 (sym h.1 ∙ sym c.from-2.ensures))

pub returns-in_err-digit : goal.returns-in_err-digit
returns-in_err-digit c =
    let h = rw c.from.ensures at c.in_err-digit.ensures.value in
    c.from_residual.ensures ∙ sym (digit_none c.args.radix c.args.byte h)

use Rattle.std.proofs.Common.{sym, ap, ◌∙◌, Some, arith}
use Rattle.std.proofs.lemmas.Grind.{common_steps}
use Rattle.std.proofs.lemmas.List.{take_all}
use Rattle.program_base.proofs.lemmas.NumeralLemmas.{number_length, number_digit, number_large_at, number_is, number_more}
use Rattle.program_base.proofs.text.digits.number.Goals as goal

pub returns-then-is_empty : goal.returns-then-is_empty
returns-then-is_empty c = grind (arith, common_steps, number_length)

pub returns-in_err-next : goal.returns-in_err-next
returns-in_err-next c =
    c.from_residual.ensures ∙ sym (number_digit c.args.radix c.args.most c.args.digits.now c.loop-byte.byte-index (omega arith) (sym c.in_err-next.ensures))

pub returns-in_err-checked_mul : goal.returns-in_err-checked_mul
returns-in_err-checked_mul c =
    c.from_residual-in_err-checked_mul.ensures
    ∙ sym (number_large_at c.args.radix c.args.most c.args.digits.now c.loop-byte.byte-index c.in_ok-next.next (omega arith) (omega arith) (sym c.in_ok-next.ensures) (grind arith))

pub returns-in_err-value : goal.returns-in_err-value
returns-in_err-value c =
    c.from_residual-in_err-value.ensures
    ∙ sym (number_large_at c.args.radix c.args.most c.args.digits.now c.loop-byte.byte-index c.in_ok-next.next (omega arith) (omega arith) (sym c.in_ok-next.ensures) (grind arith))

pub loop-byte-preserved : goal.loop-byte-preserved
loop-byte-preserved c =
    let m = number_more c.args.radix c.args.digits.now c.loop-byte.byte-index c.in_ok-next.next (omega arith) (sym c.in_ok-next.ensures) c.loop-byte.invariant.1 in
    (grind (arith, m.0), m.1, grind arith)

pub returns : goal.returns
returns c =
    let all = take_all c.loop-byte.byte-index c.args.digits.now (omega arith) in
    let v = rw all at c.loop-byte.invariant.0 in
    let d = rw all at c.loop-byte.invariant.1 in
    ap Some v ∙ sym (number_is c.args.radix c.args.most c.args.digits.now (grind arith) (omega arith) d (omega (arith, v)))

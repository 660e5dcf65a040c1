use Rattle.std.proofs.Common.{◌+◌, ◌<◌, ◌^◌, inl, arith, length, subst, sym}
use Rattle.program_base.proofs.lemmas.LineLemmas.{lines-few}
use Rattle.program_base.proofs.text.list.wrong_line.Goals as goal

pub position-requires-clause-fits : goal.position-requires-clause-fits
position-requires-clause-fits c =
    let few = lines-few c.args.text.now in
    inl (subst (λ l. 0 + length l < 2 ^ 64) (sym c.new.ensures) (omega (arith, few)))

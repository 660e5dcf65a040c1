use Rattle.std.proofs.Common.{nat_eq, arith}
use Rattle.std.proofs.lemmas.Grind.{common_steps}
use Rattle.program_base.proofs.lemmas.LineLemmas.{only_of_many}
use Rattle.program_base.proofs.text.lines.only_part.Goals as goal

pub returns-in_default-Some : goal.returns-in_default-Some
returns-in_default-Some c =
    let many = only_of_many (λ b. nat_eq b 32) c.first_part.result.0.now c.in_default-Some.field-0-1.now in
    grind (arith, common_steps)

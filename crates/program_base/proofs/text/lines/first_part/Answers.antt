use Rattle.std.proofs.Common.{nat_eq, sym, ◌∙◌, rules, tests}
use Rattle.std.proofs.lemmas.Iterator.{YieldsList-from_slice}
use Rattle.std.proofs.lemmas.Iterator.Search.{position_from_yields_List}
use Rattle.program_base.proofs.lemmas.LineLemmas.{first_of_many, first_alone}
use Rattle.program_base.proofs.text.lines.first_part.Goals as goal

pub returns-in-Some-clause-parts : goal.returns-in-Some-clause-parts
returns-in-Some-clause-parts c =
    first_of_many (λ b. nat_eq b c.args.separator) c.args.text.now 0 c.in-Some.at
    (sym (position_from_yields_List (λ b. nat_eq b c.args.separator) _ _ _ c.position.ensures.ran (YieldsList-from_slice c.args.text.now c.iter.ensures.rest) (λ x b q k. search (rules, tests))) ∙ c.in-Some.is)

pub returns-in-None-clause-parts : goal.returns-in-None-clause-parts
returns-in-None-clause-parts c =
    first_alone (λ b. nat_eq b c.args.separator) c.args.text.now
    (sym (position_from_yields_List (λ b. nat_eq b c.args.separator) _ _ _ c.position.ensures.ran (YieldsList-from_slice c.args.text.now c.iter.ensures.rest) (λ x b q k. search (rules, tests))) ∙ c.in-None.is)

use Rattle.std.proofs.Common.{◌∙◌, ap, nat_lt, sym, rules, tests}
use Rattle.std.proofs.lemmas.Iterator.{YieldsList-from_slice}
use Rattle.std.proofs.lemmas.Iterator.Search.{any_from_yields_List}
use Rattle.program_files.specs.Answers.{is_found}
use Rattle.program_files.proofs.texts.answering.is_found.Goals as goal

pub returns-in-Count : goal.returns-in-Count
returns-in-Count c =
    any_from_yields_List (λ count. nat_lt 0 count) _ _ _ c.any.ensures.ran
    (YieldsList-from_slice c.args.numbers.now c.iter.ensures.rest) (λ x b q k. search (rules, tests))
    ∙ ap (λ a. is_found a c.args.numbers.now) (sym c.in-Count.is)

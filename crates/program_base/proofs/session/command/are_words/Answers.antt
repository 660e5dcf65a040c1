use Rattle.std.proofs.Common.{nat_eq, is_some, rules, tests}
use Rattle.std.proofs.lemmas.Iterator.Search.{all_from_yields_List}
use Rattle.std.proofs.lemmas.Iterator.Splits.{YieldsList-from_slice_split}
use Rattle.program_base.specs.Text.{hexadecimal_of}
use Rattle.program_base.proofs.session.command.are_words.Goals as goal

pub returns : goal.returns
returns c =
    all_from_yields_List (λ part. is_some (hexadecimal_of part)) _ _ _ c.all.ensures.ran
    (YieldsList-from_slice_split _ (λ b. nat_eq b 32) c.args.text.now c.split-parts.ensures.rest c.split-parts.ensures.done c.split-parts.ensures.closure (λ x b q k. search (rules, tests)))
    (λ x b q k. search (rules, tests))

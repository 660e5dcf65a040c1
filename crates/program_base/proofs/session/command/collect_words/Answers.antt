use Rattle.std.proofs.Common.{nat_eq, ◌++◌, ap, ◌∙◌, rules, tests}
use Rattle.std.proofs.lemmas.Iterator.Adapters.{items_from_extend}
use Rattle.std.proofs.lemmas.Iterator.Consumers.{YieldsList-from_filter_map, YieldsList-at}
use Rattle.std.proofs.lemmas.Iterator.Splits.{YieldsList-from_slice_split}
use Rattle.std.specs.List.{filter_map}
use Rattle.program_base.specs.Text.{hexadecimal_of, parts_between_spaces}
use Rattle.program_base.proofs.session.command.collect_words.Goals as goal

pub returns : goal.returns
returns c =
    let pushed =
    items_from_extend c.extend.result c.extend.ensures.ran
    (YieldsList-from_filter_map _ hexadecimal_of
    (YieldsList-at c.filter_map.ensures.source (YieldsList-from_slice_split _ (λ b. nat_eq b 32) c.args.text.now c.split-parts.ensures.rest c.split-parts.ensures.done c.split-parts.ensures.closure (λ x b q k. search (rules, tests))))
    c.filter_map.ensures.closure (λ x r q k. search (rules, tests))) in
    let all = rw c.in_ok-extend.was at pushed in
    all.0 ∙ ap (λ xs. xs ++ filter_map hexadecimal_of (parts_between_spaces c.args.text.now)) c.in_ok-words.ensures.items

use Rattle.std.proofs.Common.{◌++◌, ap, ◌∙◌, rules, tests}
use Rattle.std.proofs.lemmas.Iterator.Adapters.{items_from_extend}
use Rattle.std.proofs.lemmas.Iterator.Consumers.{YieldsList-from_filter_map, YieldsList-from_first, YieldsList-at}
use Rattle.std.specs.Str.Lines.{lines}
use Rattle.program_base.specs.List.{numbers_in_lines}
use Rattle.program_base.specs.Text.{decimal_of}
use Rattle.program_base.proofs.text.list.collect_numbers.Goals as goal

pub returns : goal.returns
returns c =
    let pushed =
    items_from_extend c.extend.result c.extend.ensures.ran
    (YieldsList-from_filter_map _ decimal_of
    (YieldsList-at c.filter_map.ensures.source (YieldsList-from_first (λ line. line.now) (λ l. l) (lines c.args.text.now) c.new.ensures))
    c.filter_map.ensures.closure (λ x r q k. search (rules, tests))) in
    let all = rw c.in_ok-extend.was at pushed in
    all.0 ∙ ap (λ xs. xs ++ numbers_in_lines c.args.text.now) c.new-numbers.ensures.items

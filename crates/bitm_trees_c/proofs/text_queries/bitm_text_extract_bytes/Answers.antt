-- What is answered is reported by the status.
use Rattle.std.proofs.Common.{subst, ◌≤◌}
use Rattle.text_block.specs.Block.{TextParts, bytes_of_parts}
use Rattle.bitm_trees_c.specs.Text.{width_of_bytes}
use Rattle.bitm_trees_c.proofs.TextLemmas.{narrow, part_claimed}
use Rattle.bitm_trees_c.proofs.text_queries.bitm_text_extract_bytes.Goals as goal

pub returns-in-Some-extract_bytes-clause-answer : goal.returns-in-Some-extract_bytes-clause-answer
returns-in-Some-extract_bytes-clause-answer c =
    let e = c.in-Some-extract_bytes.ensures in
    let is_narrow = subst (λ (p : TextParts). width_of_bytes p ≤ 8) c.in-Some.ensures.1 (narrow _ c.in-Some-extract_bytes.answer _ e.wide) in
    part_claimed bytes_of_parts width_of_bytes c.args.from c.extract_bytes.new.out _ _ c.in-Some.ensures.1 _ (record { lengths = c.in-Some.ensures.0; narrow = is_narrow }) c.report.result _
    c.report.new.out _ c.report.ensures (record { inside = e.inside; right = e.answer })

-- What is answered is reported.
use Rattle.bitm_abi.proofs.ClaimedLemmas.{claimed}
use Rattle.text_block.specs.Block.{bytes_of_parts}
use Rattle.bitm_trees_c.specs.Text.{IsCountIn}
use Rattle.bitm_trees_c.proofs.text_queries.bitm_text_count_bytes.Goals as goal

pub returns-in-Some : goal.returns-in-Some
returns-in-Some c =
    claimed (IsCountIn bytes_of_parts c.args.pattern.now) _ _ c.in-Some.ensures.1 _ c.in-Some.ensures.0 c.report.result c.args.out.now
    c.report.new.out _ c.report.ensures (record { inside = c.count_bytes.ensures.inside; right = c.count_bytes.ensures.answer })

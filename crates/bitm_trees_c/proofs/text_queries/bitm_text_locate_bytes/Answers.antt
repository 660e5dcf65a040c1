-- What is answered is reported.
use Rattle.bitm_abi.proofs.ClaimedLemmas.{claimed}
use Rattle.text_block.specs.Block.{bytes_of_parts}
use Rattle.bitm_trees_c.specs.Text.{ArePositionsIn}
use Rattle.bitm_trees_c.proofs.text_queries.bitm_text_locate_bytes.Goals as goal

pub returns-in-Some-clause-answer : goal.returns-in-Some-clause-answer
returns-in-Some-clause-answer c =
    claimed (ArePositionsIn bytes_of_parts c.args.pattern.now c.args.from c.args.out.now c.locate_bytes.new.out) _ _ c.in-Some.ensures.1 _ c.in-Some.ensures.0 c.report.result
    c.args.written.now c.report.new.out _ c.report.ensures (record { inside = c.locate_bytes.ensures.inside; right = c.locate_bytes.ensures.answer })

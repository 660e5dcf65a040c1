-- What is answered is reported by the status.
use Rattle.text_block.specs.Block.{text_of_parts}
use Rattle.bitm_trees_c.specs.Text.{letter_width}
use Rattle.bitm_trees_c.proofs.TextLemmas.{part_claimed}
use Rattle.bitm_trees_c.proofs.text_queries.bitm_text_extract.Goals as goal

pub returns-in-Some-clause-answer : goal.returns-in-Some-clause-answer
returns-in-Some-clause-answer c =
    part_claimed text_of_parts letter_width c.args.from c.extract.new.out _ _ c.in-Some.ensures.1 _ c.in-Some.ensures.0 c.report.result _ c.report.new.out _ c.report.ensures
    (record { inside = c.extract.ensures.inside; right = c.extract.ensures.answer })

-- What was sealed has the sections that were written.
use Rattle.std.proofs.Common.{arith}
use Rattle.matrix_block.proofs.BlockLemmas.{hinted, marked}
use Rattle.matrix_block.proofs.LevelLemmas.{has-room, is-completed, is-sound}
use Rattle.matrix_block.specs.Block.{first_at}
use Rattle.matrix_block.specs.Levelwise.{Completes}
use Rattle.matrix_block.proofs.building.seal_levels.Goals as goal
use Rattle.matrix_block.proofs.building.seal_levels.Goals.{After-seal_matrix}

completes : (c : After-seal_matrix)
    → Completes c.args.len c.args.width (first_at c.args.quarters c.args.hints) c.args.block.now c.seal_matrix.new.block
completes c =
    is-completed c.args.len c.args.width c.args.quarters c.args.hints c.args.block.now c.write_sections.new.block c.seal_matrix.new.block
    c.seal_matrix.ensures c.write_sections.ensures.parts c.write_sections.ensures.quarters c.write_sections.ensures.hints

pub returns-clause-block : goal.returns-clause-block
returns-clause-block c = completes (goal.at.returns-clause-block c).After-seal_matrix

pub returns-clause-sound : goal.returns-clause-sound
returns-clause-sound c =
    is-sound c.args.len c.args.width (first_at c.args.quarters c.args.hints) c.args.block.now c.requires.numbers
    (omega (arith, c.requires.room, has-room c.args.len c.args.width c.args.quarters c.args.hints)) c.seal_matrix.new.block
    (completes (goal.at.returns-clause-sound c).After-seal_matrix)

pub returns-clause-quarters : goal.returns-clause-quarters
returns-clause-quarters c =
    marked c.args.len c.args.width c.args.quarters c.args.hints c.write_sections.new.block c.seal_matrix.new.block c.seal_matrix.ensures

pub returns-clause-hints : goal.returns-clause-hints
returns-clause-hints c =
    hinted c.args.len c.args.width c.args.quarters c.args.hints c.write_sections.new.block c.seal_matrix.new.block c.seal_matrix.ensures

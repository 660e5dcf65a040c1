-- A matrix in a block as C passes it.
use Rattle.levels_view.specs.Levels.{levels_with}
use Rattle.matrix_block.specs.Block.{parts_of, with_hints, MatrixParts}
use Rattle.bitm_abi.specs.declared.matrix.Matrix.{Matrix}

-- the tables of the levels, the words with their tables, and the hints
abbrev pub matrix_parts : Matrix → MatrixParts
matrix_parts matrix =
    with_hints matrix.hints.now
    (parts_of (levels_with matrix.len matrix.width matrix.ones.now matrix.zeros.now matrix.quarters.now) matrix.words.now
    matrix.upper.now matrix.lower.now)

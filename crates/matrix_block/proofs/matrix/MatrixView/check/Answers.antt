-- The tables are those of the words, the levels those of a matrix in them, and so are the hints.
use Rattle.std.proofs.Common.{subst, sym, rules}
use Rattle.bitm_tables.specs.Tables.{HasTables}
use Rattle.matrix_block.specs.Block.{MatrixParts}
use Rattle.matrix_block.proofs.matrix.MatrixView.check.Goals as goal

pub returns-then-not-are_tables : goal.returns-then-not-are_tables
returns-then-not-are_tables c = (
  search rules,
  λ h. c.if-not-are_tables.ensures.1 (subst (λ (p : MatrixParts). HasTables p.lists) (sym c.self.view_is) h.0.indexed.tables),
)

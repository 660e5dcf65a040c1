use Rattle.block_sections.proofs.KeptMatrices.{keeps_matrix}
use Rattle.block_sections.proofs.laws.laws.keeps_matrices.Goals as goal

pub returns : goal.returns
returns c = keeps_matrix

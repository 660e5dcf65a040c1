use Rattle.block_sections.proofs.KeptSparse.{keeps_sparse}
use Rattle.block_sections.proofs.laws.laws.keeps_sparse_bits.Goals as goal

pub returns : goal.returns
returns c = keeps_sparse

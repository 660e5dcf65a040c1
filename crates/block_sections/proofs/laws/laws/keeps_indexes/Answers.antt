use Rattle.block_sections.proofs.KeptLemmas.{keeps_index}
use Rattle.block_sections.proofs.laws.laws.keeps_indexes.Goals as goal

pub returns : goal.returns
returns c = keeps_index

use Rattle.block_sections.proofs.KeptHashes.{keeps_hash}
use Rattle.block_sections.proofs.laws.laws.keeps_hashes.Goals as goal

pub returns : goal.returns
returns c = keeps_hash

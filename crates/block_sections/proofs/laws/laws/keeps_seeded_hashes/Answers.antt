use Rattle.block_sections.proofs.KeptHashes.{keeps_seeded}
use Rattle.block_sections.proofs.laws.laws.keeps_seeded_hashes.Goals as goal

pub returns : goal.returns
returns c = keeps_seeded

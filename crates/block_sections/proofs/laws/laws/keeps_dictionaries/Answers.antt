use Rattle.block_sections.proofs.KeptHashes.{keeps_dictionary}
use Rattle.block_sections.proofs.laws.laws.keeps_dictionaries.Goals as goal

pub returns : goal.returns
returns c = keeps_dictionary

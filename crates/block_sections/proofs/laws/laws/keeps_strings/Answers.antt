use Rattle.block_sections.proofs.KeptStrings.{keeps_string}
use Rattle.block_sections.proofs.laws.laws.keeps_strings.Goals as goal

pub returns : goal.returns
returns c = keeps_string

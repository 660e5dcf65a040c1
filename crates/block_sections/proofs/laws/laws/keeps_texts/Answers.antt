use Rattle.block_sections.proofs.KeptTexts.{keeps_text}
use Rattle.block_sections.proofs.laws.laws.keeps_texts.Goals as goal

pub returns : goal.returns
returns c = keeps_text

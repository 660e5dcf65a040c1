use Rattle.block_sections.proofs.KeptSequences.{keeps_sequence}
use Rattle.block_sections.proofs.laws.laws.keeps_sequences.Goals as goal

pub returns : goal.returns
returns c = λ kind block added words new free is. keeps_sequence block added words new free is kind

use Rattle.block_sections.proofs.KeptTrees.{keeps_trie}
use Rattle.block_sections.proofs.laws.laws.keeps_tries.Goals as goal

pub returns : goal.returns
returns c = λ block added words new free is. keeps_trie block added words new is free

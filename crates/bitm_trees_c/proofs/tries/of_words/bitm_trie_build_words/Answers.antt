-- What is written is of sorted words.
use Rattle.std.proofs.Common.{refl, rules}
use Rattle.bitm_trees_c.proofs.tries.of_words.bitm_trie_build_words.Goals as goal

pub returns-in-Ok-clause-unsorted : goal.returns-in-Ok-clause-unsorted
returns-in-Ok-clause-unsorted c = (λ e. search rules, λ h. absurd (h.0.1 (c.in-Ok.ensures.ok.0 refl).are.sorted))

-- The sections of a trie are few and short.
use Rattle.std.proofs.Common.{List, sym, ◌∙◌, subst}
use Rattle.bitm_block.specs.Layout.{AreShort}
use Rattle.bitm_block.specs.declared.layout.Section.{Section}
use Rattle.tree_block.proofs.TrieBlockLemmas.{are_short}
use Rattle.tree_block.proofs.trie.building.seal_trie.Goals as goal

pub seal_sized-requires-clause-short : goal.seal_sized-requires-clause-short
seal_sized-requires-clause-short c =
    subst (λ (ss : List Section). AreShort ss) (sym (c.as_slice.ensures ∙ c.trie_sections-sections.ensures))
    (are_short c.args.nodes c.args.width c.args.ends c.requires.shape c.requires.ends)

-- What was sealed has the sections that were written.
use Rattle.tree_block.proofs.TrieBlockLemmas.{block_is}
use Rattle.tree_block.proofs.trie.building.write_block.Goals as goal

pub returns : goal.returns
returns c =
    block_is c.args.degrees.now c.args.labels.now c.args.width c.args.ends.now c.write_parts.new.block c.seal_trie.new.block c.requires.trie
    c.seal_trie.ensures c.write_parts.ensures

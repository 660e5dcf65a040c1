-- The block holds the parts that hold the words.
use Rattle.std.proofs.Common.{ℕ, List, ◌∷◌, sym, subst}
use Rattle.tree_block.specs.TrieBlock.{labels_of_parts, trie_in, IsBlockOf}
use Rattle.tree_block.specs.Trie.{HoldsWords}
use Rattle.tree_block.specs.Words.{words_in}
use Rattle.tree_block.proofs.words.building.write_block.Goals as goal

pub returns : goal.returns
returns c =
    let block = c.build.new.block in
    let parts = trie_in block in
    let ws = words_in c.args.bytes.now c.args.starts.now in
    let is : IsBlockOf c.write_parts.new.degrees c.write_parts.new.labels 8 c.write_parts.new.ends block = c.in-Ok.ensures.block in
    let held = c.write_parts.ensures.words in
    let ends = subst (λ (e : List ℕ). HoldsWords ws c.write_parts.new.degrees (0 ∷ c.write_parts.new.labels) e) (sym is.ends_are) held in
    let labels = subst (λ (l : List ℕ). HoldsWords ws c.write_parts.new.degrees l parts.ends) (sym is.labels_are) ends in
    record {
      sound = is.sound;
      width = is.width_is;
      words = subst (λ (d : List ℕ). HoldsWords ws d (labels_of_parts parts) parts.ends) (sym is.degrees_are) labels;
    }

-- The parts that are taken are those of the block.
use Rattle.std.proofs.Common.{◌≡◌, ℕ, List, Option, Some, None, SomeIff, get_or, refl, sym, ap, ◌∙◌, subst}
use Rattle.bitm_block.specs.Header.{section_in}
use Rattle.tree_block.specs.Block.{tree_with_hints, TreeParts}
use Rattle.tree_block.specs.TrieBlock.{trie_in, trie_of, HasTrieLengths, HasTrieSections, IsTrieBlock, TrieParts}
use Rattle.tree_block.proofs.trie.view.TrieView.open.Goals as goal

-- a value where one fact holds is the same where another does, and these hold together
some_where : {T : Type 0} (o : Option T) (P Q : Type 0) (v w : T) → (P → Q) → (Q → P) → v ≡ w → SomeIff o P v → SomeIff o Q w
some_where None P Q v w to from same none = λ q. none (from q)
some_where (Some x) P Q v w to from same some = (to some.0, some.1 ∙ same)

pub returns-in-Some-Some : goal.returns-in-Some-Some
returns-in-Some-Some c =
    let words = c.args.words.now in
    let block = c.in-Ok.block in
    let same : block ≡ words = c.in-Ok.ensures.words in
    let labels = c.in-Some-Some.labels.now in
    let ends = c.in-Some-Some.ends.now in
    let width = get_or words 4 0 in
    let whole = trie_of c.in_ok-tree.tree labels width ends in
    let parts : whole ≡ trie_in words =
    ap (λ (t : TreeParts). trie_of t labels width ends) c.in_ok-tree.ensures.1
    ∙ ap (λ l. trie_of (tree_with_hints block 5) l width ends) c.in-Some-Some.ensures.words
    ∙ ap (trie_of (tree_with_hints block 5) (section_in block 3) width) c.in-Some-Some.ensures'.words
    ∙ ap (λ b. trie_of (tree_with_hints b 5) (section_in b 3) width (section_in b 4)) same in
    some_where c.over.result (HasTrieLengths whole) (IsTrieBlock words) whole (trie_in words)
    (λ lengths.
    record {
      is_block = c.in-Ok.ensures.ok.0 refl;
      sections = subst (λ (b : List ℕ). HasTrieSections b) same (c.is_trie_block.ensures.0 c.if-not-is_trie_block.false);
      lengths = subst (λ (p : TrieParts). HasTrieLengths p) parts lengths;
    })
    (λ h. subst (λ (p : TrieParts). HasTrieLengths p) (sym parts) h.lengths) parts c.over.ensures

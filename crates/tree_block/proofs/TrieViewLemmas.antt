-- What a view answers from its own words, tables, hints and labels.
use Rattle.std.proofs.Common.{◌≡◌, ℕ, true, false, List, sym, ap, subst}
use Rattle.bitm_selection.specs.Hints.{AreHints, Lead}
use Rattle.bitm_tables.specs.Tables.{Lists}
use Rattle.louds.proofs.lemmas.ReadLemmas.{moved}
use Rattle.louds.specs.Counted.{degrees_in, IsLouds}
use Rattle.louds.specs.Labels.{Rise}
use Rattle.louds.specs.Leading.{none_read_of, LabelReads}
use Rattle.tree_block.specs.Block.{TreeParts}
use Rattle.tree_block.specs.TrieBlock.{degrees_of_parts, labels_of_parts, trie_of, HoldsTrie, TrieParts}
use Rattle.tree_block.specs.Labels.{labels_of}

-- what is answered where the source is a tree in which the hints find bits, and whose labels rise, is answered where the
-- view holds a trie
pub answered : (P : List ℕ → List ℕ → Type 0) (n : ℕ) (lists : Lists) (given : LabelReads) (tree : TreeParts) (labels : List ℕ) (width : ℕ) (ends : List ℕ)
    (view : TrieParts) (ones zeros : List ℕ) → trie_of tree labels width ends ≡ view → n ≡ tree.len → lists ≡ tree.lists → given ≡ none_read_of labels width
    → (IsLouds n lists → AreHints true lists.words ones × AreHints false lists.words zeros → Rise (degrees_in n lists) (labels_of given.words given.width n)
    → P (degrees_in n lists) (labels_of given.words given.width n))
    → (Lead tree.len tree.hints tree.lists.words → AreHints true tree.lists.words ones × AreHints false tree.lists.words zeros)
    → HoldsTrie view → P (degrees_of_parts view) (labels_of_parts view)
answered P n lists given tree labels width ends view ones zeros is len same read answer lead h =
    let Says : ℕ → Lists → List ℕ → Type 0 = λ k l ls.
    IsLouds k l → AreHints true l.words ones × AreHints false l.words zeros → Rise (degrees_in k l) ls → P (degrees_in k l) ls in
    let own = subst (λ (p : TrieParts). HoldsTrie p) (sym is) h in
    let all : Says tree.len lists (labels_of given.words given.width tree.len) =
    subst (λ (k : ℕ). Says k lists (labels_of given.words given.width k)) len answer in
    let says : Says tree.len tree.lists (labels_of labels width tree.len) =
    moved (Says tree.len) tree.lists lists (labels_of labels width tree.len) (labels_of given.words given.width tree.len) same
    (ap (λ (l : LabelReads). labels_of l.words l.width tree.len) read) all in
    subst (λ (p : TrieParts). P (degrees_of_parts p) (labels_of_parts p)) is (says own.tree.louds (lead own.tree.lead) own.rise)

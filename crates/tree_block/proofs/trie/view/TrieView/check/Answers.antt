-- The words are those of the tree, whose nodes have these labels.
use Rattle.std.proofs.Common.{◌≡◌, ◌↔◌, IsTrue, List, ℕ, sym, ap, subst}
use Rattle.bit_lists.specs.Bits.{bits_of}
use Rattle.louds.specs.Held.{degrees_of}
use Rattle.louds.specs.Labels.{Rise}
use Rattle.louds.specs.Leading.{LabelReads}
use Rattle.tree_block.specs.TrieBlock.{HoldsTrie, TrieParts}
use Rattle.tree_block.specs.Labels.{labels_of}
use Rattle.tree_block.proofs.trie.view.TrieView.check.Goals as goal

-- the labels of siblings rise in the tree that n nodes have in words
abbrev RiseIn : List ℕ → ℕ → List ℕ → ℕ → Type 0
RiseIn labels width words n = Rise (degrees_of (bits_of words) n) (labels_of labels width n)

pub returns-then-check : goal.returns-then-check
returns-then-check c =
    let t = c.self.inside in
    let labels = t.labels.now in
    let words = c.words.ensures in
    let len = c.len.ensures.len in
    let seen = c.new-labels.result in
    let same : labels_of seen.words seen.width c.len.result ≡ labels_of labels t.width c.len.result =
    ap (λ (l : LabelReads). labels_of l.words l.width c.len.result) c.new-labels.ensures in
    let rises : IsTrue c.labels_rise.result ↔ RiseIn labels t.width c.words.result.now c.len.result =
    subst (λ (ls : List ℕ). IsTrue c.labels_rise.result ↔ Rise (degrees_of (bits_of c.words.result.now) c.len.result) ls) same
    c.labels_rise.ensures.rise in (
      λ yes.
          let rise : RiseIn labels t.width c.words.result.now c.len.result = rises.0 yes in
          subst (λ (p : TrieParts). HoldsTrie p) c.self.view_is
          (record {
            tree = c.check.ensures.0 c.if-check.true;
            rise =
                subst (λ (n : ℕ). RiseIn labels t.width t.tree.lists.words n) len
                (subst (λ (ws : List ℕ). RiseIn labels t.width ws c.len.result) words rise);
          }),
      λ h.
          let own = subst (λ (p : TrieParts). HoldsTrie p) (sym c.self.view_is) h in
          rises.1
          (subst (λ (ws : List ℕ). RiseIn labels t.width ws c.len.result) (sym words)
          (subst (λ (n : ℕ). RiseIn labels t.width t.tree.lists.words n) (sym len) own.rise)),
    )

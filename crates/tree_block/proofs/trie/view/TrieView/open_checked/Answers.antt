-- The block that is opened has these words, and is verified and checked.
use Rattle.std.proofs.Common.{List, ℕ, sym, subst}
use Rattle.std.proofs.lemmas.Bool.{both_ways}
use Rattle.bitm_block.specs.Header.{IsVerified}
use Rattle.tree_block.specs.TrieBlock.{HoldsTrie, TrieParts}
use Rattle.tree_block.proofs.trie.view.TrieView.open_checked.Goals as goal

pub returns-then-not-verify : goal.returns-then-not-verify
returns-then-not-verify c = λ h.
    both_ways c.verify.result c.if-not-verify.true
    (c.verify.ensures.1 (subst (λ (b : List ℕ). IsVerified b) (sym c.in-Ok.ensures.words) h.verified))

pub returns-then-check : goal.returns-then-check
returns-then-check c =
    let is = c.in_ok-view.ensures.1 in (
      record {
        trie_block = c.in_ok-view.ensures.0;
        verified = subst (λ (b : List ℕ). IsVerified b) c.in-Ok.ensures.words (c.verify.ensures.0 c.if-not-verify.false);
        trie = subst (λ (p : TrieParts). HoldsTrie p) is (c.check.ensures.0 c.if-check.true);
      },
      is,
    )

pub returns-else-check : goal.returns-else-check
returns-else-check c = λ h.
    both_ways c.check.result c.if-check.false
    (c.check.ensures.1 (subst (λ (p : TrieParts). HoldsTrie p) (sym c.in_ok-view.ensures.1) h.trie))

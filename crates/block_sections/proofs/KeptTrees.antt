-- A tree or a trie in a block that is extended is that of before.
use Rattle.std.proofs.Common.{◌≡◌, ℕ, ◌≤◌, List, length, ap, sym, subst, ◌∙◌, arith}
use Rattle.bitm_block.specs.Header.{count_in, section_in}
use Rattle.bitm_block.specs.declared.head.Head.{Head}
use Rattle.bitm_block.specs.declared.layout.Section.{Section}
use Rattle.block_sections.proofs.ExtendLemmas.{kind_kept}
use Rattle.block_sections.specs.Extended.{IsExtended}
use Rattle.block_tables.specs.Hints.{hints_in}
use Rattle.block_sections.proofs.HintsKept.{hints_kept}
use Rattle.block_sections.specs.Kept.{AddsNoHints}
use Rattle.block_sections.specs.Trees.{KeepsTree, KeepsTrie}
use Rattle.louds.specs.Counted.{degrees_in}
use Rattle.tree_block.specs.Block.{parts_of, tree_in, tree_with_hints, HasLengths, HoldsIn, HoldsTree, IsTreeBlock, TreeParts}
use Rattle.tree_block.specs.TrieBlock as tries

module _ (block : List ℕ) (added : Section) (words new : List ℕ) (is : IsExtended block added words new) where
  -- ---- trees
  tree_is : (i : ℕ) → AddsNoHints i block added → 3 ≤ count_in block → tree_with_hints new i ≡ tree_with_hints block i
  tree_is i free three =
      let n = (tree_in block).len in
      let ws = section_in block 0 in
      ap (λ (h : Head). parts_of h.len (section_in new 0) (section_in new 1) (section_in new 2) (hints_in new i h.len (length (section_in new 0)))) is.head_is
      ∙ ap (λ w. parts_of n w (section_in new 1) (section_in new 2) (hints_in new i n (length w))) (is.kept 0 (omega (arith, three)))
      ∙ ap (λ u. parts_of n ws u (section_in new 2) (hints_in new i n (length ws))) (is.kept 1 (omega (arith, three)))
      ∙ ap (λ l. parts_of n ws (section_in block 1) l (hints_in new i n (length ws))) (is.kept 2 (omega (arith, three)))
      ∙ ap (parts_of n ws (section_in block 1) (section_in block 2)) (hints_kept block added words new is i n (length ws) free)

  opened_tree : AddsNoHints 3 block added → IsTreeBlock block → IsTreeBlock new
  opened_tree free old =
      let three = old.sections.many in record {
        is_block = is.is_block;
        sections = kind_kept block added words new is _ _ old.sections;
        lengths = subst (λ (p : TreeParts). HasLengths p) (sym (tree_is 3 free three)) old.lengths;
      }

  holds_tree : AddsNoHints 3 block added → HoldsTree block → HoldsTree new
  holds_tree free old = record {
    tree_block = opened_tree free old.tree_block;
    verified = is.verified;
    tree = subst HoldsIn (sym (tree_is 3 free old.tree_block.sections.many)) old.tree;
  }

  pub keeps_tree : AddsNoHints 3 block added → KeepsTree block new
  keeps_tree free = record {
    opened = opened_tree free;
    parts = λ old. tree_is 3 free old.sections.many;
    sound = holds_tree free;
    degrees = λ degrees old. record {
      holds = holds_tree free old.holds;
      degrees_are = ap (λ (p : TreeParts). degrees_in p.len p.lists) (tree_is 3 free old.holds.tree_block.sections.many) ∙ old.degrees_are;
    };
  }

  -- ---- tries
  trie_is : AddsNoHints 5 block added → 5 ≤ count_in block → tries.trie_in new ≡ tries.trie_in block
  trie_is free five =
      let tree = (tries.trie_in block).tree in
      ap (λ (h : Head). tries.trie_of (tree_with_hints new 5) (section_in new 3) h.width (section_in new 4)) is.head_is
      ∙ ap (λ t. tries.trie_of t (section_in new 3) (tries.trie_in block).width (section_in new 4)) (tree_is 5 free (omega (arith, five)))
      ∙ ap (λ l. tries.trie_of tree l (tries.trie_in block).width (section_in new 4)) (is.kept 3 (omega (arith, five)))
      ∙ ap (λ e. tries.trie_of tree (section_in block 3) (tries.trie_in block).width e) (is.kept 4 (omega (arith, five)))

  opened_trie : AddsNoHints 5 block added → tries.IsTrieBlock block → tries.IsTrieBlock new
  opened_trie free old =
      let five = old.sections.many in record {
        is_block = is.is_block;
        sections = kind_kept block added words new is _ _ old.sections;
        lengths = subst (λ (p : tries.TrieParts). tries.HasTrieLengths p) (sym (trie_is free five)) old.lengths;
      }

  sound_trie : AddsNoHints 5 block added → tries.IsSoundBlock block → tries.IsSoundBlock new
  sound_trie free old = record {
    trie_block = opened_trie free old.trie_block;
    verified = is.verified;
    trie = subst (λ (p : tries.TrieParts). tries.HoldsTrie p) (sym (trie_is free old.trie_block.sections.many)) old.trie;
  }

  pub keeps_trie : AddsNoHints 5 block added → KeepsTrie block new
  keeps_trie free = record {
    opened = opened_trie free;
    parts = λ old. trie_is free old.sections.many;
    sound = sound_trie free;
    trie = λ degrees labels width ends old.
        let same = trie_is free old.sound.trie_block.sections.many in record {
          sound = sound_trie free old.sound;
          degrees_are = ap tries.degrees_of_parts same ∙ old.degrees_are;
          labels_are = ap tries.labels_of_parts same ∙ old.labels_are;
          width_is = ap (λ (p : tries.TrieParts). p.width) same ∙ old.width_is;
          ends_are = ap (λ (p : tries.TrieParts). p.ends) same ∙ old.ends_are;
        };
  }

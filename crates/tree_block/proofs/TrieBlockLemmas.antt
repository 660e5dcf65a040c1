-- What is written for a trie is its block.
use Rattle.std.proofs.Common.{◌≡◌, ℕ, zero, suc, ◌^◌, ◌<◌, inr, All, List, [], ◌∷◌, ◌++◌, length, get_or, sym, ap, ◌∙◌, subst, arith}
use Rattle.std.proofs.lemmas.List.{append-nil}
use Rattle.bitm_block.proofs.PartsLemmas.{count_is, entry_is, is_of_kind, laid, part, part_is, section_is, HaveLengths, Part}
use Rattle.bitm_block.specs.Header.{section_in}
use Rattle.bitm_block.specs.Layout.{head_of, part_in, AreShort}
use Rattle.bitm_block.specs.Written.{IsSealed}
use Rattle.bitm_block.specs.declared.head.Head.{Head}
use Rattle.bitm_block.specs.declared.layout.Section.{Section}
use Rattle.bitm_selection.specs.Hints.{hints_len}
use Rattle.block_tables.proofs.HintLemmas.{hints_are}
use Rattle.block_tables.specs.Hints.{hints_in}
use Rattle.louds.specs.Labels.{Rise}
use Rattle.tree_block.proofs.BlockLemmas.{hints_few}
use Rattle.tree_block.specs.Block.{parts_of, tree_with_hints, TreeParts}
use Rattle.tree_block.specs.TrieBlock.{degrees_of_parts, labels_of_parts, trie_head, trie_in, trie_of, trie_sections, AreParts, HasTrieLengths, HoldsTrie, IsBlockOf, IsTrie, StandsIn, TrieParts}
use Rattle.tree_block.proofs.LabelLemmas.{bits_few}
use Rattle.tree_block.specs.Labels.{labels_of, IsShape}

-- the sections of a trie are few and short
module _ (n width ends : ℕ) (shape : IsShape n width) (few : ends < 2 ^ 52) where
  counts : All (λ (s : Section). s.count < 2 ^ 58) (trie_sections n width ends)
  counts zero d less = omega (arith, shape.few)
  counts (suc zero) d less = omega (arith, shape.few)
  counts (suc (suc zero)) d less = omega (arith, shape.few)
  counts (suc (suc (suc zero))) d less = omega (arith, bits_few n width shape)
  counts (suc (suc (suc (suc zero)))) d less = omega (arith, few)
  counts (suc (suc (suc (suc (suc zero))))) d less = omega (arith, hints_few n)
  counts (suc (suc (suc (suc (suc (suc k)))))) d less = absurd (omega (arith, less))

  pub are_short : AreShort (trie_sections n width ends)
  are_short = record { few = omega arith; counts = counts; total = omega (arith, bits_few n width shape, few, hints_few n, shape.few) }

-- parts that are written one after another stand where the sections of the trie are
pub stands : (d ls : List ℕ) (width : ℕ) (ends head words gap upper gap2 lower gap3 labels gap4 part5 gap5 hints tail : List ℕ) → length head ≡ 40
    → HaveLengths (trie_sections (length d) width (length ends)) (part words gap ∷ part upper gap2 ∷ part lower gap3 ∷ part labels gap4 ∷ part part5 gap5 ∷ part hints tail ∷ [])
    → AreParts d ls width ends words upper lower labels part5 hints
    → StandsIn d ls width ends (head ++ ((words ++ gap) ++ ((upper ++ gap2) ++ ((lower ++ gap3) ++ ((labels ++ gap4) ++ ((part5 ++ gap5) ++ (hints ++ tail)))))))
stands d ls width ends head words gap upper gap2 lower gap3 labels gap4 part5 gap5 hints tail head_len lens are =
    let ss = trie_sections (length d) width (length ends) in
    let ps : List Part = part words gap ∷ part upper gap2 ∷ part lower gap3 ∷ part labels gap4 ∷ part part5 gap5 ∷ part hints tail ∷ [] in
    let all : List ℕ = head ++ laid ps in
    let whole : all ≡ head ++ ((words ++ gap) ++ ((upper ++ gap2) ++ ((lower ++ gap3) ++ ((labels ++ gap4) ++ ((part5 ++ gap5) ++ (hints ++ tail)))))) =
    ap (λ z. head ++ ((words ++ gap) ++ ((upper ++ gap2) ++ ((lower ++ gap3) ++ ((labels ++ gap4) ++ ((part5 ++ gap5) ++ z)))))) (append-nil (hints ++ tail)) in
    let from : head_of (length ss) ≡ length head = omega (arith, head_len) in
    let at : (i : ℕ) → i < 6 → (get_or ps i (part [] [])).words ≡ part_in ss all i = λ i less. sym (part_is ss ps head i lens from less) in
    subst (StandsIn d ls width ends) whole
    (subst (λ (w : List ℕ). AreParts d ls width ends w (part_in ss all 1) (part_in ss all 2) (part_in ss all 3) (part_in ss all 4) (part_in ss all 5)) (at 0 (omega arith))
    (subst (λ (u : List ℕ). AreParts d ls width ends words u (part_in ss all 2) (part_in ss all 3) (part_in ss all 4) (part_in ss all 5)) (at 1 (omega arith))
    (subst (λ (l : List ℕ). AreParts d ls width ends words upper l (part_in ss all 3) (part_in ss all 4) (part_in ss all 5)) (at 2 (omega arith))
    (subst (λ (l : List ℕ). AreParts d ls width ends words upper lower l (part_in ss all 4) (part_in ss all 5)) (at 3 (omega arith))
    (subst (λ (e : List ℕ). AreParts d ls width ends words upper lower labels e (part_in ss all 5)) (at 4 (omega arith))
    (subst (λ (h : List ℕ). AreParts d ls width ends words upper lower labels part5 h) (at 5 (omega arith)) are))))))

-- a sealed block whose sections hold the trie is its block
pub block_is : (d ls : List ℕ) (width : ℕ) (ends old new : List ℕ) → IsTrie d ls width ends
    → IsSealed (trie_head (length d) width) (trie_sections (length d) width (length ends)) old new → StandsIn d ls width ends old
    → IsBlockOf d ls width ends new
block_is d ls width ends old new trie sealed are =
    let n = length d in
    let ss = trie_sections n width (length ends) in
    let head : Head = trie_head n width in
    let words = part_in ss old 0 in
    let upper = part_in ss old 1 in
    let lower = part_in ss old 2 in
    let labels = part_in ss old 3 in
    let hints = part_in ss old 5 in
    let at : (i : ℕ) → i < 6 → section_in new i ≡ part_in ss old i = λ i less. section_is head ss old new sealed i less in
    let h : hints_in new 5 n (length words) ≡ hints =
    hints_are new 5 n (length words) (omega (arith, count_is head ss old new sealed))
    (ap (λ (s : Section). s.role) (entry_is head ss old new sealed 5 (omega arith)))
    (ap (λ (s : Section). s.count) (entry_is head ss old new sealed 5 (omega arith)) ∙ ap (hints_len n) (sym are.tree.words_len))
    ∙ at 5 (omega arith) in
    let tree : tree_with_hints new 5 ≡ parts_of n words upper lower hints =
    ap (λ (h : Head). parts_of h.len (section_in new 0) (section_in new 1) (section_in new 2) (hints_in new 5 h.len (length (section_in new 0)))) sealed.head_is
    ∙ ap (λ x. parts_of n x (section_in new 1) (section_in new 2) (hints_in new 5 n (length x))) (at 0 (omega arith))
    ∙ ap (λ x. parts_of n words x (section_in new 2) (hints_in new 5 n (length words))) (at 1 (omega arith))
    ∙ ap (λ x. parts_of n words upper x (hints_in new 5 n (length words))) (at 2 (omega arith))
    ∙ ap (parts_of n words upper lower) h in
    let whole = parts_of n words upper lower hints in
    let parts : trie_in new ≡ trie_of whole labels width ends =
    ap (λ (t : TreeParts). trie_of t (section_in new 3) (get_or new 4 0) (section_in new 4)) tree
    ∙ ap (λ l. trie_of whole l (get_or new 4 0) (section_in new 4)) (at 3 (omega arith))
    ∙ ap (λ (h : Head). trie_of whole labels h.width (section_in new 4)) sealed.head_is
    ∙ ap (λ e. trie_of whole labels width e) (at 4 (omega arith) ∙ are.ends_kept) in
    let lengths : HasTrieLengths (trie_of whole labels width ends) = record {
      tree = record {
        short = omega (arith, trie.shape.few);
        words_len = are.tree.words_len;
        sized = record {
          short = omega (arith, trie.shape.few, are.tree.words_len);
          upper_len = omega (arith, are.tree.words_len, are.tree.upper_len);
          lower_len = omega (arith, are.tree.words_len, are.tree.lower_len);
        };
        hinted = inr (are.tree.hints_len ∙ ap (hints_len n) (sym are.tree.words_len));
      };
      shape = trie.shape;
      labels_len = are.labels_held.len;
      ends_len = trie.has_ends;
    } in
    let held : HoldsTrie (trie_of whole labels width ends) = record {
      tree = record { louds = are.tree.louds; lead = are.tree.lead };
      rise =
          subst (λ (xs : List ℕ). Rise xs (labels_of labels width n)) (sym are.tree.degrees_are)
          (subst (λ (xs : List ℕ). Rise d xs) (sym are.labels_held.held) trie.are_labels.rise);
    } in
    record {
      sound = record {
        trie_block = record {
          is_block = sealed.is_block;
          sections = is_of_kind head ss new sealed.head_is sealed.sections_are 5 (omega arith);
          lengths = subst (λ (p : TrieParts). HasTrieLengths p) (sym parts) lengths;
        };
        verified = sealed.verified;
        trie = subst (λ (p : TrieParts). HoldsTrie p) (sym parts) held;
      };
      degrees_are = ap (λ (p : TrieParts). degrees_of_parts p) parts ∙ are.tree.degrees_are;
      labels_are = ap (λ (p : TrieParts). labels_of_parts p) parts ∙ are.labels_held.held;
      width_is = ap (λ (p : TrieParts). p.width) parts;
      ends_are = ap (λ (p : TrieParts). p.ends) parts;
    }

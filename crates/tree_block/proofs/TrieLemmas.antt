-- What is placed is the trie of the words.
use Rattle.std.proofs.Common.{◌≡◌, ℕ, zero, suc, ◌+◌, ◌-◌, ◌^◌, ◌<◌, ◌≤◌, true, List, ◌∷◌, length, get_or, take, slice_index, sym, ap, ◌∙◌, subst, arith}
use Rattle.std.specs.List.{All}
use Rattle.std.proofs.lemmas.List.{take_all, take_more}
use Rattle.std.proofs.lemmas.List.Elements.{All-cons, All-from_get_or}
use Rattle.bit_lists.specs.Bits.{bits_of, item}
use Rattle.louds.specs.Labels.{AreLabels, Leads, Rise}
use Rattle.louds.specs.Parents.{HasParents}
use Rattle.louds.specs.Tree.{IsChild, IsTree}
use Rattle.louds.proofs.lemmas.LabelLemmas.{child_inside, leads_more, next_number}
use Rattle.louds.proofs.lemmas.TreeLemmas.{one_parent}
use Rattle.tree_block.specs.Levels.{above, count_at, next_at, AreEnds}
use Rattle.tree_block.specs.Trie.{HoldsWords}
use Rattle.tree_block.specs.Words.{nodes_of, AreSorted, Words}
use Rattle.tree_block.proofs.WordsLeadLemmas.{one_word}
use Rattle.tree_block.proofs.LevelLemmas.{above_none, above_one, above_order, count_root, next_inside}
use Rattle.tree_block.proofs.OrderLemmas.{found_node, on_level, word_inside}
use Rattle.tree_block.proofs.PathLemmas.{on_path, siblings_rise, AllPlaced}

-- an item after the first
after_root : (ls : List ℕ) (x v : ℕ) → get_or (x ∷ ls) (v + 1) 0 ≡ get_or ls v 0
after_root ls x v = let e : v + 1 ≡ suc v = omega arith in ap (λ i. get_or (x ∷ ls) i 0) e

module _ (ws : Words) (labels parents d : List ℕ) (h : AllPlaced ws labels parents (nodes_of ws)) (has : HasParents d parents)
    (all : above ws (nodes_of ws) ≡ nodes_of ws) where
  -- ---- labels

  pub labels_rise : IsTree d → AreSorted ws → Rise d (0 ∷ labels)
  labels_rise tree sorted v w next = rise (v - 1) (omega (arith, next.2.number))
    where
      follows : w ≡ v + 1
      follows = next_number d v w next

      inside : w < length d
      inside = child_inside d next.0 (next.1 + 1) w tree next.3

      rise : (u : ℕ) → v ≡ u + 1 → get_or (0 ∷ labels) v 0 < get_or (0 ∷ labels) w 0
      rise u is =
          let room : u + 1 < length labels = omega (arith, is, follows, inside, has.count, h.labels_len, h.parents_len) in
          let first = has.each u (omega (arith, room, h.labels_len, h.parents_len)) in
          let second = has.each (u + 1) (omega (arith, room, h.labels_len, h.parents_len)) in
          let w_is : w ≡ u + 1 + 1 = omega (arith, is, follows) in
          let a = (one_parent d (slice_index parents u) next.0 first.0 next.1 (u + 1) first.1
          (subst (λ (x : ℕ). IsChild d next.0 next.1 x) is next.2)).0 in
          let b = (one_parent d (slice_index parents (u + 1)) next.0 second.0 (next.1 + 1) (u + 1 + 1) second.1
          (subst (λ (x : ℕ). IsChild d next.0 (next.1 + 1) x) w_is next.3)).0 in
          omega (
            arith,
            siblings_rise ws labels parents (nodes_of ws) h sorted u room (omega (arith, a, b)),
            ap (λ x. get_or (0 ∷ labels) x 0) is,
            ap (λ x. get_or (0 ∷ labels) x 0) w_is,
            after_root labels 0 u,
            after_root labels 0 (u + 1),
          )

  pub labels_fit : ((j k : ℕ) → slice_index (ws.word j) k < 2 ^ 8) → All (λ x. x < 2 ^ 8) (0 ∷ labels)
  labels_fit small =
      All-cons (λ x. x < 2 ^ 8) 0 labels (omega arith)
      (All-from_get_or (λ x. x < 2 ^ 8) labels 0
      (λ v inside.
      let f = found_node ws (v + 1) (nodes_of ws) (omega arith) (omega (arith, inside, h.labels_len)) in
      let is = (h.each f.0 f.1 f.2 f.3 v (omega (arith, f.4))).0 in
      subst (λ (x : ℕ). x < 2 ^ 8) (sym is) (small f.1 f.0)))

  pub are_labels : IsTree d → AreSorted ws → ((j k : ℕ) → slice_index (ws.word j) k < 2 ^ 8) → AreLabels d (0 ∷ labels) 8
  are_labels tree sorted small = record {
    count = omega (arith, has.count, h.labels_len, h.parents_len);
    fit = labels_fit small;
    rise = labels_rise tree sorted;
  }

  -- ---- the way down a word

  down : (j k v : ℕ) → j < ws.count → k ≤ length (ws.word j) → v + 1 ≡ next_at ws k (j + 1) → Leads d (0 ∷ labels) (take k (ws.word j)) 0 v
  down j zero v inside le at = omega (arith, at, above_none ws, count_root ws (j + 1))
  down j (suc k) v inside le at =
      let e : suc k ≡ k + 1 = omega arith in
      let less : k < length (ws.word j) = omega (arith, le) in
      let at_next : v + 1 ≡ next_at ws (k + 1) (j + 1) = omega (arith, at, ap (λ l. next_at ws l (j + 1)) e) in
      let some : 1 ≤ count_at ws (k + 1) (j + 1) = on_level ws (k + 1) j (omega (arith, less)) in
      let low : 1 ≤ above ws (k + 1) = omega (arith, above_one ws, above_order ws 1 (k + 1) (omega arith)) in
      let x = v - 1 in
      let v_is : x + 1 ≡ v = omega (arith, at_next, some, low) in
      let u = next_at ws k (j + 1) - 1 in
      let u_is : u + 1 ≡ next_at ws k (j + 1) = omega (arith, on_level ws k j (omega (arith, less))) in
      let step = on_path ws labels parents (nodes_of ws) h j k x inside less (omega (arith, at_next, v_is)) in
      let room : x < length parents =
      omega (
        arith,
        h.parents_len,
        at_next,
        v_is,
        next_inside ws (k + 1) (j + 1) (omega (arith, inside)),
        above_order ws (k + 1 + 1) (nodes_of ws) (omega (arith, less, word_inside ws j inside)),
      ) in
      let child = has.each x room in
      let parent : slice_index parents x ≡ u = omega (arith, step.1, u_is) in
      let is_child : IsChild d u child.0 v =
      subst (λ (p : ℕ). IsChild d p child.0 v) parent (subst (λ (y : ℕ). IsChild d (slice_index parents x) child.0 y) v_is child.1) in
      let label : get_or (0 ∷ labels) v 0 ≡ get_or (ws.word j) k 0 =
      ap (λ y. get_or (0 ∷ labels) y 0) (sym v_is) ∙ after_root labels 0 x ∙ step.0 in
      let more = leads_more d (0 ∷ labels) (take k (ws.word j)) (get_or (ws.word j) k 0) 0 u v
      (down j k u inside (omega (arith, less)) u_is) ((child.0, is_child), label) in
      subst (λ (w : List ℕ). Leads d (0 ∷ labels) w 0 v) (sym (take_more (ws.word j) k 0 less) ∙ ap (λ l. take l (ws.word j)) (sym e)) more

  word_leads : (j v : ℕ) → j < ws.count → v + 1 ≡ next_at ws (length (ws.word j)) (j + 1) → Leads d (0 ∷ labels) (ws.word j) 0 v
  word_leads j v inside at =
      subst (λ (w : List ℕ). Leads d (0 ∷ labels) w 0 v) (take_all (length (ws.word j)) (ws.word j) (omega arith))
      (down j (length (ws.word j)) v inside (omega arith) at)

  pub holds_words : (ends : List ℕ) → AreEnds ws ends ws.count → HoldsWords ws d (0 ∷ labels) ends
  holds_words ends are = record { found = found; only = only; inside = within }
    where
      found : (j : ℕ) → j < ws.count → (v : ℕ) × (item (bits_of ends) v ≡ true) × Leads d (0 ∷ labels) (ws.word j) 0 v
      found j inside =
          let n = length (ws.word j) in
          let v = next_at ws n (j + 1) - 1 in
          let at : v + 1 ≡ next_at ws n (j + 1) = omega (arith, on_level ws n j (omega arith)) in
          (v, (are v).1 (j, inside, at), word_leads j v inside at)

      only : (word : List ℕ) (v : ℕ) → Leads d (0 ∷ labels) word 0 v → item (bits_of ends) v ≡ true → (j : ℕ) × (j < ws.count) × (word ≡ ws.word j)
      only word v leads one =
          let f = (are v).0 one in (f.0, f.1, one_word d (0 ∷ labels) word (ws.word f.0) v leads (word_leads f.0 v f.1 f.2))

      within : (v : ℕ) → item (bits_of ends) v ≡ true → v < length d
      within v one =
          let f = (are v).0 one in
          omega (
            arith,
            has.count,
            h.parents_len,
            f.2,
            next_inside ws (length (ws.word f.0)) (f.0 + 1) (omega (arith, f.1)),
            above_order ws (length (ws.word f.0) + 1) (nodes_of ws) (omega (arith, word_inside ws f.0 f.1)),
          )

-- The nodes that sorted words add, level by level.
use Rattle.std.proofs.Common.{◌≡◌, ℕ, zero, suc, ◌+◌, ◌-◌, ◌<◌, ◌≤◌, inl, length, get_or, ap, subst, ⊎_elim, arith}
use Rattle.tree_block.specs.Levels.{above, count_at, next_at, IsNew}
use Rattle.tree_block.specs.Words.{added, common, nodes_of, shared_of, AreSorted, Words}
use Rattle.tree_block.proofs.CommonLemmas.{common_left, common_right, common_same}
use Rattle.tree_block.proofs.LevelLemmas.{above_more, above_one, above_order, added_more, count_cases, count_new, count_old, count_order, count_root, find_level, find_word, next_inside, shared_first, shared_next}

module _ (ws : Words) where
  -- ---- what a word shares with the one before

  pub shared_fits : (j : ℕ) → shared_of ws j ≤ length (ws.word j)
  shared_fits zero = omega (arith, shared_first ws)
  shared_fits (suc j) =
      let e : j + 1 ≡ suc j = omega arith in
      subst (λ (i : ℕ). shared_of ws i ≤ length (ws.word i)) e (omega (arith, shared_next ws j, common_right (ws.word j) (ws.word (j + 1))))

  pub shared_before : (j : ℕ) → shared_of ws (j + 1) ≤ length (ws.word j)
  shared_before j = omega (arith, shared_next ws j, common_left (ws.word j) (ws.word (j + 1)))

  pub shared_same : (j t : ℕ) → t < shared_of ws (j + 1) → get_or (ws.word j) t 0 ≡ get_or (ws.word (j + 1)) t 0
  shared_same j t less = common_same (ws.word j) (ws.word (j + 1)) t (omega (arith, less, shared_next ws j))

  pub shared_less : AreSorted ws → (j : ℕ) → j + 1 < ws.count → shared_of ws (j + 1) < length (ws.word (j + 1))
  shared_less sorted j less = omega (arith, (sorted j less).more, shared_next ws j)

  pub letter_less : AreSorted ws → (j k : ℕ) → j + 1 < ws.count → shared_of ws (j + 1) ≡ k → k < length (ws.word j)
      → get_or (ws.word j) k 0 < get_or (ws.word (j + 1)) k 0
  letter_less sorted j k less is more =
      let e : common (ws.word j) (ws.word (j + 1)) ≡ k = omega (arith, is, shared_next ws j) in
      omega (
        arith,
        (sorted j less).less (omega (arith, e, more)),
        ap (λ t. get_or (ws.word j) t 0) e,
        ap (λ t. get_or (ws.word (j + 1)) t 0) e,
      )

  -- ---- how many nodes there are

  added_grows : (i m : ℕ) → added ws i ≤ added ws (i + m)
  added_grows i zero = let e : i + 0 ≡ i = omega arith in omega (arith, ap (added ws) e)
  added_grows i (suc m) =
      let e : i + suc m ≡ i + m + 1 = omega arith in
      omega (arith, ap (added ws) e, added_more ws (i + m), added_grows i m)

  pub added_order : (i j : ℕ) → i ≤ j → added ws i ≤ added ws j
  added_order i j le = let e : i + (j - i) ≡ j = omega arith in omega (arith, ap (added ws) e, added_grows i (j - i))

  word_fits : (j : ℕ) → length (ws.word j) ≤ added ws (j + 1)
  word_fits zero = omega (arith, added_more ws 0, shared_first ws)
  word_fits (suc j) =
      let e : j + 1 ≡ suc j = omega arith in
      omega (arith, added_more ws (suc j), word_fits j, ap (added ws) e, ap (shared_of ws) e, shared_before j)

  -- a word leads to nodes of its own
  pub word_inside : (j : ℕ) → j < ws.count → length (ws.word j) < nodes_of ws
  word_inside j less = omega (arith, word_fits j, added_order (j + 1) ws.count (omega (arith, less)))

  -- ---- levels that words have

  on_next : (k j : ℕ) → k < length (ws.word j) → 1 ≤ count_at ws (k + 1) (j + 1)
  on_next k zero less = omega (arith, count_new ws k 0 (omega (arith, shared_first ws)) less)
  on_next k (suc j) less =
      let e : j + 1 ≡ suc j = omega arith in
      ⊎_elim
      (λ new. omega (arith, new.2))
      (λ old.
      ⊎_elim
      (λ low. omega (arith, old.1, ap (count_at ws (k + 1)) e, on_next k j (omega (arith, low, ap (shared_of ws) e, shared_before j))))
      (λ past. absurd (omega (arith, past, less)))
      old.0)
      (count_cases ws k (suc j))

  pub on_level : (k j : ℕ) → k ≤ length (ws.word j) → 1 ≤ count_at ws k (j + 1)
  on_level zero j le = omega (arith, count_root ws (j + 1))
  on_level (suc k) j le =
      let e : k + 1 ≡ suc k = omega arith in
      subst (λ (l : ℕ). 1 ≤ count_at ws l (j + 1)) e (on_next k j (omega (arith, le)))

  -- a word adds none to a level that it shares
  pub count_shared : (k j : ℕ) → k ≤ shared_of ws j → count_at ws k (j + 1) ≡ count_at ws k j
  count_shared zero j le = omega (arith, count_root ws j, count_root ws (j + 1))
  count_shared (suc k) j le =
      let e : k + 1 ≡ suc k = omega arith in
      subst (λ (l : ℕ). count_at ws l (j + 1) ≡ count_at ws l j) e (count_old ws k j (inl (omega (arith, le))))

  -- each node but the root is added by a word
  pub found_node : (v m : ℕ) → 0 < v → v < above ws m → (k : ℕ) × (j : ℕ) × (j < ws.count) × IsNew ws k j × (next_at ws (k + 1) j ≡ v)
  found_node v m some less = of_level f.0 f.2 f.3
    where
      f : (k : ℕ) × (k < m) × (above ws k ≤ v) × (v < above ws (k + 1))
      f = find_level ws v m less

      of_level : (k : ℕ) → above ws k ≤ v → v < above ws (k + 1)
          → (k : ℕ) × (j : ℕ) × (j < ws.count) × IsNew ws k j × (next_at ws (k + 1) j ≡ v)
      of_level zero low high = absurd (omega (arith, some, high, above_one ws, ap (above ws) (let e : 0 + 1 ≡ 1 = omega arith in e)))
      of_level (suc k) low high =
          let e : suc k ≡ k + 1 = omega arith in
          let at = ap (above ws) e in
          let up = ap (λ l. above ws (l + 1)) e in
          let g = find_word ws k (v - above ws (k + 1)) ws.count (omega (arith, low, high, at, up, above_more ws (k + 1))) in
          (k, g.0, g.1, record { from = g.3; to = g.4 }, omega (arith, low, at, g.2))

  -- a node that a word adds stands on its level
  pub new_inside : (k j : ℕ) → j < ws.count → IsNew ws k j → next_at ws (k + 1) j + 1 ≤ above ws (k + 1 + 1)
  new_inside k j less new =
      omega (arith, count_new ws k j new.from new.to, next_inside ws (k + 1) (j + 1) (omega (arith, less)))

  -- ---- no two words add the same node

  pub apart_words : (k i j : ℕ) → i < j → IsNew ws k i → next_at ws (k + 1) i < next_at ws (k + 1) j
  apart_words k i j less new = omega (arith, count_new ws k i new.from new.to, count_order ws (k + 1) (i + 1) j (omega (arith, less)))

  pub apart_levels : (k l i j : ℕ) → k < l → i < ws.count → IsNew ws k i → next_at ws (k + 1) i < next_at ws (l + 1) j
  apart_levels k l i j less inside new =
      omega (arith, new_inside k i inside new, above_order ws (k + 1 + 1) (l + 1) (omega (arith, less)))

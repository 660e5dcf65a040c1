-- Nodes, labels and parents that are placed: the way down each word, and the order of siblings.
use Rattle.std.proofs.Common.{◌≡◌, ℕ, zero, suc, ◌+◌, ◌<◌, ◌≤◌, ◌⊎◌, inl, inr, List, length, get_or, slice_index, sym, ap, ◌∙◌, subst, ⊎_elim, arith}
use Rattle.std.proofs.lemmas.Bool.{cases_lt, cases_order}
use Rattle.louds.specs.Parents.{AreParents}
use Rattle.tree_block.specs.Levels.{above, count_at, next_at, IsChildPlaced, IsNew}
use Rattle.tree_block.specs.Words.{shared_of, AreSorted, Words}
use Rattle.tree_block.proofs.LevelLemmas.{above_order, count_cases, count_new, count_order, next_inside, shared_first}
use Rattle.tree_block.proofs.OrderLemmas.{count_shared, found_node, letter_less, new_inside, on_level, shared_before, shared_less, shared_same}

-- all nodes that words add are placed: there are as many as above level m
pub record AllPlaced (ws : Words) (labels parents : List ℕ) (m : ℕ) : Type 0 where
  pub each : (k j : ℕ) → j < ws.count → IsNew ws k j → IsChildPlaced ws labels parents k j
  pub labels_len : length labels + 1 ≡ above ws m
  pub parents_len : length parents + 1 ≡ above ws m

module _ (ws : Words) (labels parents : List ℕ) (m : ℕ) (h : AllPlaced ws labels parents m) where
  -- the last node of a level that words up to word j add is the one that word j leads to, if it has so many letters
  on_path_first : (k v : ℕ) → 0 < ws.count → k < length (ws.word 0) → v + 1 + 1 ≡ next_at ws (k + 1) (0 + 1)
      → (slice_index labels v ≡ slice_index (ws.word 0) k) × (slice_index parents v + 1 ≡ next_at ws k (0 + 1))
  on_path_first k v inside less is =
      let new : IsNew ws k 0 = record { from = omega (arith, shared_first ws); to = less } in
      h.each k 0 inside new v (omega (arith, is, count_new ws k 0 new.from new.to))

  -- where word i + 1 shares the letter with word i, both lead to one node
  on_path_shared : (i k v : ℕ) → k < shared_of ws (i + 1) → count_at ws (k + 1) (i + 1 + 1) ≡ count_at ws (k + 1) (i + 1)
      → v + 1 + 1 ≡ next_at ws (k + 1) (i + 1 + 1)
      → (v + 1 + 1 ≡ next_at ws (k + 1) (i + 1)
      → (slice_index labels v ≡ slice_index (ws.word i) k) × (slice_index parents v + 1 ≡ next_at ws k (i + 1)))
      → (slice_index labels v ≡ slice_index (ws.word (i + 1)) k) × (slice_index parents v + 1 ≡ next_at ws k (i + 1 + 1))
  on_path_shared i k v low same is early =
      let at = early (omega (arith, is, same)) in (
        at.0 ∙ shared_same ws i k low,
        omega (arith, at.1, count_shared ws k (i + 1) (omega (arith, low))),
      )

  pub on_path : (j k v : ℕ) → j < ws.count → k < length (ws.word j) → v + 1 + 1 ≡ next_at ws (k + 1) (j + 1)
      → (slice_index labels v ≡ slice_index (ws.word j) k) × (slice_index parents v + 1 ≡ next_at ws k (j + 1))
  on_path zero k v inside less is = on_path_first k v inside less is
  on_path (suc i) k v inside less is =
      let e : i + 1 ≡ suc i = omega arith in
      ⊎_elim
      (λ new. h.each k (suc i) inside (record { from = new.0; to = new.1 }) v (omega (arith, is, new.2)))
      (λ old.
      ⊎_elim
      (λ low.
      let low_next : k < shared_of ws (i + 1) = omega (arith, low, ap (shared_of ws) e) in
      let c = ap (count_at ws (k + 1)) e in
      let d = ap (λ x. count_at ws (k + 1) (x + 1)) e in
      subst
      (λ (x : ℕ). (slice_index labels v ≡ slice_index (ws.word x) k) × (slice_index parents v + 1 ≡ next_at ws k (x + 1))) e
      (on_path_shared i k v low_next (omega (arith, old.1, c, d)) (omega (arith, is, d))
      (λ at. on_path i k v (omega (arith, inside)) (omega (arith, low_next, shared_before ws i)) at)))
      (λ past. absurd (omega (arith, past, less)))
      old.0)
      (count_cases ws k (suc i))

  -- ---- two nodes side by side

  -- of a level, or the parent of the first is before that of the other
  pub record OfOneLevel (v k i j : ℕ) : Type 0 where
    pub first : i < j
    pub inside : j < ws.count
    pub new_first : IsNew ws k i
    pub new_next : IsNew ws k j
    pub at_first : next_at ws (k + 1) i ≡ v + 1
    pub at_next : next_at ws (k + 1) j ≡ v + 1 + 1

  pub neighbours : (v : ℕ) → v + 1 < length labels
      → ((k : ℕ) × (i : ℕ) × (j : ℕ) × OfOneLevel v k i j) ⊎ (slice_index parents v < slice_index parents (v + 1))
  neighbours v inside = compare f.0 f.1 g.0 g.1 f.2 f.3 f.4 g.2 g.3 g.4
    where
      f : (k : ℕ) × (j : ℕ) × (j < ws.count) × IsNew ws k j × (next_at ws (k + 1) j ≡ v + 1)
      f = found_node ws (v + 1) m (omega arith) (omega (arith, inside, h.labels_len))

      g : (k : ℕ) × (j : ℕ) × (j < ws.count) × IsNew ws k j × (next_at ws (k + 1) j ≡ v + 1 + 1)
      g = found_node ws (v + 1 + 1) m (omega arith) (omega (arith, inside, h.labels_len))

      compare : (k i l j : ℕ) → i < ws.count → IsNew ws k i → next_at ws (k + 1) i ≡ v + 1 → j < ws.count → IsNew ws l j
          → next_at ws (l + 1) j ≡ v + 1 + 1
          → ((k : ℕ) × (i : ℕ) × (j : ℕ) × OfOneLevel v k i j) ⊎ (slice_index parents v < slice_index parents (v + 1))
      compare k i l j i_in i_new i_at j_in j_new j_at =
          ⊎_elim
          (λ same.
          let at : next_at ws (k + 1) j ≡ v + 1 + 1 = omega (arith, j_at, ap (λ n. next_at ws (n + 1) j) same) in
          let new : IsNew ws k j = subst (λ (n : ℕ). IsNew ws n j) (sym same) j_new in
          ⊎_elim
          (λ less. inl (k, i, j, record { first = less; inside = j_in; new_first = i_new; new_next = new; at_first = i_at; at_next = at }))
          (λ le. absurd (omega (arith, i_at, at, count_order ws (k + 1) j i le)))
          (cases_lt i j))
          (λ other.
          ⊎_elim
          (λ less.
          inr (omega (
            arith,
            (h.each k i i_in i_new v (omega (arith, i_at))).1,
            (h.each l j j_in j_new (v + 1) (omega (arith, j_at))).1,
            next_inside ws k (i + 1) (omega (arith, i_in)),
            above_order ws (k + 1) l (omega (arith, less)),
            on_level ws l j (omega (arith, j_new.to)),
          )))
          (λ more.
          absurd (omega (arith, i_at, j_at, new_inside ws l j j_in j_new, above_order ws (l + 1 + 1) (k + 1) (omega (arith, more)))))
          other)
          (cases_order k l)

  parents_at : (v k i j : ℕ) → OfOneLevel v k i j
      → (slice_index parents v + 1 ≡ next_at ws k (i + 1)) × (slice_index parents (v + 1) + 1 ≡ next_at ws k (j + 1))
  parents_at v k i j at = (
    (h.each k i (omega (arith, at.first, at.inside)) at.new_first v (omega (arith, at.at_first))).1,
    (h.each k j at.inside at.new_next (v + 1) (omega (arith, at.at_next))).1,
  )

  -- so the parents are those of nodes level by level
  pub are_parents : AreParents parents
  are_parents = record { before = before; rising = rising }
    where
      before : (v : ℕ) → v < length parents → slice_index parents v ≤ v
      before v inside =
          let f = found_node ws (v + 1) m (omega arith) (omega (arith, inside, h.parents_len)) in
          let p = (h.each f.0 f.1 f.2 f.3 v (omega (arith, f.4))).1 in
          omega (arith, p, f.4, next_inside ws f.0 (f.1 + 1) (omega (arith, f.2)))

      rising : (v : ℕ) → v + 1 < length parents → slice_index parents v ≤ slice_index parents (v + 1)
      rising v inside =
          ⊎_elim
          (λ n.
          let at = n.3 in
          let p = parents_at v n.0 n.1 n.2 at in
          omega (arith, p.0, p.1, count_order ws n.0 (n.1 + 1) (n.2 + 1) (omega (arith, at.first))))
          (λ less. omega (arith, less))
          (neighbours v (omega (arith, inside, h.labels_len, h.parents_len)))

  -- and the labels of siblings rise
  pub siblings_rise : AreSorted ws → (v : ℕ) → v + 1 < length labels → slice_index parents v ≡ slice_index parents (v + 1)
      → slice_index labels v < slice_index labels (v + 1)
  siblings_rise sorted v inside same =
      ⊎_elim
      (λ n. of_level n.0 n.1 n.2 n.3)
      (λ less. absurd (omega (arith, less, same)))
      (neighbours v inside)
    where
      -- a word between adds none to the level above
      none_above : (k i w j : ℕ) → OfOneLevel v k i j → i < w → w ≤ j → shared_of ws w < k → k ≤ length (ws.word w) → ⊥
      none_above zero i w j at after to low high = absurd (omega (arith, low))
      none_above (suc k) i w j at after to low high =
          let e : suc k ≡ k + 1 = omega arith in
          let p = parents_at v (suc k) i j at in
          omega (
            arith,
            p.0,
            p.1,
            same,
            ap (λ l. count_at ws l (w + 1)) e,
            ap (λ l. count_at ws l w) e,
            count_new ws k w (omega (arith, low)) (omega (arith, high)),
            count_order ws (suc k) (i + 1) w (omega (arith, after)),
            count_order ws (suc k) (w + 1) (j + 1) (omega (arith, to)),
          )

      of_level : (k i j : ℕ) → OfOneLevel v k i j → slice_index labels v < slice_index labels (v + 1)
      of_level k i zero at = absurd (omega (arith, at.first))
      of_level k i (suc w) at =
          let e : w + 1 ≡ suc w = omega arith in
          let next_label = (h.each k (suc w) at.inside at.new_next (v + 1) (omega (arith, at.at_next))).0 in
          let all = shared_before ws w in
          let is : shared_of ws (w + 1) ≡ k =
          ⊎_elim
          (λ low. absurd (none_above k i (suc w) (suc w) at at.first (omega arith) low (omega (arith, at.new_next.to))))
          (λ from. omega (arith, from, at.new_next.from, ap (shared_of ws) e))
          (cases_lt (shared_of ws (suc w)) k) in
          ⊎_elim
          (λ more.
          let here = on_path w k v (omega (arith, at.inside)) more (omega (arith, at.at_next, ap (count_at ws (k + 1)) e)) in
          omega (
            arith,
            here.0,
            next_label,
            ap (λ (x : ℕ). get_or (ws.word x) k 0) e,
            letter_less ws sorted w k (omega (arith, at.inside)) is more,
          ))
          (λ short. absurd (ended k i w at (omega (arith, is, short, all))))
          (cases_lt k (length (ws.word w)))
        where
          -- the word before ends at no parent of an earlier word's letter
          ended : (k i w : ℕ) → OfOneLevel v k i (suc w) → length (ws.word w) ≡ k → ⊥
          ended k i zero at is =
              let z : i ≡ 0 = omega (arith, at.first) in
              omega (arith, is, at.new_first.to, ap (λ (x : ℕ). length (ws.word x)) z)
          ended k i (suc x) at is =
              let e : x + 1 ≡ suc x = omega arith in
              ⊎_elim
              (λ after.
              none_above k i (suc x) (suc (suc x)) at after (omega arith)
              (omega (arith, shared_less ws sorted x (omega (arith, at.inside)), ap (shared_of ws) e, ap (λ (y : ℕ). length (ws.word y)) e, is))
              (omega (arith, is)))
              (λ to.
              let z : i ≡ suc x = omega (arith, at.first, to) in
              omega (arith, is, at.new_first.to, ap (λ (y : ℕ). length (ws.word y)) z))
              (cases_lt i (suc x))

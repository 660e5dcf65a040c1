-- How many nodes of a level the first words add.
use Rattle.std.proofs.Common.{◌≡◌, ℕ, zero, suc, ◌+◌, ◌-◌, ◌<◌, ◌≤◌, ◌⊎◌, inl, inr, leb, ltb, length, refl, ap, subst, ⊎_elim, arith}
use Rattle.std.proofs.lemmas.Bool.{and_from, and_left, and_right, cases_lt, cond-false, cond-true, le-leb, le-ltb, lt-leb, lt-ltb}
use Rattle.tree_block.specs.Levels.{above, adds, count_at, next_at}
use Rattle.tree_block.specs.Words.{added, common, shared_of, Words}

module _ (ws : Words) where
  -- ---- what the first word and the next one share

  pub shared_first : shared_of ws 0 ≡ 0
  unfolding shared_of
  shared_first = refl

  pub shared_next : (j : ℕ) → shared_of ws (j + 1) ≡ common (ws.word j) (ws.word (j + 1))
  unfolding shared_of
  shared_next j =
      let e : suc j ≡ j + 1 = omega arith in
      subst (λ (i : ℕ). shared_of ws i ≡ common (ws.word j) (ws.word i)) e refl

  pub added_none : added ws 0 ≡ 0
  unfolding added
  added_none = refl

  pub added_more : (j : ℕ) → added ws (j + 1) ≡ added ws j + (length (ws.word j) - shared_of ws j)
  unfolding added
  added_more j =
      let e : suc j ≡ j + 1 = omega arith in
      subst (λ (i : ℕ). added ws i ≡ added ws j + (length (ws.word j) - shared_of ws j)) e refl

  -- ---- what one word adds to a level

  pub count_root : (j : ℕ) → count_at ws 0 j ≡ 1
  unfolding count_at
  count_root j = refl

  pub count_none : (k : ℕ) → count_at ws (k + 1) 0 ≡ 0
  unfolding count_at
  count_none k =
      let e : suc k ≡ k + 1 = omega arith in
      subst (λ (l : ℕ). count_at ws l 0 ≡ 0) e refl

  count_more : (k j : ℕ) → count_at ws (k + 1) (j + 1) ≡ count_at ws (k + 1) j + adds ws k j
  unfolding count_at
  count_more k j =
      let e : suc k ≡ k + 1 = omega arith in
      let f : suc j ≡ j + 1 = omega arith in
      subst (λ (l : ℕ). count_at ws l (j + 1) ≡ count_at ws l j + adds ws k j) e
      (subst (λ (i : ℕ). count_at ws (suc k) i ≡ count_at ws (suc k) j + adds ws k j) f refl)

  pub count_new : (k j : ℕ) → shared_of ws j ≤ k → k < length (ws.word j) → count_at ws (k + 1) (j + 1) ≡ count_at ws (k + 1) j + 1
  count_new k j from to =
      let one : adds ws k j ≡ 1 =
      cond-true _ 1 0 (and_from (leb (shared_of ws j) k) (ltb k (length (ws.word j))) (le-leb _ _ from) (lt-ltb _ _ to)) in
      omega (arith, count_more k j, one)

  pub count_old : (k j : ℕ) → (k < shared_of ws j) ⊎ (length (ws.word j) ≤ k) → count_at ws (k + 1) (j + 1) ≡ count_at ws (k + 1) j
  count_old k j out =
      let none : adds ws k j ≡ 0 =
      cond-false _ 1 0 (⊎_elim (λ low. and_left (leb (shared_of ws j) k) (ltb k (length (ws.word j))) (lt-leb _ _ low))
      (λ past. and_right (leb (shared_of ws j) k) (ltb k (length (ws.word j))) (le-ltb _ _ past)) out) in
      omega (arith, count_more k j, none)

  pub count_cases : (k j : ℕ)
      → ((shared_of ws j ≤ k) × (k < length (ws.word j)) × (count_at ws (k + 1) (j + 1) ≡ count_at ws (k + 1) j + 1))
      ⊎ (((k < shared_of ws j) ⊎ (length (ws.word j) ≤ k)) × (count_at ws (k + 1) (j + 1) ≡ count_at ws (k + 1) j))
  count_cases k j =
      ⊎_elim
      (λ low. inr (inl low, count_old k j (inl low)))
      (λ from. ⊎_elim (λ to. inl (from, to, count_new k j from to)) (λ past. inr (inr past, count_old k j (inr past))) (cases_lt k (length (ws.word j))))
      (cases_lt k (shared_of ws j))

  -- ---- more words add no fewer

  count_step : (k j : ℕ) → count_at ws k j ≤ count_at ws k (j + 1)
  count_step zero j = omega (arith, count_root j, count_root (j + 1))
  count_step (suc k) j =
      let e : k + 1 ≡ suc k = omega arith in
      subst (λ (l : ℕ). count_at ws l j ≤ count_at ws l (j + 1)) e
      (⊎_elim (λ new. omega (arith, new.2)) (λ old. omega (arith, old.1)) (count_cases k j))

  count_grows : (k i m : ℕ) → count_at ws k i ≤ count_at ws k (i + m)
  count_grows k i zero = let e : i + 0 ≡ i = omega arith in omega (arith, ap (count_at ws k) e)
  count_grows k i (suc m) =
      let e : i + suc m ≡ i + m + 1 = omega arith in
      omega (arith, ap (count_at ws k) e, count_step k (i + m), count_grows k i m)

  pub count_order : (k i j : ℕ) → i ≤ j → count_at ws k i ≤ count_at ws k j
  count_order k i j le =
      let e : i + (j - i) ≡ j = omega arith in
      omega (arith, ap (count_at ws k) e, count_grows k i (j - i))

  -- ---- levels

  pub above_none : above ws 0 ≡ 0
  unfolding above
  above_none = refl

  pub above_more : (k : ℕ) → above ws (k + 1) ≡ above ws k + count_at ws k ws.count
  unfolding above
  above_more k =
      let e : suc k ≡ k + 1 = omega arith in
      subst (λ (l : ℕ). above ws l ≡ above ws k + count_at ws k ws.count) e refl

  above_grows : (k m : ℕ) → above ws k ≤ above ws (k + m)
  above_grows k zero = let e : k + 0 ≡ k = omega arith in omega (arith, ap (above ws) e)
  above_grows k (suc m) =
      let e : k + suc m ≡ k + m + 1 = omega arith in
      omega (arith, ap (above ws) e, above_more (k + m), above_grows k m)

  pub above_order : (k l : ℕ) → k ≤ l → above ws k ≤ above ws l
  above_order k l le =
      let e : k + (l - k) ≡ l = omega arith in
      omega (arith, ap (above ws) e, above_grows k (l - k))

  pub above_one : above ws 1 ≡ 1
  above_one =
      let e : 0 + 1 ≡ 1 = omega arith in
      omega (arith, ap (above ws) e, above_more 0, above_none, count_root ws.count)

  -- a level ends where the next begins
  pub next_inside : (k j : ℕ) → j ≤ ws.count → next_at ws k j ≤ above ws (k + 1)
  next_inside k j le = omega (arith, above_more k, count_order k j ws.count le)

  -- ---- the word that adds a node

  pub find_level : (v m : ℕ) → v < above ws m → (k : ℕ) × (k < m) × (above ws k ≤ v) × (v < above ws (k + 1))
  find_level v zero less = absurd (omega (arith, less, above_none))
  find_level v (suc m) less =
      let e : suc m ≡ m + 1 = omega arith in
      ⊎_elim
      (λ low. let f = find_level v m low in (f.0, omega (arith, f.1), f.2, f.3))
      (λ here. (m, omega arith, here, omega (arith, less, ap (above ws) e)))
      (cases_lt v (above ws m))

  pub find_word : (k x m : ℕ) → x < count_at ws (k + 1) m
      → (j : ℕ) × (j < m) × (count_at ws (k + 1) j ≡ x) × (shared_of ws j ≤ k) × (k < length (ws.word j))
  find_word k x zero less = absurd (omega (arith, less, count_none k))
  find_word k x (suc m) less =
      let e : suc m ≡ m + 1 = omega arith in
      ⊎_elim
      (λ low. let f = find_word k x m low in (f.0, omega (arith, f.1), f.2, f.3, f.4))
      (λ here.
      ⊎_elim
      (λ new. (m, omega arith, omega (arith, here, less, new.2, ap (count_at ws (k + 1)) e), new.0, new.1))
      (λ old. absurd (omega (arith, here, less, old.1, ap (count_at ws (k + 1)) e)))
      (count_cases k m))
      (cases_lt x (count_at ws (k + 1) m))

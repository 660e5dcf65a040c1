-- One level: each of its ones is that of one key, and there are as many as keys that fall on one.
use Rattle.std.proofs.Common.{◌≡◌, ℕ, zero, suc, ◌+◌, ◌-◌, ◌*◌, ◌<◌, ◌≤◌, Bool, true, false, ◌&&◌, List, length, refl, sym, ap, ◌∙◌, ⊎_elim, arith, eqb, ltb}
use Rattle.std.proofs.lemmas.Bool.{cases_lt, cases_eq, eq-eqb, eqb-true, ne_eqb, lt-ltb, le-ltb, and_parts, and_from, and_right, false_from_ne_true}
use Rattle.std.specs.List.{count_by}
use Rattle.bit_lists.specs.Bits.{item}
use Rattle.bit_lists.specs.Count.{ones_before, Picks}
use Rattle.bit_lists.proofs.BitLaws.{at_most_one_picked, count_after_item, counts_grow, one_picked_for_each_rank}
use Rattle.perfect_hash.specs.Levels.{hits, IsLevel, left_of}
use Rattle.perfect_hash.proofs.lemmas.CountingLemmas.{count_by-agree, count_by-either, count_by-none, count_by-others, below_more, one_if}

-- each key falls inside each level that has a word
abbrev pub FallsInside : {K : Type 0} → (K → ℕ → ℕ → ℕ) → Type 0
FallsInside {K} fall = (k : K) (level words : ℕ) → 0 < words → fall k level words < 64 * words

-- one more one stands before what follows a one
pub one_more_after : (b : List Bool) (p : ℕ) → p < length b → item b p ≡ true → ones_before b (p + 1) ≡ ones_before b p + 1
one_more_after b p inside one = omega (arith, count_after_item b true p inside, ap one_if one)

-- the position that a rank picks between two positions
pub picked_between : (b : List Bool) (from to v : ℕ) → to ≤ length b → ones_before b from ≤ v → v < ones_before b to
    → (p : ℕ) × (from ≤ p) × (p < to) × Picks b true v p
picked_between b from to v inside low high =
    let found = one_picked_for_each_rank b true v (omega (arith, counts_grow b true to (length b) inside)) in
    let p = found.0 in
    let at = found.1 in
    let ones : ones_before b p ≡ v = at.before in (
      p,
      ⊎_elim
          (λ less. absurd (omega (arith, ones, one_more_after b p at.inside at.item, counts_grow b true (p + 1) from (omega arith))))
          (λ le. le) (cases_lt p from),
      ⊎_elim (λ less. less) (λ le. absurd (omega (arith, ones, counts_grow b true to p le))) (cases_lt p to),
      at,
    )

module _ {K : Type 0} (fall : K → ℕ → ℕ → ℕ) (falls : FallsInside fall) (b : List Bool) (level begin words : ℕ) where
  -- where a key falls in all levels
  abbrev pub position : K → ℕ
  position k = begin + fall k level words

  -- each number between those at the level's ends is that of one key
  pub level_once : (keys : List K) (v : ℕ) → begin + 64 * words ≤ length b
      → IsLevel fall keys b level begin words → ones_before b begin ≤ v → v < ones_before b (begin + 64 * words)
      → 0 < words → count_by (λ k. item b (position k) && eqb (ones_before b (position k)) v) keys ≡ 1
  level_once keys v inside is low high some =
      let found = picked_between b begin (begin + 64 * words) v inside low high in
      let p = found.0 in
      let at = found.3 in
      let q = p - begin in
      let here : begin + q ≡ p = omega (arith, found.1) in
      let one : hits fall keys level words q ≡ 1 =
      eqb-true (hits fall keys level words q) 1 (sym (is q (omega (arith, found.1, found.2))) ∙ ap (item b) here ∙ at.item) in
      count_by-agree (λ k. item b (position k) && eqb (ones_before b (position k)) v) (λ k. eqb (fall k level words) q)
      (λ k.
      let within : position k < length b = omega (arith, falls k level words some) in
      ⊎_elim
      (λ same.
      let there : position k ≡ p = omega (arith, same, here) in
      and_from (item b (position k)) (eqb (ones_before b (position k)) v) (ap (item b) there ∙ at.item)
      (eq-eqb (ones_before b (position k)) v (ap (ones_before b) there ∙ at.before))
      ∙ sym (eq-eqb (fall k level words) q same))
      (λ other.
      false_from_ne_true (item b (position k) && eqb (ones_before b (position k)) v)
      (λ both.
      let parts = and_parts (item b (position k)) (eqb (ones_before b (position k)) v) both in
      let picked : Picks b true v (position k) = record { inside = within; item = parts.0; before = eqb-true (ones_before b (position k)) v parts.1 } in
      other (omega (arith, here, at_most_one_picked b true v (position k) p picked at)))
      ∙ sym (ne_eqb (fall k level words) q other))
      (cases_eq (fall k level words) q))
      keys ∙ one

  -- so many keys fall on the first ones
  first_ones : (keys : List K) (m : ℕ) → begin + 64 * words ≤ length b → 0 < words
      → IsLevel fall keys b level begin words → ones_before b begin + m ≤ ones_before b (begin + 64 * words)
      → count_by (λ k. item b (position k) && ltb (ones_before b (position k)) (ones_before b begin + m)) keys ≡ m
  first_ones keys zero inside some is few =
      count_by-none (λ k. item b (position k) && ltb (ones_before b (position k)) (ones_before b begin + 0))
      (λ k. and_right (item b (position k)) (ltb (ones_before b (position k)) (ones_before b begin + 0))
      (le-ltb (ones_before b (position k)) (ones_before b begin + 0) (omega (arith, counts_grow b true begin (position k) (omega arith)))))
      keys
  first_ones keys (suc m) inside some is few =
      omega (
        arith,
        count_by-either (λ k. item b (position k) && ltb (ones_before b (position k)) (ones_before b begin + suc m))
            (λ k. item b (position k) && ltb (ones_before b (position k)) (ones_before b begin + m))
            (λ k. item b (position k) && eqb (ones_before b (position k)) (ones_before b begin + m))
            (λ k. below_more (item b (position k)) (ones_before b (position k)) (ones_before b begin + m) (ones_before b begin + suc m) (omega arith)) keys,
        first_ones keys m inside some is (omega arith),
        level_once keys (ones_before b begin + m) inside is (omega arith) (omega arith) some,
      )

  -- as many keys fall on ones as there are
  pub level_count : (keys : List K) → begin + 64 * words ≤ length b → 0 < words → IsLevel fall keys b level begin words
      → ones_before b begin + count_by (λ k. item b (position k)) keys ≡ ones_before b (begin + 64 * words)
  level_count keys inside some is =
      let low : ones_before b begin ≤ ones_before b (begin + 64 * words) = counts_grow b true begin (begin + 64 * words) (omega arith) in
      let m = ones_before b (begin + 64 * words) - ones_before b begin in
      let whole : ones_before b begin + m ≡ ones_before b (begin + 64 * words) = omega (arith, low) in
      let all : count_by (λ k. item b (position k)) keys ≡ m =
      count_by-agree (λ k. item b (position k)) (λ k. item b (position k) && ltb (ones_before b (position k)) (ones_before b begin + m))
      (λ k. on_test (item b (position k)) (ltb (ones_before b (position k)) (ones_before b begin + m))
      (λ one. lt-ltb (ones_before b (position k)) (ones_before b begin + m)
      (let within : position k < begin + 64 * words = omega (arith, falls k level words some) in
      omega (arith, whole, one_more_after b (position k) (omega arith) one, counts_grow b true (position k + 1) (begin + 64 * words) (omega arith)))))
      keys
      ∙ first_ones keys m inside some is (omega (arith, whole)) in
      omega (arith, whole, all)
    where
      on_test : (x y : Bool) → (x ≡ true → y ≡ true) → x ≡ (x && y)
      on_test false y h = refl
      on_test true y h = sym (h refl)

  -- the others are left
  pub level_left : (keys : List K) → begin + 64 * words ≤ length b → 0 < words → IsLevel fall keys b level begin words
      → ones_before b (begin + 64 * words) + length (left_of fall keys b level begin words) ≡ ones_before b begin + length keys
  level_left keys inside some is =
      omega (arith, level_count keys inside some is, count_by-others (λ k. item b (position k)) keys)

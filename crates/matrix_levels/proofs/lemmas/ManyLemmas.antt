-- Items that go from level to level, alone or many together.
use Rattle.std.proofs.Common.{◌≡◌, ℕ, ◌+◌, ◌-◌, ◌*◌, ◌/◌, ◌^◌, ◌<◌, ◌≤◌, List, Bool, true, false, length, get_or, set, All, refl, sym, ap, ◌∙◌, subst, arith, ⊎_elim, ◌⊎◌, ◌≢◌, inl, inr}
use Rattle.std.proofs.lemmas.Bool.{cases_lt}
use Rattle.std.proofs.lemmas.List.{get_or-set_same, get_or-set_other}
use Rattle.bit_lists.specs.Bits.{digit}
use Rattle.matrix_levels.specs.Levels.{level, level_position, partition_position}
use Rattle.matrix_levels.proofs.lemmas.PrefixLemmas.{with_digit, prefix-all, prefix-more}
use Rattle.matrix_levels.proofs.lemmas.WalkLemmas.{digits-first, level_position-first, level_position-item, prefix-fits, step-position}
use mir.Val.{bool_byte}

-- where item i stands on level d, and its first d digits
pub record IsAtLevel (xs : List ℕ) (w d i p n : ℕ) : Type 0 where
  pub position : p ≡ level_position xs w (get_or xs i 0) d i
  pub digits : n ≡ get_or xs i 0 / 2 ^ (w - d)

-- position q is where number k stands on level d that comes from position k
abbrev pub StandsAt : List ℕ → ℕ → List ℕ → List ℕ → ℕ → ℕ → ℕ → Type 0
StandsAt xs w numbers positions d k q = q ≡ level_position xs w (get_or numbers k 0) d (get_or positions k 0)

-- the number so far and one digit more
one-more : (n : ℕ) (v : Bool) → 2 * n + bool_byte v ≡ with_digit n v
one-more n true = refl
one-more n false = refl

module _ (xs : List ℕ) (w : ℕ) (fit : All (λ x. x < 2 ^ w) xs) (most : w ≤ 64) (i : ℕ) (inside : i < length xs) where
  pub level-first : IsAtLevel xs w 0 i i 0
  level-first = record { position = level_position-first xs w (get_or xs i 0) i; digits = digits-first (get_or xs i 0) w (fit i 0 inside) }

  pub level-last : (d p n : ℕ) → d ≡ w → IsAtLevel xs w d i p n → n ≡ get_or xs i 0
  level-last d p n e h = h.digits ∙ prefix-all (get_or xs i 0) w d e

  pub level-last-position : (d p n : ℕ) → d ≡ w → IsAtLevel xs w d i p n → p ≡ level_position xs w n w i
  level-last-position d p n e h =
      h.position ∙ ap (λ k. level_position xs w (get_or xs i 0) k i) e ∙ ap (λ x. level_position xs w x w i) (sym (level-last d p n e h))

  pub level-inside : (d p n : ℕ) → IsAtLevel xs w d i p n → p < length xs
  level-inside d p n h = omega (arith, h.position, (level_position-item xs w (get_or xs i 0) d i inside refl).0)

  -- one level on, by a level and a digit that are these
  module _ (d p n next : ℕ) (v : Bool) (ys : List ℕ) (less : d < w) (h : IsAtLevel xs w d i p n) (same : ys ≡ level xs w d)
      (is : v ≡ digit (get_or ys p 0) (w - 1 - d)) (moves : next ≡ partition_position (w - 1 - d) v ys p) where
    own : v ≡ digit (get_or xs i 0) (w - 1 - d)
    own =
        is
        ∙ ap (λ m. digit (get_or m p 0) (w - 1 - d)) same
        ∙ ap (λ q. digit (get_or (level xs w d) q 0) (w - 1 - d)) h.position
        ∙ ap (λ y. digit y (w - 1 - d)) (level_position-item xs w (get_or xs i 0) d i inside refl).1

    more : 2 * n + bool_byte v ≡ with_digit (get_or xs i 0 / 2 ^ (w - d)) (digit (get_or xs i 0) (w - 1 - d))
    more = one-more n v ∙ ap (λ k. with_digit k v) h.digits ∙ ap (with_digit (get_or xs i 0 / 2 ^ (w - d))) own

    pub level-fits : 2 * n + bool_byte v < 2 ^ 64
    level-fits = omega (arith, more, prefix-fits (get_or xs i 0) w d less most (fit i 0 inside))

    pub level-next-item : IsAtLevel xs w (d + 1) i next (2 * n + bool_byte v)
    level-next-item = record {
      position = step-position xs w (get_or xs i 0) d i p next v ys same own h.position moves;
      digits = more ∙ prefix-more (get_or xs i 0) w d less;
    }

-- of two lists, one more item is done, and the others are as they were
module _ (P : ℕ → ℕ → ℕ → Type 0) (us bs : List ℕ) (k a b : ℕ) (within : k < length us) (room : k < length bs) where
  both : (j : ℕ) → j < k ⊎ k < j → P j (get_or us j 0) (get_or bs j 0) → P j (get_or (set us k a) j 0) (get_or (set bs k b) j 0)
  both j apart h =
      let other : j ≢ k = λ e. ⊎_elim (λ l. omega (arith, e, l)) (λ g. omega (arith, e, g)) apart in
      let Q : ℕ → Type 0 = λ x. P j x (get_or (set bs k b) j 0) in
      let R : ℕ → Type 0 = λ y. P j (get_or us j 0) y in
      subst Q (sym (get_or-set_other us k j a 0 other)) (subst R (sym (get_or-set_other bs k j b 0 other)) h)

  pub done-more : ((j : ℕ) → j < k → P j (get_or us j 0) (get_or bs j 0)) → P k a b
      → (j : ℕ) → j < k + 1 → P j (get_or (set us k a) j 0) (get_or (set bs k b) j 0)
  done-more before now j h =
      ⊎_elim
      (λ l. both j (inl l) (before j l))
      (λ g. let e : k ≡ j = omega (arith, g, h) in
      let S : ℕ → Type 0 = λ i. P i (get_or (set us k a) i 0) (get_or (set bs k b) i 0) in
      let Q : ℕ → Type 0 = λ x. P k x (get_or (set bs k b) k 0) in
      let R : ℕ → Type 0 = λ y. P k a y in
      subst S e (subst Q (sym (get_or-set_same us k a 0 within)) (subst R (sym (get_or-set_same bs k b 0 room)) now)))
      (cases_lt j k)

  pub open-less : (n : ℕ) → ((j : ℕ) → k ≤ j → j < n → P j (get_or us j 0) (get_or bs j 0))
      → (j : ℕ) → k + 1 ≤ j → j < n → P j (get_or (set us k a) j 0) (get_or (set bs k b) j 0)
  open-less n after j from below = both j (inr (omega (arith, from))) (after j (omega (arith, from)) below)

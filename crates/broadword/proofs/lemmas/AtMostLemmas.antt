-- One subtraction and one mask compare all bytes of a word to a number.
use Rattle.std.proofs.Common.{◌≡◌, ℕ, ◌+◌, ◌-◌, ◌*◌, ◌/◌, ◌%◌, ◌^◌, ◌<◌, ◌≤◌, min, cond, nat_le, count_by, All, get_or, length, bit_and, count_ones, refl, sym, ap, ap₂, ◌∙◌, arith, lit<, inl, inr, le-leb}
use Rattle.std.proofs.lemmas.Bool.{cases_lt, lt-leb}
use Rattle.std.proofs.lemmas.List.{get_or-map}
use Rattle.std.proofs.lemmas.Nat.{and_block, and_le_r, mod_below, ones_cat}
use Rattle.std.proofs.lemmas.Nat.Bits.{and_pow}
use Rattle.std.specs.Int.Bits.{and_zero_r}
use Rattle.std.specs.Int.Count.{ones, ones_in}
use Rattle.broadword.proofs.lemmas.ByteLemmas.{length-low_bytes}
use Rattle.broadword.proofs.lemmas.ByteSumLemmas.{self, in_each_byte, kept}
use Rattle.broadword.proofs.lemmas.FieldLemmas.{map_fields, Stays, map_fields-self, map_fields-same_bytes, map_fields-sub, map_fields-and, low_bytes-map_fields, count_ones-map_fields, sum_fields-same, sum_fields-count_by}
use Rattle.broadword.proofs.lemmas.LowBytes.{low_bytes}

-- what is left of 128 + r from which one of at most 64 is taken
abbrev left : ℕ → ℕ → ℕ
left r s = 128 + r - min s 64

highest_alone : (count_ones 0x80 ≡ 1) × (count_ones 0 ≡ 0)
unfolding ones ones_in
highest_alone = (refl, refl)

-- a byte has its highest bit exactly where it is at least 128
highest_of_byte : (v : ℕ) → v < 2 ^ 8 → count_ones (bit_and v 0x80) ≡ cond (nat_le 128 v) 1 0
highest_of_byte v fits =
    elim (cases_lt v 128) [
      | inl below ↦
          let e : v / 128 % 2 * 128 ≡ 0 = omega arith in
          ap count_ones (and_pow v 7 ∙ e) ∙ highest_alone.1 ∙ ap (λ b. cond b 1 0) (sym (lt-leb 128 v below))
      | inr from ↦
          let e : v / 128 % 2 * 128 ≡ 128 = omega arith in
          ap count_ones (and_pow v 7 ∙ e) ∙ highest_alone.0 ∙ ap (λ b. cond b 1 0) (sym (le-leb 128 v from))
    ]

-- and one of which is left has it exactly where no more than r was taken
highest_left : (r s : ℕ) → r ≤ 63 → count_ones (bit_and (left r s) 0x80) ≡ cond (nat_le s r) 1 0
highest_left r s below =
    let same : nat_le 128 (left r s) ≡ nat_le s r =
    elim (cases_lt r s) [
      | inl more ↦ lt-leb 128 (left r s) (omega arith) ∙ sym (lt-leb s r more)
      | inr less ↦ le-leb 128 (left r s) (omega arith) ∙ sym (le-leb s r less)
    ] in
    highest_of_byte (left r s) (omega arith) ∙ ap (λ b. cond b 1 0) same

module _ (x r : ℕ) (fits : x < 2 ^ 64) (small : All (λ s. s ≤ 64) (low_bytes 8 x)) (below : r ≤ 63) where
  from : (128 + r) * 0x0101010101010101 ≡ map_fields 8 8 (λ s. 128 + r) x
  from = sym (in_each_byte (128 + r) x)

  capped : x ≡ map_fields 8 8 (λ s. min s 64) x
  capped = sym (self x fits) ∙ map_fields-same_bytes 8 (λ s. s) (λ s. min s 64) x (λ k d inside. omega (arith, small k d inside))

  taken : (map_fields 8 8 (λ s. min s 64) x ≤ map_fields 8 8 (λ s. 128 + r) x)
      × (map_fields 8 8 (λ s. 128 + r) x - map_fields 8 8 (λ s. min s 64) x ≡ map_fields 8 8 (left r) x)
  taken = map_fields-sub 8 8 (λ s. 128 + r) (λ s. min s 64) x (λ v b. omega arith)

  pub no_borrow : x ≤ (128 + r) * 0x0101010101010101
  no_borrow = omega (arith, from, capped, taken.0)

  left_is : (128 + r) * 0x0101010101010101 - x ≡ map_fields 8 8 (left r) x
  left_is = ap₂ (λ a b. a - b) from capped ∙ taken.1

  stays : Stays 8 (left r)
  stays = record { below = λ v b. omega arith }

  -- each byte loses its own
  pub byte_left : (k : ℕ) → k < 8 → get_or (low_bytes 8 ((128 + r) * 0x0101010101010101 - x)) k 0 ≡ 128 + r - get_or (low_bytes 8 x) k 0
  byte_left k inside =
      let here : k < length (low_bytes 8 x) = omega (arith, length-low_bytes 8 x) in
      let few = small k 0 here in
      let at = get_or-map (left r) (low_bytes 8 x) k 0 0 here in
      ap (λ y. get_or (low_bytes 8 y) k 0) left_is
      ∙ ap (λ l. get_or l k 0) (low_bytes-map_fields 8 (left r) x stays)
      ∙ omega (arith, at, few)

  -- as many highest bits are left as bytes are at most r
  pub highest_counted :
      count_ones (bit_and ((128 + r) * 0x0101010101010101 - x) 0x8080808080808080)
      ≡ count_by (λ s. nat_le s r) (low_bytes 8 x)
  highest_counted =
      ap count_ones (kept (left r) 0x80 x _ stays (lit< tt) left_is)
      ∙ count_ones-map_fields 8 8 (λ s. bit_and (left r s) 0x80) x (record { below = λ v b. omega (arith, and_le_r (left r v) 0x80) })
      ∙ sum_fields-same 8 8 (λ s. count_ones (bit_and (left r s) 0x80)) (λ s. cond (nat_le s r) 1 0) x (λ s b. highest_left r s below)
      ∙ sum_fields-count_by (λ s. nat_le s r) 8 x

-- ---- the highest bits of all bytes but the first

-- 0x80 in each of seven bytes
seven : (y : ℕ) → map_fields 8 7 (λ v. 0x80) y ≡ 0x0080808080808080
unfolding map_fields
seven y = refl

-- they are the bytes that are at least 128
pub highest_but_first : (x : ℕ) → x < 2 ^ 64 → count_ones (bit_and x 0x8080808080808000) ≡ count_by (λ v. nat_le 128 v) (low_bytes 7 (x / 256))
highest_but_first x fits =
    let y = x / 256 in
    let m : ℕ = 0x0080808080808080 in
    let split : x ≡ y * 2 ^ 8 + x % 256 = omega arith in
    let none = and_zero_r (x % 256) in
    let cut : bit_and x 0x8080808080808000 ≡ bit_and y m * 2 ^ 8 + 0 =
    ap (λ n. bit_and n 0x8080808080808000) split ∙ and_block 8 y m (x % 256) 0 (mod_below x 256 (omega arith)) (lit< tt) ∙ omega (arith, none) in
    let fields = ap₂ bit_and (sym (map_fields-self 8 7 y (omega arith))) (sym (seven y)) in
    let byte : Stays 8 (λ v. v) = record { below = λ v b. b } in
    let mask : Stays 8 (λ v. 0x80) = record { below = λ v b. lit< tt } in
    let highest : Stays 8 (λ v. bit_and v 0x80) = record { below = λ v b. omega (arith, and_le_r v 0x80) } in
    ap count_ones cut
    ∙ ones_cat 8 (bit_and y m) 0 (lit< tt)
    ∙ omega (arith, highest_alone.1)
    ∙ ap count_ones (fields ∙ map_fields-and 8 7 (λ v. v) (λ v. 0x80) y byte mask)
    ∙ count_ones-map_fields 8 7 (λ v. bit_and v 0x80) y highest
    ∙ sum_fields-same 8 7 (λ v. count_ones (bit_and v 0x80)) (λ v. cond (nat_le 128 v) 1 0) y highest_of_byte
    ∙ sum_fields-count_by (λ v. nat_le 128 v) 7 y

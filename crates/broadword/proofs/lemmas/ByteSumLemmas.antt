-- The ones of each byte of a word by masks, and their running sums by one product.
use Rattle.std.proofs.Common.{◌≡◌, ℕ, zero, suc, ◌+◌, ◌-◌, ◌*◌, ◌/◌, ◌%◌, ◌^◌, ◌<◌, ◌≤◌, List, [], ◌∷◌, Bool, true, ◌==◌, ◌&&◌, bit_and, count_ones, refl, sym, ap, get_or, zero-add, ap₂, subst, ◌∙◌, arith, lit<, eqb-true, nat_le, not-suc-le-zero, inl, inr}
use Rattle.std.proofs.lemmas.Bool.{cases_lt, and_parts, leb-true}
use Rattle.std.proofs.lemmas.Nat.{and_block, and_le_l, and_mask, mod_below, ones-le}
use Rattle.std.specs.Int.Count.{ones, ones_in}
use Rattle.broadword.proofs.lemmas.ByteLemmas.{number_of_bytes, low_bytes-number_of_bytes}
use Rattle.broadword.proofs.lemmas.FieldLemmas.{map_fields, sum_fields, running_sums, get_or-running_sums, Stays, map_fields-same, map_fields-self, map_fields-add, map_fields-sub, map_fields-and, map_fields-shr-and, sum_fields-count_ones}
use Rattle.broadword.proofs.lemmas.InWordLemmas.{ones_before-low_digits}
use Rattle.broadword.proofs.lemmas.LowBytes.{low_bytes}
use Rattle.bit_lists.specs.Bits.{low_digits}
use Rattle.bit_lists.specs.Count.{ones_before}

-- ---- tables that are computed

-- each number below n passes
unfoldable pub all_below : (ℕ → Bool) → ℕ → Bool
all_below p zero = true
all_below p (suc n) = p n && all_below p n

pub all_below-at : (p : ℕ → Bool) (n j : ℕ) → all_below p n ≡ true → j < n → p j ≡ true
unfolding all_below
all_below-at p zero j all inside = absurd (not-suc-le-zero inside)
all_below-at p (suc n) j all inside =
    let parts = and_parts (p n) (all_below p n) all in
    elim (cases_lt j n) [
      | inl below ↦ all_below-at p n j parts.1 below
      | inr last ↦ let at : n ≡ j = omega arith in subst (λ k. p k ≡ true) at parts.0
    ]

abbrev pairs : ℕ → ℕ
pairs v = v - bit_and (v / 2) 0x55

abbrev nibbles : ℕ → ℕ
nibbles v = bit_and (pairs v) 0x33 + bit_and (pairs v / 4) 0x33

abbrev whole : ℕ → ℕ
whole v = nibbles v % 16 + nibbles v / 16

whole-count_ones : (v : ℕ) → v < 2 ^ 8 → whole v ≡ count_ones v
unfolding all_below ones ones_in
whole-count_ones v fits = eqb-true _ _ (all_below-at (λ n. whole n == count_ones n) 256 v refl fits)

-- ---- the ones of each byte, by masks

pub self : (n : ℕ) → n < 2 ^ 64 → map_fields 8 8 (λ v. v) n ≡ n
self n fits = map_fields-self 8 8 n fits

pub in_each_byte : (m n : ℕ) → map_fields 8 8 (λ v. m) n ≡ m * 0x0101010101010101
unfolding map_fields
in_each_byte m n = omega arith

pairs_below : (v : ℕ) → v < 2 ^ 8 → pairs v < 2 ^ 8
pairs_below v fits = omega arith

halves_le : (v : ℕ) → bit_and (v / 2) 0x55 ≤ v
halves_le v = omega (arith, and_le_l (v / 2) 0x55)

-- `(y >> s) & m` at all bytes, for a mask m that keeps what comes from the byte itself
masked : (t s : ℕ) (f : ℕ → ℕ) (m n y : ℕ) → Stays (t + s) f → m < 2 ^ t → t + s ≡ 8 → y ≡ map_fields 8 8 f n
    → bit_and (y / 2 ^ s) (m * 0x0101010101010101) ≡ map_fields 8 8 (λ v. bit_and (f v / 2 ^ s) m) n
masked t s f m n y stays below eight is =
    let shifted = λ (w : ℕ). map_fields w 8 f n / 2 ^ s in
    let at_width = λ (w : ℕ). bit_and (shifted w) (map_fields w 8 (λ v. m) n) ≡ map_fields w 8 (λ v. bit_and (f v / 2 ^ s) m) n in
    ap₂ (λ a b. bit_and (a / 2 ^ s) b) is (sym (in_each_byte m n)) ∙ subst at_width eight (map_fields-shr-and t s 8 f m n stays below)

-- `y & m` at all bytes
pub kept : (f : ℕ → ℕ) (m n y : ℕ) → Stays 8 f → m < 2 ^ 8 → y ≡ map_fields 8 8 f n
    → bit_and y (m * 0x0101010101010101) ≡ map_fields 8 8 (λ v. bit_and (f v) m) n
kept f m n y stays below is =
    ap₂ bit_and is (sym (in_each_byte m n)) ∙ map_fields-and 8 8 f (λ v. m) n stays (record { below = λ v b. below })

both : (f g : ℕ → ℕ) (n y z : ℕ) → y ≡ map_fields 8 8 f n → z ≡ map_fields 8 8 g n → y + z ≡ map_fields 8 8 (λ v. f v + g v) n
both f g n y z y-is z-is = ap₂ (λ a b. a + b) y-is z-is ∙ map_fields-add 8 8 f g n

-- both halves of each byte are at most 7, so that their sum and a carry from the next byte's half stay in the byte
record HasLowHalves (f : ℕ → ℕ) : Type 0 where
  low : (v : ℕ) → v < 2 ^ 8 → f v % 16 ≤ 7
  high : (v : ℕ) → v < 2 ^ 8 → f v / 16 ≤ 7

low_half : (f : ℕ → ℕ) → HasLowHalves f → (k n : ℕ) → map_fields 8 k f n % 16 ≤ 7
unfolding map_fields
low_half f halves zero n = omega arith
low_half f halves (suc k) n = omega (arith, halves.low (n % 2 ^ 8) (mod_below n (2 ^ 8) (omega arith)))

-- `(y + (y >> 4)) & 0x0F..` at all bytes
halves_added : (f : ℕ → ℕ) → HasLowHalves f → (k n : ℕ) →
    let y = map_fields 8 k f n in
    bit_and (y + y / 16) (map_fields 8 k (λ v. 0x0F) n) ≡ map_fields 8 k (λ v. f v % 16 + f v / 16) n
unfolding map_fields
halves_added f halves zero n = refl
halves_added f halves (suc k) n =
    let y = map_fields 8 k f (n / 2 ^ 8) in
    let v = n % 2 ^ 8 in
    let c = f v in
    let here = mod_below n (2 ^ 8) (omega arith) in
    let low = halves.low v here in
    let high = halves.high v here in
    let above = low_half f halves k (n / 2 ^ 8) in
    let byte = 16 * (c / 16 + y % 16) + (c % 16 + c / 16) in
    let cut : y * 2 ^ 8 + c + (y * 2 ^ 8 + c) / 16 ≡ (y + y / 16) * 2 ^ 8 + byte = omega arith in
    let mask = map_fields 8 k (λ v. 0x0F) (n / 2 ^ 8) in
    let kept_half : bit_and byte 0x0F ≡ c % 16 + c / 16 = and_mask byte 4 ∙ omega arith in
    ap (λ x. bit_and x (mask * 2 ^ 8 + 0x0F)) cut
    ∙ and_block 8 (y + y / 16) mask byte 0x0F (omega arith) (lit< tt)
    ∙ ap₂ (λ a b. a * 2 ^ 8 + b) (halves_added f halves k (n / 2 ^ 8)) kept_half

few_in_nibbles : HasLowHalves nibbles
unfolding all_below
few_in_nibbles = record {
  low = λ v fits. leb-true _ _ (all_below-at (λ u. nat_le (nibbles u % 16) 7) 256 v refl fits);
  high = λ v fits. leb-true _ _ (all_below-at (λ u. nat_le (nibbles u / 16) 7) 256 v refl fits);
}

-- the bytes before the product are the numbers of ones
byte_counts : (n : ℕ) → n < 2 ^ 64 →
    let p = n - bit_and (n / 2) 0x5555555555555555 in
    let q = bit_and p 0x3333333333333333 + bit_and (p / 4) 0x3333333333333333 in
    bit_and (q + q / 16) 0x0F0F0F0F0F0F0F0F ≡ map_fields 8 8 count_ones n
byte_counts n fits =
    let p = n - bit_and (n / 2) 0x5555555555555555 in
    let q = bit_and p 0x3333333333333333 + bit_and (p / 4) 0x3333333333333333 in
    let n-is = sym (self n fits) in
    let halves-is = masked 7 1 (λ v. v) 0x55 n n (record { below = λ v b. b }) (lit< tt) refl n-is in
    let less = map_fields-sub 8 8 (λ v. v) (λ v. bit_and (v / 2) 0x55) n (λ v b. halves_le v) in
    let p-is : p ≡ map_fields 8 8 pairs n = ap₂ (λ a b. a - b) n-is halves-is ∙ less.1 in
    let p-stays : Stays 8 pairs = record { below = pairs_below } in
    let low_pairs = kept pairs 0x33 n p p-stays (lit< tt) p-is in
    let high_pairs = masked 6 2 pairs 0x33 n p p-stays (lit< tt) refl p-is in
    let q-is : q ≡ map_fields 8 8 nibbles n =
    both (λ v. bit_and (pairs v) 0x33) (λ v. bit_and (pairs v / 4) 0x33) n _ _ low_pairs high_pairs in
    ap₂ (λ y m. bit_and (y + y / 16) m) q-is (sym (in_each_byte 0x0F n))
    ∙ halves_added nibbles few_in_nibbles 8 n
    ∙ map_fields-same 8 8 whole count_ones n whole-count_ones

-- ---- their running sums, by one product

running_of_product : (c0 c1 c2 c3 c4 c5 c6 c7 : ℕ) → c0 ≤ 8 → c1 ≤ 8 → c2 ≤ 8 → c3 ≤ 8 → c4 ≤ 8 → c5 ≤ 8 → c6 ≤ 8 → c7 ≤ 8 →
    let s0 = 0 + c0 in let s1 = s0 + c1 in let s2 = s1 + c2 in let s3 = s2 + c3 in
    let s4 = s3 + c4 in let s5 = s4 + c5 in let s6 = s5 + c6 in
    low_bytes 8 (number_of_bytes (c0 ∷ c1 ∷ c2 ∷ c3 ∷ c4 ∷ c5 ∷ c6 ∷ c7 ∷ []) * 0x0101010101010101 % 2 ^ 64)
    ≡ s0 ∷ s1 ∷ s2 ∷ s3 ∷ s4 ∷ s5 ∷ s6 ∷ (s6 + c7) ∷ []
unfolding number_of_bytes
running_of_product c0 c1 c2 c3 c4 c5 c6 c7 h0 h1 h2 h3 h4 h5 h6 h7 =
    let s0 = 0 + c0 in let s1 = s0 + c1 in let s2 = s1 + c2 in let s3 = s2 + c3 in
    let s4 = s3 + c4 in let s5 = s4 + c5 in let s6 = s5 + c6 in
    let ps : List ℕ = s0 ∷ s1 ∷ s2 ∷ s3 ∷ s4 ∷ s5 ∷ s6 ∷ (s6 + c7) ∷ [] in
    let e : number_of_bytes (c0 ∷ c1 ∷ c2 ∷ c3 ∷ c4 ∷ c5 ∷ c6 ∷ c7 ∷ []) * 0x0101010101010101 % 2 ^ 64 ≡ number_of_bytes ps = omega arith in
    ap (low_bytes 8) e ∙ low_bytes-number_of_bytes ps (omega arith)

-- byte i of the product of a word, each byte f of n's byte, with a one in each byte
product_sums : (f : ℕ → ℕ) (n i : ℕ) → ((v : ℕ) → v < 256 → f v ≤ 8) → i < 8 →
    get_or (low_bytes 8 (map_fields 8 8 f n * 0x0101010101010101 % 2 ^ 64)) i 0 ≡ sum_fields 8 (suc i) f n
unfolding map_fields running_sums number_of_bytes
product_sums f n i few inside =
    let here : (x : ℕ) → f (x % 256) ≤ 8 = λ x. few (x % 256) (mod_below x 256 (omega arith)) in
    let n1 = n / 256 in let n2 = n1 / 256 in let n3 = n2 / 256 in let n4 = n3 / 256 in
    let n5 = n4 / 256 in let n6 = n5 / 256 in let n7 = n6 / 256 in
    let list : low_bytes 8 (map_fields 8 8 f n * 0x0101010101010101 % 2 ^ 64) ≡ running_sums f 0 8 n =
    running_of_product _ _ _ _ _ _ _ _ (here n) (here n1) (here n2) (here n3) (here n4) (here n5) (here n6) (here n7) in
    ap (λ l. get_or l i 0) list ∙ get_or-running_sums f 0 8 i n inside ∙ zero-add _

-- byte k of what `byte_sums` answers
pub byte_sums_are : (n k : ℕ) → n < 2 ^ 64 → k < 8 →
    let p = n - bit_and (n / 2) 0x5555555555555555 in
    let q = bit_and p 0x3333333333333333 + bit_and (p / 4) 0x3333333333333333 in
    let bytes = bit_and (q + q / 16) 0x0F0F0F0F0F0F0F0F in
    get_or (low_bytes 8 (bytes * 0x0101010101010101 % 2 ^ 64)) k 0 ≡ ones_before (low_digits 64 n) (8 * (k + 1))
byte_sums_are n k fits inside =
    let turned : suc k * 8 ≡ 8 * (k + 1) = omega arith in
    ap (λ y. get_or (low_bytes 8 (y * 0x0101010101010101 % 2 ^ 64)) k 0) (byte_counts n fits)
    ∙ product_sums count_ones n k (λ v. ones-le 8 v) inside
    ∙ sum_fields-count_ones 8 (suc k) n
    ∙ ap (λ j. count_ones (n % 2 ^ j)) turned
    ∙ sym (ones_before-low_digits 64 (8 * (k + 1)) n (omega arith))

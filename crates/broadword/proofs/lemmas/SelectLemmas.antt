-- The byte of a word in which the one of a rank stands, from what is left of the rank, and the bit of that byte.
use Rattle.std.proofs.Common.{Bool, cond, nat_lt, nat_le, ◌&&◌, ◌≡◌, ℕ, zero, suc, ◌+◌, ◌-◌, ◌*◌, ◌/◌, ◌%◌, ◌^◌, ◌<◌, ◌≤◌, List, [], ◌∷◌, length, count_by, count_ones, All, get_or, bit_and, refl, sym, ap, ap₂, subst₂, true, ◌∙◌, arith, suc-le-suc, inl, inr}
use Rattle.std.proofs.lemmas.Bool.{cases_lt, lt-leb, le-leb, lt-ltb, ltb-true, leb-true, and_parts}
use Rattle.std.proofs.lemmas.List.Elements.{All-from_get_or}
use Rattle.std.proofs.lemmas.List.Sums.{sum_by-cons}
use Rattle.std.proofs.lemmas.Nat.{field_of, shr-shr, and_mask, shl-shr}
use Rattle.std.proofs.Math.Pow.{mod-mod-pow}
use Rattle.std.specs.Int.Count.{ones, ones_in}
use Rattle.broadword.proofs.lemmas.AtMostLemmas.{highest_but_first}
use Rattle.broadword.proofs.lemmas.ByteLemmas.{length-low_bytes, get_or-low_bytes, AreLeftBy, located}
use Rattle.broadword.proofs.lemmas.ByteSumLemmas.{all_below, all_below-at}
use Rattle.broadword.proofs.lemmas.InWordLemmas.{ones_before-low_digits, ones_before-low_digits_rises, ones_before-low_digits_none, ones_before-low_digits_few, ones_before-low_digits_above, picked_in_digits, picked_above}
use Rattle.broadword.proofs.lemmas.LowBytes.{low_bytes}
use Rattle.bit_lists.specs.Bits.{low_digits}
use Rattle.bit_lists.specs.Count.{ones_before, Picks}

-- ---- the byte of a word

-- the ones before byte k
ones_before_byte : ℕ → ℕ → ℕ
ones_before_byte n k = ones_before (low_digits 64 n) (8 * k)

few_before : (n k : ℕ) → k ≤ 8 → ones_before (low_digits 64 n) (8 * k) ≤ 64
few_before n k inside =
    let rest = 64 - 8 * k in
    let turned : 8 * k + rest ≡ 64 = omega arith in
    let rise = ones_before-low_digits_rises 64 n (8 * k) rest (omega arith) in
    omega (arith, ap (ones_before (low_digits 64 n)) turned, ones_before-low_digits_few 64 n)

-- byte k of sums is the number of ones in bytes 0 to k of n
abbrev pub AreSumsOf : ℕ → ℕ → Type 0
AreSumsOf n sums = (k : ℕ) → k < 8 → get_or (low_bytes 8 sums) k 0 ≡ ones_before (low_digits 64 n) (8 * (k + 1))

small_where : (x : ℕ) → ((k : ℕ) → k < 8 → get_or (low_bytes 8 x) k 0 ≤ 64) → All (λ s. s ≤ 64) (low_bytes 8 x)
small_where x small =
    All-from_get_or (λ s. s ≤ 64) (low_bytes 8 x) 0 (λ k inside. small k (omega (arith, length-low_bytes 8 x)))

module _ (n sums : ℕ) (sums-are : AreSumsOf n sums) where
  pub sums_small : All (λ s. s ≤ 64) (low_bytes 8 sums)
  sums_small = small_where sums (λ k inside. omega (arith, sums-are k inside, few_before n (k + 1) (omega arith)))

  -- shifted up by a byte, byte k is the number of ones before it
  pub sums_before : (k : ℕ) → k < 8 → get_or (low_bytes 8 (sums * 256 % 2 ^ 64)) k 0 ≡ ones_before (low_digits 64 n) (8 * k)
  sums_before zero inside =
      get_or-low_bytes 8 0 (sums * 256 % 2 ^ 64) inside ∙ omega arith ∙ sym (ones_before-low_digits_none 64 n)
  sums_before (suc i) inside =
      let k = 8 * suc i in
      let j = 64 - k in
      let whole : 64 ≡ j + k = omega arith in
      let cut : j ≡ j - 8 + 8 = omega arith in
      let turned : k ≡ 8 + 8 * i = omega arith in
      let y = sums * 256 in
      get_or-low_bytes 8 (suc i) (y % 2 ^ 64) inside
      ∙ ap (λ w. y % 2 ^ w / 2 ^ k % 256) whole
      ∙ ap (λ m. m % 256) (field_of y j k)
      ∙ ap (λ w. y / 2 ^ k % 2 ^ w % 256) cut
      ∙ mod-mod-pow (y / 2 ^ k) (j - 8) 8
      ∙ ap (λ w. y / 2 ^ w % 256) turned
      ∙ ap (λ m. m % 256) (sym (shr-shr y 8 (8 * i)) ∙ ap (λ m. m / 2 ^ (8 * i)) (shl-shr sums 8))
      ∙ sym (get_or-low_bytes 8 i sums (omega arith))
      ∙ sums-are i (omega arith)
      ∙ ap (ones_before (low_digits 64 n)) (omega arith)

  pub before_small : All (λ s. s ≤ 64) (low_bytes 8 (sums * 256 % 2 ^ 64))
  before_small =
      small_where (sums * 256 % 2 ^ 64) (λ k inside. omega (arith, sums_before k inside, few_before n k (omega arith)))

-- byte k of ranks is 128 and what the ones before byte k of n leave of r
abbrev pub rank_left : ℕ → ℕ → ℕ → ℕ
rank_left n r k = 128 + r - ones_before (low_digits 64 n) (8 * k)

abbrev pub AreRanksLeft : ℕ → ℕ → ℕ → Type 0
AreRanksLeft n r ranks = (k : ℕ) → k < 8 → get_or (low_bytes 8 ranks) k 0 ≡ rank_left n r k

-- what `select64` knows where byte c is that of rank r: what is left there, and that the byte has more ones
pub record IsByteOf (n r ranks c : ℕ) : Type 0 where
  pub inside : c ≤ 7
  pub low : ones_before (low_digits 64 n) (8 * c) ≤ r
  pub left : bit_and (ranks / 2 ^ (8 * c)) 0x3F ≡ r - ones_before (low_digits 64 n) (8 * c)
  pub some : bit_and (ranks / 2 ^ (8 * c)) 0x3F < ones_before (low_digits 8 (bit_and (n / 2 ^ (8 * c)) 0xFF)) 8

-- two lists of which each item passes the one's test exactly where the other's passes its own
count_same : (p q : ℕ → Bool) (xs ys : List ℕ) → length xs ≡ length ys → ((k : ℕ) → k < length xs → p (get_or xs k 0) ≡ q (get_or ys k 0))
    → count_by p xs ≡ count_by q ys
count_same p q [] [] same each = refl
count_same p q [] (y ∷ ys) same each = absurd (omega (arith, same))
count_same p q (x ∷ xs) [] same each = absurd (omega (arith, same))
count_same p q (x ∷ xs) (y ∷ ys) same each =
    sum_by-cons (λ v. cond (p v) 1 0) x xs
    ∙ ap₂ (λ b m. cond b 1 0 + m) (each 0 (omega arith))
    (count_same p q xs ys (omega (arith, same)) (λ k inside. each (suc k) (suc-le-suc inside)))
    ∙ sym (sum_by-cons (λ v. cond (q v) 1 0) y ys)

-- one byte more has no more than r ones before it than those after the first that keep their highest bit: the first
module _ (n r sums ranks : ℕ) (few : r ≤ 63) (fits : ranks < 2 ^ 64)
    (before : (k : ℕ) → k < 8 → get_or (low_bytes 8 sums) k 0 ≡ ones_before (low_digits 64 n) (8 * k)) (left : AreRanksLeft n r ranks) where
  same_test : (k : ℕ) → k < 7 → nat_le (get_or (low_bytes 7 (sums / 256)) k 0) r ≡ nat_le 128 (get_or (low_bytes 7 (ranks / 256)) k 0)
  unfolding low_bytes
  same_test k inside =
      let s = get_or (low_bytes 7 (sums / 256)) k 0 in
      let kept = get_or (low_bytes 7 (ranks / 256)) k 0 in
      let s-is : s ≡ ones_before (low_digits 64 n) (8 * suc k) = before (suc k) (suc-le-suc inside) in
      let kept-is : kept ≡ rank_left n r (suc k) = left (suc k) (suc-le-suc inside) in
      let most = few_before n (suc k) (omega (arith, inside)) in
      elim (cases_lt r s) [
        | inl more ↦ lt-leb s r more ∙ sym (lt-leb 128 kept (omega (arith, s-is, kept-is, more, most)))
        | inr less ↦ le-leb s r less ∙ sym (le-leb 128 kept (omega (arith, s-is, kept-is, less)))
      ]

  first_test : nat_le (sums % 256) r ≡ true
  unfolding low_bytes
  first_test = le-leb (sums % 256) r (omega (arith, before 0 (omega arith), ones_before-low_digits_none 64 n))

  pub reached : count_by (λ s. nat_le s r) (low_bytes 8 sums) ≡ 1 + count_ones (bit_and ranks 0x8080808080808000)
  unfolding low_bytes
  reached =
      sum_by-cons (λ s. cond (nat_le s r) 1 0) (sums % 256) (low_bytes 7 (sums / 256))
      ∙ ap₂ (λ b m. cond b 1 0 + m) first_test
      (count_same (λ s. nat_le s r) (λ v. nat_le 128 v) (low_bytes 7 (sums / 256)) (low_bytes 7 (ranks / 256))
      (length-low_bytes 7 (sums / 256) ∙ sym (length-low_bytes 7 (ranks / 256)))
      (λ k inside. same_test k (omega (arith, inside, length-low_bytes 7 (sums / 256))))
      ∙ sym (highest_but_first ranks fits))

module _ (n r ranks : ℕ) (fits : ranks < 2 ^ 64) (left : AreRanksLeft n r ranks) (below : r < ones_before (low_digits 64 n) 64) where
  -- the bytes after the first that keep their highest bit end with the one in which the one of rank r stands
  byte_located : (c : ℕ) → c ≡ count_ones (bit_and ranks 0x8080808080808000)
      → (c ≤ 7) × (ones_before (low_digits 64 n) (8 * c) ≤ r) × (r < ones_before (low_digits 64 n) (8 * suc c))
  unfolding ones_before_byte low_bytes
  byte_located c counted =
      let after : AreLeftBy (ones_before_byte n) 7 r (low_bytes 7 (ranks / 256)) =
      record {
        size = length-low_bytes 7 (ranks / 256);
        items = λ k h. left (suc k) (suc-le-suc h);
        rises = λ k h.
            let turned : 8 * k + 8 ≡ 8 * suc k = omega arith in
            let rise = ones_before-low_digits_rises 64 n (8 * k) 8 (omega arith) in
            omega (arith, ap (ones_before (low_digits 64 n)) turned);
      } in
      located (ones_before_byte n) 7 r (low_bytes 7 (ranks / 256)) after c (omega (arith, ones_before-low_digits_none 64 n)) below
      (counted ∙ highest_but_first ranks fits)

  pub byte_of_rank : (c : ℕ) → c ≡ count_ones (bit_and ranks 0x8080808080808000) → IsByteOf n r ranks c
  byte_of_rank c counted =
      let at = byte_located c counted in
      let turned : 8 * c + 8 ≡ 8 * suc c = omega arith in
      let above = ones_before-low_digits_above 64 n (8 * c) 8 8 (omega arith) (omega arith) in
      let byte = ap (λ m. ones_before (low_digits 8 m) 8) (and_mask (n / 2 ^ (8 * c)) 8) in
      let whole : ranks / 2 ^ (8 * c) % 256 ≡ rank_left n r c = sym (get_or-low_bytes 8 c ranks (omega arith)) ∙ left c (omega arith) in
      let few = ones_before-low_digits_few 64 n in
      let here : bit_and (ranks / 2 ^ (8 * c)) 0x3F ≡ r - ones_before (low_digits 64 n) (8 * c) =
      and_mask (ranks / 2 ^ (8 * c)) 6 ∙ omega arith in
      record {
        inside = at.0;
        low = at.1;
        left = here;
        some = omega (arith, ap (ones_before (low_digits 64 n)) turned);
      }

  -- the bit of that byte is the position in the word
  pub picked_in_word : (c i : ℕ) → c ≡ count_ones (bit_and ranks 0x8080808080808000)
      → Picks (low_digits 8 (bit_and (n / 2 ^ (8 * c)) 0xFF)) true (bit_and (ranks / 2 ^ (8 * c)) 0x3F) i
      → Picks (low_digits 64 n) true r (8 * c + i)
  picked_in_word c i counted there =
      let at = byte_of_rank c counted in
      let masked = and_mask (n / 2 ^ (8 * c)) 8 in
      picked_above 64 n (8 * c) 8 r i (omega (arith, at.inside)) at.low
      (subst₂ (λ m b. Picks (low_digits 8 m) true b i) masked at.left there)

-- ---- the table of bounds

abbrev pub bound_word : ℕ → ℕ
bound_word k = (128 + k) * 0x0101010101010101

-- ---- the table of positions

-- 1 where no more than r of the ones of v stand before bit k
abbrev pub passed : ℕ → ℕ → ℕ → ℕ
passed v r k = cond (nat_le (count_ones (v % 2 ^ k)) r) 1 0

-- how many bits of v the one of rank r is after
abbrev pub position_of : ℕ → ℕ → ℕ
position_of v r = passed v r 1 + passed v r 2 + passed v r 3 + passed v r 4 + passed v r 5 + passed v r 6 + passed v r 7 + passed v r 8

abbrev pub table_position : ℕ → ℕ
table_position j = position_of (j / 8) (j % 8)

is_picked : ℕ → ℕ → Bool
is_picked v r =
    let p = position_of v r in
    cond (nat_lt r (count_ones v)) (nat_lt p 8 && (nat_le (count_ones (v % 2 ^ p)) r && nat_lt r (count_ones (v % 2 ^ (p + 1))))) true

is_picked_in_table : (v r : ℕ) → v < 256 → r < 8 → is_picked v r ≡ true
unfolding all_below ones ones_in is_picked
is_picked_in_table v r fits inside =
    all_below-at (is_picked v) 8 r (all_below-at (λ u. all_below (is_picked u) 8) 256 v refl fits) inside

pub position_picked : (v r : ℕ) → v < 256 → r < ones_before (low_digits 8 v) 8 → Picks (low_digits 8 v) true r (position_of v r)
unfolding is_picked
position_picked v r fits below =
    let p = position_of v r in
    let whole : v % 2 ^ 8 ≡ v = omega (arith, fits) in
    let all = ones_before-low_digits 8 8 v (omega arith) ∙ ap count_ones whole in
    let some : r < count_ones v = omega (arith, all, below) in
    let is = ap (λ b. cond b (nat_lt p 8 && (nat_le (count_ones (v % 2 ^ p)) r && nat_lt r (count_ones (v % 2 ^ (p + 1))))) true) (lt-ltb r (count_ones v) some) in
    let few = ones_before-low_digits_few 8 v in
    let found = and_parts (nat_lt p 8) _ (sym is ∙ is_picked_in_table v r fits (omega arith)) in
    let sides = and_parts (nat_le (count_ones (v % 2 ^ p)) r) _ found.1 in
    let inside : p < 8 = ltb-true p 8 found.0 in
    picked_in_digits 8 v r p inside
    (omega (arith, ones_before-low_digits 8 p v (omega (arith, inside)), leb-true (count_ones (v % 2 ^ p)) r sides.0))
    (omega (arith, ones_before-low_digits 8 (p + 1) v (omega (arith, inside)), ltb-true r (count_ones (v % 2 ^ (p + 1))) sides.1))

-- what the table has for a byte and a rank
module _ (v r : ℕ) (below : r < ones_before (low_digits 8 v) 8) where
  pub rank_small : r < 8
  rank_small = omega (arith, below, ones_before-low_digits_few 8 v)

  pub table_position_picked : v < 256 → Picks (low_digits 8 v) true r (table_position (v * 8 + r))
  table_position_picked fits =
      let byte : v ≡ (v * 8 + r) / 8 = omega (arith, rank_small) in
      let rank : r ≡ (v * 8 + r) % 8 = omega (arith, rank_small) in
      subst₂ (λ b k. Picks (low_digits 8 v) true r (position_of b k)) byte rank (position_picked v r fits below)

  pub table_inside : v < 256 → v * 8 + r < 2048
  table_inside fits = omega (arith, rank_small, fits)

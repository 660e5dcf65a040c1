-- The bytes of a word as std has them are its low bytes one after another.
use Rattle.std.proofs.Common.{◌≡◌, ℕ, ◌+◌, ◌*◌, ◌%◌, ◌<◌, ◌≤◌, List, ◌∷◌, map, count_by, nat_le, slice_index, w64, ap, ap₂, refl, sym, ◌∙◌, subst, arith}
use Rattle.std.proofs.lemmas.List.FromFn.{fill_by_all, get_or-map-range_with_len}
use Rattle.std.specs.Int.{to_le_bytes}
use Rattle.std.specs.List.{range_with_len, All}
use Rattle.broadword.proofs.lemmas.ByteLemmas.{length-low_bytes}
use Rattle.broadword.proofs.lemmas.LowBytes.{low_bytes}
use Rattle.bit_lists.specs.Bits.{low_digits}
use Rattle.bit_lists.specs.Count.{ones_before}

-- a word's eight bytes
pub le_bytes_are : (n : ℕ) → low_bytes 8 n ≡ to_le_bytes w64 n
unfolding low_bytes
le_bytes_are n =
    ap₂ ◌∷◌ (refl {A = ℕ} {a = n % 256})
    (ap₂ ◌∷◌ (omega arith)
    (ap₂ ◌∷◌ (omega arith)
    (ap₂ ◌∷◌ (omega arith)
    (ap₂ ◌∷◌ (omega arith)
    (ap₂ ◌∷◌ (omega arith)
    (ap₂ ◌∷◌ (omega arith)
    (ap₂ ◌∷◌ (omega arith) refl)))))))

-- the bytes are the values of f exactly where each byte is its value
pub bytes_at : (f : ℕ → ℕ) (r : ℕ) → to_le_bytes w64 r ≡ map f (range_with_len 0 8) → (k : ℕ) → k < 8 → slice_index (low_bytes 8 r) k ≡ f k
bytes_at f r e k inside =
    ap (λ (l : List ℕ). slice_index l k) (le_bytes_are r ∙ e) ∙ get_or-map-range_with_len f 0 8 k k 0 inside (omega arith)

pub bytes_are : (f : ℕ → ℕ) (r : ℕ) → ((k : ℕ) → k < 8 → slice_index (low_bytes 8 r) k ≡ f k) → to_le_bytes w64 r ≡ map f (range_with_len 0 8)
bytes_are f r each = sym (le_bytes_are r) ∙ fill_by_all f (low_bytes 8 r) 8 0 (length-low_bytes 8 r) each

-- the ones up to the end of each byte of n
abbrev pub sums_of : ℕ → ℕ → ℕ
sums_of n k = ones_before (low_digits 64 n) (8 * (k + 1))

pub sums_at : (n r : ℕ) → to_le_bytes w64 r ≡ map (sums_of n) (range_with_len 0 8) → (k : ℕ) → k < 8
    → slice_index (low_bytes 8 r) k ≡ sums_of n k
sums_at n = bytes_at (sums_of n)

-- what holds of the bytes in one form holds of them in the other
pub small_low : (s : ℕ) → All (λ x. x ≤ 64) (to_le_bytes w64 s) → All (λ x. x ≤ 64) (low_bytes 8 s)
small_low s h = let P : List ℕ → Type 0 = λ l. All (λ x. x ≤ 64) l in subst P (sym (le_bytes_are s)) h

pub small_le : (s : ℕ) → All (λ x. x ≤ 64) (low_bytes 8 s) → All (λ x. x ≤ 64) (to_le_bytes w64 s)
small_le s h = let P : List ℕ → Type 0 = λ l. All (λ x. x ≤ 64) l in subst P (le_bytes_are s) h

pub at_most_low : (s r c : ℕ) → c ≡ count_by (λ x. nat_le x r) (to_le_bytes w64 s) → c ≡ count_by (λ x. nat_le x r) (low_bytes 8 s)
at_most_low s r c h = h ∙ ap (count_by (λ x. nat_le x r)) (sym (le_bytes_are s))

pub at_most_le : (s r c : ℕ) → c ≡ count_by (λ x. nat_le x r) (low_bytes 8 s) → c ≡ count_by (λ x. nat_le x r) (to_le_bytes w64 s)
at_most_le s r c h = h ∙ ap (count_by (λ x. nat_le x r)) (le_bytes_are s)

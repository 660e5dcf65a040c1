-- The bit that rank looks at: the last one of the first i.
use Rattle.std.proofs.Common.{◌≡◌, ℕ, zero, suc, ◌+◌, ◌-◌, ◌*◌, ◌/◌, ◌%◌, ◌^◌, ◌<◌, ◌≤◌, ◌≢◌, ◌==◌, Bool, not, List, length, get_or, refl, sym, ap, ◌∙◌, arith}
use Rattle.std.proofs.lemmas.Nat.{mod-pow-add, pow_pos}
use Rattle.std.proofs.lemmas.Nat.Bits.{bit_at-lt, bit_at_cat_high}
use Rattle.std.specs.Int.{bit_at}
use Rattle.bit_lists.proofs.lemmas.BitsLemmas.{item-bits_of, length-bits_of}
use Rattle.bit_lists.proofs.lemmas.CountLemmas.{ones_before_none}
use Rattle.bit_lists.specs.Bits.{bits_of, digit, item, IsShort}
use Rattle.bit_lists.specs.Count.{ones_before}

-- the position of the last of the first i bits, as the code has it: above every position where i is 0
abbrev pub last_of : ℕ → ℕ
last_of i = (i + (2 ^ 64 - 1)) % 2 ^ 64

-- it is inside exactly where there are i bits, and one at least
pub rank_inside : (words : List ℕ) (i : ℕ) → i < 2 ^ 64 → IsShort words → last_of i / 64 < length words
    → (last_of i + 1 ≡ i) × (i ≤ length (bits_of words))
rank_inside words i fits short h = (omega arith, omega (arith, length-bits_of words))

pub rank_outside : (words : List ℕ) (i : ℕ) → i < 2 ^ 64 → length words ≤ last_of i / 64 → i ≢ 0 → length (bits_of words) < i
rank_outside words i fits h some = omega (arith, length-bits_of words)

-- no bits have no ones
pub rank_of_none : (b : List Bool) (i : ℕ) → i ≡ 0 → (i ≤ length b) × (0 ≡ ones_before b i)
rank_of_none b i e = (omega arith, omega (arith, ap (ones_before b) e, ones_before_none b))

-- a digit moved to the highest position of a word is what is left of the word there
digit_shifted : (w k : ℕ) → k < 64 → not (w * 2 ^ (63 - k) % 2 ^ 64 / 2 ^ 63 == 0) ≡ digit w k
digit_shifted w k l = ap (λ m. not (m == 0)) (top ∙ moved) ∙ by (bit_at w k) (bit_at-lt w k)
  where
    n : ℕ
    n = w * 2 ^ (63 - k)

    top : n % 2 ^ 64 / 2 ^ 63 ≡ bit_at n 63
    top = omega (arith, mod-pow-add n 1 63)

    position : 63 - (63 - k) ≡ k
    position = omega (arith, l)

    alone : n ≡ n + 0
    alone = omega arith

    moved : bit_at n 63 ≡ bit_at w k
    moved = ap (λ m. bit_at m 63) alone ∙ bit_at_cat_high w (63 - k) 0 63 (pow_pos (63 - k)) (omega arith) ∙ ap (bit_at w) position

    by : (d : ℕ) → d < 2 → not (d == 0) ≡ (d == 1)
    by zero less = refl
    by (suc zero) less = refl
    by (suc (suc d)) less = absurd (omega arith)

-- the bit at position i is the highest of its word once those above it are shifted out
pub item_shifted : (words : List ℕ) (i : ℕ) → i < 64 * length words
    → not (get_or words (i / 64) 0 * 2 ^ (63 - i % 64) % 2 ^ 64 / 2 ^ 63 == 0) ≡ item (bits_of words) i
item_shifted words i l = digit_shifted (get_or words (i / 64) 0) (i % 64) (omega arith) ∙ sym (item-bits_of words i l)

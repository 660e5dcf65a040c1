-- The ones of a stretch of bits: no more than its length, and those of the words in it.
use Rattle.std.proofs.Common.{◌≡◌, ℕ, ◌+◌, ◌-◌, ◌*◌, ◌/◌, ◌%◌, ◌^◌, ◌<◌, ◌≤◌, Bool, List, length, take, drop, slice_index, count_by, count_ones, arith, ap, ◌∙◌, take-add, length-take}
use Rattle.std.proofs.lemmas.List.Sums.{sum_by-append, count_by-le-length}
use Rattle.bit_lists.proofs.lemmas.CountLemmas.{ones_before_none, ones_before-bits_of_in_word}
use Rattle.bit_lists.specs.Bits.{bits_of}
use Rattle.bit_lists.specs.Count.{ones_before}

ones_before-add : (b : List Bool) (i d : ℕ) → ones_before b (i + d) ≡ ones_before b i + count_by (λ x. x) (take d (drop i b))
unfolding ones_before
ones_before-add b i d = ap (count_by (λ x. x)) (take-add i d b) ∙ sum_by-append _ (take i b) (take d (drop i b))

-- a longer stretch has no fewer ones
pub ones_before-least : (b : List Bool) (i d : ℕ) → ones_before b i ≤ ones_before b (i + d)
ones_before-least b i d = omega (arith, ones_before-add b i d)

-- and no more of them than bits
pub ones_before-most : (b : List Bool) (i d : ℕ) → ones_before b (i + d) ≤ ones_before b i + d
ones_before-most b i d =
    omega (arith, ones_before-add b i d, count_by-le-length (λ (x : Bool). x) (take d (drop i b)), length-take d (drop i b))

-- between two positions one counts no more than the positions
pub ones_before-between : (b : List Bool) (i j : ℕ) → i ≤ j
    → (ones_before b i ≤ ones_before b j) × (ones_before b j ≤ ones_before b i + (j - i))
ones_before-between b i j h =
    let e : i + (j - i) ≡ j = omega arith in
    let same = ap (ones_before b) e in
    (omega (arith, same, ones_before-least b i (j - i)), omega (arith, same, ones_before-most b i (j - i)))

-- the ones before a position are at most the position
pub ones_before-self : (b : List Bool) (n : ℕ) → ones_before b n ≤ n
ones_before-self b n =
    let e : 0 + n ≡ n = omega arith in
    omega (arith, ap (ones_before b) e, ones_before-most b 0 n, ones_before_none b)

-- one more whole word
pub word_more : (words : List ℕ) (k w : ℕ) → k < length words → w < 2 ^ 64 → w ≡ slice_index words k
    → ones_before (bits_of words) (64 * k) + count_ones w ≡ ones_before (bits_of words) (64 * (k + 1))
word_more words k w h fits is =
    let same : slice_index words k % 2 ^ 64 ≡ w = omega arith in
    let e : 64 * k + 64 ≡ 64 * (k + 1) = omega arith in
    omega (arith, ap (ones_before (bits_of words)) e, ones_before-bits_of_in_word words k h 64 (omega arith), ap count_ones same)

-- the bits of a word up to a position, that one included
pub word_through : (words : List ℕ) (last w : ℕ) → last / 64 < length words → w ≡ slice_index words (last / 64)
    → ones_before (bits_of words) (64 * (last / 64)) + count_ones (w % 2 ^ (last % 64 + 1)) ≡ ones_before (bits_of words) (last + 1)
word_through words last w h is =
    let e : 64 * (last / 64) + (last % 64 + 1) ≡ last + 1 = omega arith in
    omega (
      arith,
      ap (λ (n : ℕ). count_ones (n % 2 ^ (last % 64 + 1))) is,
      ones_before-bits_of_in_word words (last / 64) h (last % 64 + 1) (omega arith),
      ap (ones_before (bits_of words)) e,
    )

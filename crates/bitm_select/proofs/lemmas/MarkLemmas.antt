-- Ones of the sought bits are bits of the kind that is sought; what a word of them shows of a position.
use Rattle.std.proofs.Common.{◌≡◌, ◌≢◌, ℕ, zero, suc, ◌+◌, ◌-◌, ◌*◌, ◌%◌, ◌^◌, ◌<◌, ◌≤◌, Bool, true, false, not, List, length, replicate, length-append, slice_index, count_ones, arith, refl, sym, ap, ◌∙◌}
use Rattle.std.proofs.lemmas.List.{length-map}
use Rattle.std.proofs.lemmas.Nat.{ones_le_self}
use Rattle.std.proofs.lemmas.Nat.Bits.{same_from_bits_below}
use Rattle.std.specs.Int.{bit_at, div_ceil}
use Rattle.bit_lists.proofs.lemmas.BitsLemmas.{length-bits_of}
use Rattle.bit_lists.proofs.lemmas.CountLemmas.{ones_before_more, zeros_before_more, ones_before-add-zeros_before, ones_before-bits_of_in_word, count_ones_more, digits_of_both}
use Rattle.bit_lists.proofs.lemmas.NumberLemmas.{bit_at-number_at, number_at-lt}
use Rattle.bit_lists.proofs.lemmas.WordLemmas.{truth}
use Rattle.bit_lists.specs.Bits.{bits_of, item}
use Rattle.bit_lists.specs.Count.{ones_before, count_before, as_bit, Picks}
use Rattle.bit_lists.specs.Number.{number_at}
use Rattle.bitm_tables.specs.Entry.{padded_bits}
use Rattle.bitm_select.specs.Search.{sought_bits, sought_in, IsWord}
use Rattle.bitm_tables.proofs.lemmas.EntryLemmas.{ones_before-padded_bits, ones_before-complement}
use Rattle.bitm_tables.proofs.lemmas.StretchLemmas.{ones_before-self, ones_before-between}

-- ---- counts

pub ones_before-sought_bits : (b : List Bool) (i : ℕ) → ones_before (sought_bits true b) i ≡ ones_before b i
ones_before-sought_bits b i = ones_before-padded_bits b (div_ceil (length b) 2048 * 2048 - length b) i

pub zeros_before-sought_bits : (b : List Bool) (i : ℕ) → i ≤ length b → ones_before (sought_bits false b) i ≡ i - ones_before b i
zeros_before-sought_bits b i h = omega (arith, ones_before-complement b i (omega arith))

pub marked_zero : (b : List Bool) (bit : ℕ) → bit ≡ 0 → sought_bits (as_bit bit) b ≡ sought_bits false b
marked_zero b bit h = ap (λ (n : ℕ). sought_bits (as_bit n) b) h

pub as_bit_other : (bit : ℕ) → bit ≢ 0 → as_bit bit ≡ true
as_bit_other zero h = absurd (h refl)
as_bit_other (suc n) h = refl

pub marked_other : (b : List Bool) (bit : ℕ) → bit ≢ 0 → sought_bits (as_bit bit) b ≡ sought_bits true b
marked_other b bit h = ap (λ (v : Bool). sought_bits v b) (as_bit_other bit h)

-- the ones of the sought bits are the bits of the kind
pub count_before-sought_bits : (b : List Bool) (v : Bool) (i : ℕ) → i ≤ length b → ones_before (sought_bits v b) i ≡ count_before b v i
count_before-sought_bits b true i h = ones_before-sought_bits b i
count_before-sought_bits b false i h = omega (arith, zeros_before-sought_bits b i h, ones_before-add-zeros_before b i h)

-- ---- a position is picked where the count rises

truth_one : (x : Bool) → truth x ≡ 1 → x ≡ true
truth_one true e = refl
truth_one false e = absurd (omega arith)

truth_other : (x : Bool) → truth (not x) ≡ 1 → x ≡ false
truth_other true e = absurd (omega arith)
truth_other false e = refl

pub picked : (b : List Bool) (v : Bool) (r p : ℕ) → p < length b → ones_before (sought_bits v b) p ≡ r → ones_before (sought_bits v b) (p + 1) ≡ r + 1
    → Picks b v r p
picked b true r p h e f =
    let here = ones_before-sought_bits b p in
    let next = ones_before-sought_bits b (p + 1) in
    record {
      inside = h;
      item = truth_one (item b p) (omega (arith, here, next, e, f, ones_before_more b p h));
      before = sym here ∙ e;
    }
picked b false r p h e f =
    let here = count_before-sought_bits b false p (omega arith) in
    let next = count_before-sought_bits b false (p + 1) (omega arith) in
    record {
      inside = h;
      item = truth_other (item b p) (omega (arith, here, next, e, f, zeros_before_more b p h));
      before = sym here ∙ e;
    }

-- ---- a word of the sought bits

-- what the number of a word shows of counts
abbrev pub CountsWord : List Bool → ℕ → ℕ → Type 0
CountsWord m k w = (j : ℕ) → j ≤ 64 → ones_before m (64 * k + j) ≡ ones_before m (64 * k) + count_ones (w % 2 ^ j)

padded_bits-long : (words : List ℕ) (k : ℕ) → k < length words → 64 * k + 64 ≤ length (padded_bits (bits_of words))
padded_bits-long words k h =
    let b = bits_of words in
    let n = div_ceil (length b) 2048 * 2048 - length b in
    omega (arith, length-bits_of words, length-append b (replicate n false))

pub sought_bits-long : (words : List ℕ) (v : Bool) (k : ℕ) → k < length words → 64 * k + 64 ≤ length (sought_bits v (bits_of words))
sought_bits-long words true k h = padded_bits-long words k h
sought_bits-long words false k h = omega (arith, padded_bits-long words k h, length-map (padded_bits (bits_of words)) not)

pub word_counts : (m : List Bool) (k w : ℕ) → 64 * k + 64 ≤ length m → IsWord m k w → CountsWord m k w
word_counts m k w long is zero le =
    let none : w % 1 ≡ 0 = omega arith in
    let at : 64 * k + 0 ≡ 64 * k = omega arith in
    omega (arith, ap (ones_before m) at, ap count_ones none, ones_le_self 0)
word_counts m k w long is (suc j) le =
    let at : 64 * k + suc j ≡ 64 * k + j + 1 = omega arith in
    let step : suc j ≡ j + 1 = omega arith in
    omega (
      arith,
      ap (ones_before m) at,
      ones_before_more m (64 * k + j) (omega arith),
      bit_at-number_at m (64 * k) 64 j (omega arith),
      ap (λ x. bit_at x j) is,
      ap (λ e. count_ones (w % 2 ^ e)) step,
      count_ones_more w j,
      word_counts m k w long is j (omega arith),
    )

is_word : (m : List Bool) (k w : ℕ) → 64 * k + 64 ≤ length m → w < 2 ^ 64 → CountsWord m k w → IsWord m k w
is_word m k w long fits counts =
    same_from_bits_below 64 w (number_at m (64 * k) 64) fits (number_at-lt m (64 * k) 64 long)
    (λ j low.
    let at : 64 * k + (j + 1) ≡ 64 * k + j + 1 = omega arith in
    let here : bit_at w j ≡ truth (item m (64 * k + j)) =
    omega (
      arith,
      counts j (omega arith),
      counts (j + 1) (omega arith),
      ap (ones_before m) at,
      ones_before_more m (64 * k + j) (omega arith),
      count_ones_more w j,
    ) in
    here ∙ sym (bit_at-number_at m (64 * k) 64 j low))

ones_counts : (words : List ℕ) (k w bit : ℕ) → k < length words → w ≡ slice_index words k → bit ≢ 0 → CountsWord (sought_in bit words) k w
ones_counts words k w bit h is other j le =
    let m = marked_other (bits_of words) bit other in
    rw (m, ones_before-sought_bits (bits_of words) (64 * k + j), ones_before-sought_bits (bits_of words) (64 * k), is)
    (ones_before-bits_of_in_word words k h j le)

pub word_ones : (words : List ℕ) (k w bit : ℕ) → k < length words → w < 2 ^ 64 → w ≡ slice_index words k → bit ≢ 0
    → IsWord (sought_in bit words) k w
word_ones words k w bit h lt is other =
    is_word (sought_in bit words) k w (sought_bits-long words (as_bit bit) k h) lt (ones_counts words k w bit h is other)

zeros_counts : (words : List ℕ) (k w bit : ℕ) → k < length words → w < 2 ^ 64 → w ≡ slice_index words k → bit ≡ 0
    → CountsWord (sought_in bit words) k (2 ^ 64 - 1 - w)
zeros_counts words k w bit h lt is none j le =
    let b = bits_of words in
    let there = zeros_before-sought_bits b (64 * k + j) (omega (arith, length-bits_of words)) in
    let here = zeros_before-sought_bits b (64 * k) (omega (arith, length-bits_of words)) in
    let ones = ones_before-bits_of_in_word words k h j le in
    let same = ap (λ (x : ℕ). count_ones (x % 2 ^ j)) is in
    rw (marked_zero b bit none) (omega (arith, there, here, ones, same, ones_before-self b (64 * k), digits_of_both w j lt le))

pub word_zeros : (words : List ℕ) (k w bit : ℕ) → k < length words → w < 2 ^ 64 → w ≡ slice_index words k → bit ≡ 0
    → IsWord (sought_in bit words) k (2 ^ 64 - 1 - w)
word_zeros words k w bit h lt is none =
    is_word (sought_in bit words) k (2 ^ 64 - 1 - w) (sought_bits-long words (as_bit bit) k h) (omega arith)
    (zeros_counts words k w bit h lt is none)

-- ---- selection in a word, at the rank R

module _ (words : List ℕ) (v : Bool) (k w R rest : ℕ) (word : CountsWord (sought_bits v (bits_of words)) k w)
    (count : R ≡ ones_before (sought_bits v (bits_of words)) (64 * k) + rest) where
  pub picked_in_word : (q : ℕ) → k < length words → q < 64 → count_ones (w % 2 ^ q) ≡ rest → count_ones (w % 2 ^ (q + 1)) ≡ rest + 1
      → Picks (bits_of words) v R (k * 64 + q)
  picked_in_word q h lt before after =
      let m = sought_bits v (bits_of words) in
      let e : k * 64 + q ≡ 64 * k + q = omega arith in
      let f : 64 * k + (q + 1) ≡ 64 * k + q + 1 = omega arith in
      let up = ap (ones_before m) f in
      rw e
      (picked (bits_of words) v R (64 * k + q) (omega (arith, length-bits_of words)) (omega (arith, word q (omega arith), before, count))
      (omega (arith, up, word (q + 1) (omega arith), after, count)))

  pub word_passed : w < 2 ^ 64 → count_ones w ≤ rest → R ≡ ones_before (sought_bits v (bits_of words)) (64 * (k + 1)) + (rest - count_ones w)
  word_passed lt le =
      let e : 64 * k + 64 ≡ 64 * (k + 1) = omega arith in
      let whole : w % 2 ^ 64 ≡ w = omega arith in
      omega (arith, ap (ones_before (sought_bits v (bits_of words))) e, word 64 (omega arith), ap count_ones whole, count)

-- ---- nothing is picked

-- there are no more of the kind than the sought bits have ones before a position past the end
pub none_counted : (b : List Bool) (v : Bool) (r i : ℕ) → length b ≤ i → ones_before (sought_bits v b) i ≤ r → count_before b v (length b) ≤ r
none_counted b v r i past le =
    omega (arith, count_before-sought_bits b v (length b) (omega arith), (ones_before-between (sought_bits v b) (length b) i past).0)

-- nothing is picked in no bits
pub none_in_nothing : (b : List Bool) (v : Bool) (r : ℕ) → length b ≡ 0 → count_before b v (length b) ≤ r
none_in_nothing b v r none =
    let m = count_before-sought_bits b v (length b) (omega arith) in
    omega (arith, m, ones_before-self (sought_bits v b) (length b))

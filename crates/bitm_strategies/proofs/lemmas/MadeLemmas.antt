-- Samples from the tables alone: each part's items, and each item's entry, are what the tables claim.
use Rattle.std.proofs.Common.{◌≡◌, ℕ, ◌+◌, ◌-◌, ◌*◌, ◌%◌, ◌^◌, ◌<◌, ◌≤◌, ◌≢◌, Bool, true, false, List, [], ◌∷◌, ◌++◌, map, length, slice_index, min, nat_lt, arith, inl, inr, sym, ap, ap₂, ◌∙◌, subst, lt-ltb, le-ltb, append_assoc}
use Rattle.std.proofs.Math.Pow.{pow_mono}
use Rattle.std.proofs.lemmas.Bool.{cases_lt}
use Rattle.std.proofs.lemmas.Nat.{pow_pos, one_shl}
use Rattle.std.proofs.lemmas.List.FromFn.{map-range_with_len_more}
use Rattle.std.specs.List.{range_with_len}
use Rattle.std.specs.Int.{div_ceil}
use Rattle.bit_lists.proofs.lemmas.CountLemmas.{ones_before-add-zeros_before}
use Rattle.bit_lists.specs.Count.{count_of, ones_before, count_before, as_bit}
use Rattle.bitm_tables.specs.Entry.{before_in_part, lower_entry, greatest_entry, FieldsFit, entries_from}
use Rattle.bitm_strategies.specs.Samples.{Summarizes, part_of, entry_of, sample}
use Rattle.bitm_select.specs.Search.{IsLastEntry, IsLastWithin, sought_bits}
use Rattle.bitm_tables.proofs.lemmas.EntryLemmas.{entry-complement, entry-fits}
use Rattle.bitm_select.proofs.lemmas.MarkLemmas.{as_bit_other}
use Rattle.bitm_strategies.proofs.lemmas.PartLemmas.{length-part_of, count_of-part_of, last_same, last_alike, entry_last, count_before-between, count_in_part}
use Rattle.bitm_strategies.proofs.lemmas.SampleLemmas.{ceil_less}
use Rattle.bitm_select.proofs.lemmas.SoughtLemmas.{entry_ones, entry_zeros}
use Rattle.bitm_tables.proofs.lemmas.StretchLemmas.{ones_before-between}
use Rattle.bitm_tables.proofs.lemmas.TableLemmas.{HasEntries, entries}

-- ---- zeros and ones

pub items_zero : (c : List Bool) (bit : ℕ) → bit ≡ 0 → count_of c (as_bit bit) ≡ count_of c false
items_zero c bit h = ap (λ (n : ℕ). count_of c (as_bit n)) h

pub items_other : (c : List Bool) (bit : ℕ) → bit ≢ 0 → count_of c (as_bit bit) ≡ count_of c true
items_other c bit h = ap (count_of c) (as_bit_other bit h)

-- ---- a part and its entries

-- a part of tables that are long enough has its first entry
pub sized_first : (len upper lower k : ℕ) → upper ≡ div_ceil len (2 ^ 32) → lower ≡ div_ceil len 2048 → k < upper → k * 2 ^ 21 < lower
sized_first len upper lower k uppers lowers inside = omega arith

module _ (b : List Bool) (upper lower : List ℕ) (total len : ℕ) (t : Summarizes b upper lower total len) where
  t' : HasEntries b upper lower
  t' = entries b upper lower t.tables

  fits_at : (j : ℕ) → j < length lower → FieldsFit (slice_index lower j) j
  fits_at j h = subst (λ (e : ℕ). FieldsFit e j) (sym (t'.lower_is j h)) (entry-fits b j)

  pub ones_at : (j bit : ℕ) → j < length lower → bit ≢ 0 → slice_index lower j ≡ lower_entry (sought_bits (as_bit bit) b) j
  ones_at j bit h other = t'.lower_is j h ∙ entry_ones b j bit other

  pub zeros_at : (j bit r : ℕ) → j < length lower → bit ≡ 0
      → (FieldsFit (slice_index lower j) j → r ≡ greatest_entry j - slice_index lower j) → r ≡ lower_entry (sought_bits (as_bit bit) b) j
  zeros_at j bit r h none f =
      f (fits_at j h)
      ∙ ap (λ (e : ℕ). greatest_entry j - e) (t'.lower_is j h)
      ∙ entry-complement b j (omega (arith, t'.lower_length))
      ∙ entry_zeros b j bit none

  module _ (k : ℕ) (inside : k < length upper) where
    pub begins : k * 2 ^ 32 < length b
    begins = omega (arith, t'.upper_length)

    pub entries_of_part : entries_from (length lower) k ≡ div_ceil (length (part_of b k)) 2048
    entries_of_part = omega (arith, t'.lower_length, length-part_of b k, begins)

    pub next_is : k + 1 < length upper → slice_index upper (k + 1) ≡ ones_before b (min (length b) ((k + 1) * 2 ^ 32))
    next_is h =
        let e : (k + 1) * 2 ^ 32 ≡ min (length b) ((k + 1) * 2 ^ 32) = omega (arith, t'.upper_length) in
        t'.upper_is (k + 1) h ∙ ap (ones_before b) e

    pub total_is : length upper ≤ k + 1 → total ≡ ones_before b (min (length b) ((k + 1) * 2 ^ 32))
    total_is h =
        let e : length b ≡ min (length b) ((k + 1) * 2 ^ 32) = omega (arith, t'.upper_length) in
        t.ones_are ∙ ap (ones_before b) e

    module _ (end : ℕ) (is : end ≡ ones_before b (min (length b) ((k + 1) * 2 ^ 32))) where
      between : (ones_before b (k * 2 ^ 32) ≤ ones_before b (min (length b) ((k + 1) * 2 ^ 32)))
          × (ones_before b (min (length b) ((k + 1) * 2 ^ 32))
          ≤ ones_before b (k * 2 ^ 32) + (min (length b) ((k + 1) * 2 ^ 32) - k * 2 ^ 32))
      between = ones_before-between b (k * 2 ^ 32) (min (length b) ((k + 1) * 2 ^ 32)) (omega (arith, begins))

      pub ones_in : end - slice_index upper k ≡ count_of (part_of b k) true
      ones_in =
          let all = count_of-part_of true b k (min (length b) ((k + 1) * 2 ^ 32)) (omega (arith, begins)) (omega arith) in
          omega (arith, is, t'.upper_is k inside, all)

      pub few_ones_in : end - slice_index upper k ≤ min (len - k * 2 ^ 32) (2 ^ 32)
      few_ones_in = omega (arith, is, t.bits_are, t'.upper_is k inside, between.1)

      pub zeros_in : min (len - k * 2 ^ 32) (2 ^ 32) - (end - slice_index upper k) ≡ count_of (part_of b k) false
      zeros_in =
          let both = ones_before-add-zeros_before (part_of b k) (length (part_of b k)) (omega arith) in
          omega (arith, ones_in, t.bits_are, length-part_of b k, both)

-- what a walk to an item finds is the item's entry
pub advanced : (b : List Bool) (upper lower : List ℕ) (total len : ℕ) → Summarizes b upper lower total len
    → (v : Bool) (k : ℕ) → k < length upper → (item e : ℕ) → item < count_of (part_of b k) v
    → IsLastEntry (sought_bits v b) (length lower) k item e → e ≡ entry_of (part_of b k) v item
advanced b upper lower total len t v k inside item e some last =
    let c = part_of b k in
    let n = div_ceil (length c) 2048 in
    let f : ℕ → ℕ = λ j. before_in_part (sought_bits v b) (k * 2 ^ 21 + j) in
    let g : ℕ → ℕ = λ j. count_before c v (2048 * j) in
    let here : IsLastWithin f n item e = subst (λ (m : ℕ). IsLastWithin f m item e) (entries_of_part b upper lower total len t k inside) last in
    last_same g (λ i j h. count_before-between v c (2048 * i) (2048 * j) (omega arith)) n item e (entry_of c v item)
    (last_alike f g n item e (λ j h. count_in_part v b k j h) here) (entry_last c v item some)

-- ---- the sample of an interval with an item in its middle, and of one without

pub sample_middle : (c : List Bool) (v : Bool) (d item e later : ℕ) → item + 2 ^ (d - 1) < count_of c v → e ≡ entry_of c v item
    → later ≡ entry_of c v (item + 2 ^ (d - 1)) → e + min (later - e) 2047 * 2 ^ 21 ≡ sample c v d item
sample_middle c v d item e later h i j =
    let t : nat_lt (item + 2 ^ (d - 1)) (count_of c v) ≡ true = lt-ltb (item + 2 ^ (d - 1)) (count_of c v) h in rw t (omega (arith, i, j))

pub sample_alone : (c : List Bool) (v : Bool) (d item e : ℕ) → count_of c v ≤ item + 2 ^ (d - 1) → e ≡ entry_of c v item
    → e ≡ sample c v d item
sample_alone c v d item e h i =
    let t : nat_lt (item + 2 ^ (d - 1)) (count_of c v) ≡ false = le-ltb (item + 2 ^ (d - 1)) (count_of c v) h in rw t (omega (arith, i))

-- the first item of an interval, as a shift
pub interval_item : (i n d e : ℕ) → d ≤ 31 → n ≤ 2 ^ 32 → e ≡ div_ceil n (1 * 2 ^ d % 2 ^ 64) → i < e
    → (i * 2 ^ d < n) × (i * 2 ^ d % 2 ^ 64 ≡ i * 2 ^ d)
interval_item i n d e small few is h =
    let same : div_ceil n (1 * 2 ^ d % 2 ^ 64) ≡ div_ceil n (2 ^ d) = ap (div_ceil n) (one_shl d 64 (omega arith)) in
    let l : i * 2 ^ d < n = ceil_less i n (2 ^ d) (pow_pos d) (omega (arith, same)) in
    (l, omega arith)

-- a part has few intervals
pub few_intervals : (n d e : ℕ) → 7 ≤ d → d ≤ 31 → n ≤ 2 ^ 32 → e ≡ div_ceil n (1 * 2 ^ d % 2 ^ 64) → e ≤ 2 ^ 25
few_intervals n d e low small few is =
    let same : div_ceil n (1 * 2 ^ d % 2 ^ 64) ≡ div_ceil n (2 ^ d) = ap (div_ceil n) (one_shl d 64 (omega arith)) in
    let p : 2 ^ 7 ≤ 2 ^ d = pow_mono low in
    elim (cases_lt (2 ^ 25) e) [
      | inl over ↦
          let l : 2 ^ 25 * 2 ^ d < n = ceil_less (2 ^ 25) n (2 ^ d) (pow_pos d) (omega (arith, same, is)) in absurd (omega arith)
      | inr within ↦ within
    ]

pub half_within : (i d x : ℕ) → x ≤ i * 2 ^ d + 2 ^ (d - 1) → x ≤ (i + 1) * 2 ^ d
half_within i d x h = let p : 2 ^ (d - 1) ≤ 2 ^ d = pow_mono (omega arith) in omega arith

-- one more at the end of what is mapped
pub one_more : (f : ℕ → ℕ) (ps old now : List ℕ) (i x : ℕ) → now ≡ old ++ x ∷ [] → old ≡ ps ++ map f (range_with_len 0 i) → x ≡ f i
    → now ≡ ps ++ map f (range_with_len 0 (i + 1))
one_more f ps old now i x e o is =
    e
    ∙ ap₂ (λ (l : List ℕ) (y : ℕ). l ++ y ∷ []) o is
    ∙ append_assoc ps (map f (range_with_len 0 i)) (f i ∷ [])
    ∙ ap (λ (l : List ℕ). ps ++ l) (sym (map-range_with_len_more f 0 i i (omega arith)))

-- The tables entry by entry, and the counts on the way from them to a position.
use Rattle.std.proofs.Common.{◌≡◌, ℕ, ◌+◌, ◌-◌, ◌*◌, ◌/◌, ◌%◌, ◌^◌, ◌<◌, Bool, List, length, get_or, slice_index, arith, ap, ◌∙◌}
use Rattle.std.proofs.lemmas.List.FromFn.{length-map-range_with_len, get_or-map-range_with_len}
use Rattle.std.specs.Int.{div_ceil}
use Rattle.bit_lists.proofs.lemmas.BitsLemmas.{length-bits_of}
use Rattle.bit_lists.specs.Bits.{bits_of}
use Rattle.bit_lists.specs.Count.{ones_before}
use Rattle.bitm_tables.specs.Entry.{before_in_part, in_records, lower_entry, field_0}
use Rattle.bitm_tables.specs.Tables.{upper_of, lower_of, AreTablesOf}
use Rattle.bitm_tables.proofs.lemmas.EntryLemmas.{entry-low, entry-shifted}
use Rattle.bitm_tables.proofs.lemmas.StretchLemmas.{ones_before-between}

-- ---- entry by entry

-- the tables of the bits b: how long they are, and what each entry is
pub record HasEntries (b : List Bool) (upper lower : List ℕ) : Type 0 where
  pub upper_length : length upper ≡ div_ceil (length b) (2 ^ 32)
  pub lower_length : length lower ≡ div_ceil (length b) 2048
  pub upper_is : (k : ℕ) → k < length upper → slice_index upper k ≡ ones_before b (k * 2 ^ 32)
  pub lower_is : (j : ℕ) → j < length lower → slice_index lower j ≡ lower_entry b j

pub length-upper_of : (b : List Bool) → length (upper_of b) ≡ div_ceil (length b) (2 ^ 32)
unfolding upper_of
length-upper_of b = length-map-range_with_len (λ k. ones_before b (k * 2 ^ 32)) 0 (div_ceil (length b) (2 ^ 32))

pub length-lower_of : (b : List Bool) → length (lower_of b) ≡ div_ceil (length b) 2048
unfolding lower_of
length-lower_of b = length-map-range_with_len (lower_entry b) 0 (div_ceil (length b) 2048)

pub get_or-upper_of : (b : List Bool) (k d : ℕ) → k < div_ceil (length b) (2 ^ 32) → get_or (upper_of b) k d ≡ ones_before b (k * 2 ^ 32)
unfolding upper_of
get_or-upper_of b k d h =
    get_or-map-range_with_len (λ j. ones_before b (j * 2 ^ 32)) 0 (div_ceil (length b) (2 ^ 32)) k k d h (omega arith)

pub get_or-lower_of : (b : List Bool) (j d : ℕ) → j < div_ceil (length b) 2048 → get_or (lower_of b) j d ≡ lower_entry b j
unfolding lower_of
get_or-lower_of b j d h = get_or-map-range_with_len (lower_entry b) 0 (div_ceil (length b) 2048) j j d h (omega arith)

pub entries : (b : List Bool) (upper lower : List ℕ) → AreTablesOf b upper lower → HasEntries b upper lower
entries b upper lower t =
    let uppers : length upper ≡ div_ceil (length b) (2 ^ 32) = ap length t.upper_is ∙ length-upper_of b in
    let lowers : length lower ≡ div_ceil (length b) 2048 = ap length t.lower_is ∙ length-lower_of b in
    record {
      upper_length = uppers;
      lower_length = lowers;
      upper_is = λ k h. ap (λ (l : List ℕ). get_or l k 0) t.upper_is ∙ get_or-upper_of b k 0 (omega (arith, uppers));
      lower_is = λ j h. ap (λ (l : List ℕ). get_or l j 0) t.lower_is ∙ get_or-lower_of b j 0 (omega (arith, lowers));
    }

-- ---- on the way to a position

-- the counts that lead to the record of position i
to_record : (b : List Bool) (i : ℕ)
    → ones_before b (i / 2 ^ 32 * 2 ^ 32) + before_in_part b (i / 2048) + in_records b (i / 2048) (i / 512 % 4)
    ≡ ones_before b (64 * (i / 512 * 8))
to_record b i =
    let part : i / 2048 / 2 ^ 21 * 2 ^ 32 ≡ i / 2 ^ 32 * 2 ^ 32 = omega arith in
    let record_at : 2048 * (i / 2048) + 512 * (i / 512 % 4) ≡ 64 * (i / 512 * 8) = omega arith in
    let p = ones_before-between b (i / 2 ^ 32 * 2 ^ 32) (2048 * (i / 2048)) (omega arith) in
    let q = ones_before-between b (2048 * (i / 2048)) (64 * (i / 512 * 8)) (omega arith) in
    rw (part, record_at) (omega arith)

module _ (words upper lower : List ℕ) (t : AreTablesOf (bits_of words) upper lower) (i : ℕ) (inside : i / 64 < length words) where
  pub lower_inside : i / 2048 < length lower
  lower_inside = let e = entries (bits_of words) upper lower t in omega (arith, e.lower_length, length-bits_of words)

  -- the ones before the part, those before the lower entry, and those before the record
  pub tables_sum : (u e : ℕ) → u ≡ ones_before (bits_of words) (i / 2 ^ 32 * 2 ^ 32) → e ≡ slice_index lower (i / 2048)
      → u + field_0 e + e / 2 ^ (11 * (3 - i / 512 % 4)) / 2 ^ 32 % 2 ^ 11 ≡ ones_before (bits_of words) (64 * (i / 512 * 8))
  tables_sum u e first e_is =
      let b = bits_of words in
      let at = entries b upper lower t in
      let entry : e ≡ lower_entry b (i / 2048) = e_is ∙ at.lower_is (i / 2048) lower_inside in
      let low : field_0 e ≡ before_in_part b (i / 2048) = ap field_0 entry ∙ entry-low b (i / 2048) in
      let field : e / 2 ^ (11 * (3 - i / 512 % 4)) / 2 ^ 32 % 2 ^ 11 ≡ in_records b (i / 2048) (i / 512 % 4) =
      ap (λ (n : ℕ). n / 2 ^ (11 * (3 - i / 512 % 4)) / 2 ^ 32 % 2 ^ 11) entry ∙ entry-shifted b (i / 2048) (i / 512 % 4) (omega arith) in
      rw (first, low, field) (to_record b i)

-- What the tables claim of the bits in which ones are sought: before a part, before an entry, and in the record chosen.
use Rattle.std.proofs.Common.{◌≡◌, ◌≢◌, ℕ, ◌+◌, ◌-◌, ◌*◌, ◌/◌, ◌%◌, ◌^◌, ◌<◌, ◌≤◌, Bool, List, length, slice_index, arith, sym, ap, ◌∙◌, inl, inr}
use Rattle.std.proofs.lemmas.Bool.{cases_lt}
use Rattle.bit_lists.proofs.lemmas.BitsLemmas.{length-bits_of}
use Rattle.bit_lists.specs.Bits.{bits_of, IsShort}
use Rattle.bit_lists.specs.Count.{ones_before, as_bit}
use Rattle.bitm_tables.specs.Entry.{before_in_part, in_records, lower_entry, record_field, field_0, padded_bits, negation, entries_from, less}
use Rattle.bitm_select.specs.Search.{sought_bits, sought_in, IsLastPart, IsLastEntry}
use Rattle.bitm_tables.specs.Tables.{AreTablesOf}
use Rattle.bitm_tables.proofs.lemmas.EntryLemmas.{entry-low, record_field_is}
use Rattle.bitm_select.proofs.lemmas.MarkLemmas.{ones_before-sought_bits, zeros_before-sought_bits, marked_zero, marked_other}
use Rattle.bitm_tables.proofs.lemmas.StretchLemmas.{ones_before-self, ones_before-between}
use Rattle.bitm_tables.proofs.lemmas.TableLemmas.{HasEntries, entries}

-- ---- before a part

module _ (words upper lower : List ℕ) (t : AreTablesOf (bits_of words) upper lower) (short : IsShort words) (k : ℕ)
    (inside : k < length upper) where
  t' : HasEntries (bits_of words) upper lower
  t' = entries (bits_of words) upper lower t

  part_whole : k * 4294967296 % 18446744073709551616 ≡ k * 2 ^ 32
  part_whole = omega (arith, t'.upper_length, length-bits_of words)

  module _ (u : ℕ) (is : u ≡ slice_index upper k) where
    u_ones : u ≡ ones_before (bits_of words) (k * 2 ^ 32)
    u_ones = is ∙ t'.upper_is k inside

    pub part_below : u ≤ k * 4294967296 % 18446744073709551616
    part_below = omega (arith, part_whole, u_ones, ones_before-self (bits_of words) (k * 2 ^ 32))

    pub part_zeros : (bit : ℕ) → bit ≡ 0 → k * 4294967296 % 18446744073709551616 - u ≡ ones_before (sought_in bit words) (k * 2 ^ 32)
    part_zeros bit h =
        let zeros = zeros_before-sought_bits (bits_of words) (k * 2 ^ 32) (omega (arith, t'.upper_length, length-bits_of words)) in
        rw (marked_zero (bits_of words) bit h) (omega (arith, part_whole, u_ones, zeros))

    pub part_ones : (bit : ℕ) → bit ≢ 0 → u ≡ ones_before (sought_in bit words) (k * 2 ^ 32)
    part_ones bit h = rw (marked_other (bits_of words) bit h) (u_ones ∙ sym (ones_before-sought_bits (bits_of words) (k * 2 ^ 32)))

-- ---- before an entry

pub entry_ones : (b : List Bool) (j bit : ℕ) → bit ≢ 0 → lower_entry b j ≡ lower_entry (sought_bits (as_bit bit) b) j
entry_ones b j bit h =
    let e = ones_before-sought_bits b in
    rw
    (marked_other b bit h, e (2048 * j), e ((j / 2 ^ 21) * 2 ^ 32), e (2048 * j + 512 * 1), e (2048 * j + 512 * 2), e (2048 * j + 512 * 3))

pub entry_zeros : (b : List Bool) (j bit : ℕ) → bit ≡ 0 → lower_entry (negation (padded_bits b)) j ≡ lower_entry (sought_bits (as_bit bit) b) j
entry_zeros b j bit h = rw (marked_zero b bit h)

-- the count before an entry is what the code reads of it
pub low_is : (b : List Bool) (e j : ℕ) → e ≡ lower_entry b j → field_0 e ≡ before_in_part b j
low_is b e j h = ap field_0 h ∙ entry-low b j

-- there is no count before a part's first entry
pub first_none : (b : List Bool) (k : ℕ) → before_in_part b (k * 2 ^ 21 + 0) ≡ 0
first_none b k =
    let e : (k * 2 ^ 21 + 0) / 2 ^ 21 * 2 ^ 32 ≡ 2048 * (k * 2 ^ 21 + 0) = omega arith in rw e (omega arith)

-- the counts before parts rise, and those before the entries of a part
pub parts_rise : (m : List Bool) (j k : ℕ) → j ≤ k → ones_before m (j * 2 ^ 32) ≤ ones_before m (k * 2 ^ 32)
parts_rise m j k h = (ones_before-between m (j * 2 ^ 32) (k * 2 ^ 32) (omega arith)).0

pub entries_rise : (m : List Bool) (part j k : ℕ) → j ≤ k → k < 2 ^ 21
    → before_in_part m (part * 2 ^ 21 + j) ≤ before_in_part m (part * 2 ^ 21 + k)
entries_rise m part j k h l =
    let same : (part * 2 ^ 21 + j) / 2 ^ 21 * 2 ^ 32 ≡ (part * 2 ^ 21 + k) / 2 ^ 21 * 2 ^ 32 = omega arith in
    let g = ones_before-between m (2048 * (part * 2 ^ 21 + j)) (2048 * (part * 2 ^ 21 + k)) (omega arith) in
    omega (arith, g.0, ap (ones_before m) same)

-- the fields of an entry's records rise
pub record_fields_rise : (b : List Bool) (e j k : ℕ) → e ≡ lower_entry b j → k < 3 → record_field e k ≤ record_field e (k + 1)
record_fields_rise b e j k is h =
    let g = ones_before-between b (2048 * j + 512 * k) (2048 * j + 512 * (k + 1)) (omega arith) in
    let there = record_field_is b j k (omega arith) in
    let next = record_field_is b j (k + 1) (omega arith) in
    omega (arith, g.0, there, next, ap (λ x. record_field x k) is, ap (λ x. record_field x (k + 1)) is)

-- of three rising counts the last that is at most the rank is as many as are at most it
pub record_chosen : (count : ℕ → ℕ) (rank p q r : ℕ) → count 0 ≡ 0 → count 1 ≤ count 2 → count 2 ≤ count 3
    → (count 1 ≤ rank → p ≡ 1) → (rank < count 1 → p ≡ 0) → (count 2 ≤ rank → q ≡ 1) → (rank < count 2 → q ≡ 0)
    → (count 3 ≤ rank → r ≡ 1) → (rank < count 3 → r ≡ 0)
    → (p + q + r < 4) × (count (p + q + r) ≤ rank) × (p + q + r < 3 → rank < count (p + q + r + 1))
record_chosen count rank p q r none second third p-yes p-no q-yes q-no r-yes r-no =
    elim (cases_lt rank (count 1)) [
      | inl first ↦
          let e : p + q + r ≡ 0 = omega (arith, p-no first, q-no (omega arith), r-no (omega arith)) in
          (omega arith, omega (arith, ap count e), λ _. omega (arith, ap (λ k. count (k + 1)) e))
      | inr above ↦
          elim (cases_lt rank (count 2)) [
            | inl first ↦
                let e : p + q + r ≡ 1 = omega (arith, p-yes above, q-no first, r-no (omega arith)) in
                (omega arith, omega (arith, ap count e), λ _. omega (arith, ap (λ k. count (k + 1)) e))
            | inr over ↦
                elim (cases_lt rank (count 3)) [
                  | inl first ↦
                      let e : p + q + r ≡ 2 = omega (arith, p-yes above, q-yes over, r-no first) in
                      (omega arith, omega (arith, ap count e), λ _. omega (arith, ap (λ k. count (k + 1)) e))
                  | inr all ↦
                      let e : p + q + r ≡ 3 = omega (arith, p-yes above, q-yes over, r-yes all) in
                      (omega arith, omega (arith, ap count e), λ h. absurd (omega arith))
                ]
          ]
    ]

-- ---- the record chosen: r is the rank in the part, e the entry there, and k the record in the entry

module _ (words upper lower : List ℕ) (t : AreTablesOf (bits_of words) upper lower) (m : List Bool) (part r e k : ℕ)
    (up : IsLastPart m (length upper) (ones_before m (part * 2 ^ 32) + r) part) (low : IsLastEntry m (length lower) part r e)
    (small : k < 4) (at_most : in_records m (part * 2 ^ 21 + e) k ≤ r - before_in_part m (part * 2 ^ 21 + e))
    (next : k < 3 → r - before_in_part m (part * 2 ^ 21 + e) < in_records m (part * 2 ^ 21 + e) (k + 1)) where
  in_entry : r - before_in_part m (part * 2 ^ 21 + e) + ones_before m (2048 * (part * 2 ^ 21 + e)) ≡ ones_before m (part * 2 ^ 32) + r
  in_entry =
      let at : (part * 2 ^ 21 + e) / 2 ^ 21 * 2 ^ 32 ≡ part * 2 ^ 32 = omega (arith, low.inside) in
      let g = ones_before-between m (part * 2 ^ 32) (2048 * (part * 2 ^ 21 + e)) (omega arith) in
      omega (arith, low.at_most, ap (ones_before m) at, g.0)

  in_record_rank :
      ones_before m (64 * ((part * 2 ^ 21 + e) * 32 + k * 8))
      + (r - before_in_part m (part * 2 ^ 21 + e) - in_records m (part * 2 ^ 21 + e) k) ≡ ones_before m (part * 2 ^ 32) + r
  in_record_rank =
      let j = part * 2 ^ 21 + e in
      let at : 64 * (j * 32 + k * 8) ≡ 2048 * j + 512 * k = omega arith in
      let g = ones_before-between m (2048 * j) (2048 * j + 512 * k) (omega arith) in
      omega (arith, in_entry, at_most, ap (ones_before m) at, g.0)

  next_record : (part * 2 ^ 21 + e) * 32 + k * 8 + 8 < length words
      → ones_before m (part * 2 ^ 32) + r < ones_before m (64 * ((part * 2 ^ 21 + e) * 32 + k * 8 + 8))
  next_record h =
      let j = part * 2 ^ 21 + e in
      let t' = entries (bits_of words) upper lower t in
      let g = ones_before-between m (2048 * j) (64 * (j * 32 + k * 8 + 8)) (omega arith) in
      elim (cases_lt k 3) [
        | inl below ↦
            let at : 64 * (j * 32 + k * 8 + 8) ≡ 2048 * j + 512 * (k + 1) = omega arith in
            omega (arith, in_entry, next below, ap (ones_before m) at, g.0)
        | inr top ↦
            let at : 64 * (j * 32 + k * 8 + 8) ≡ 2048 * (j + 1) = omega arith in
            elim (cases_lt (e + 1) (entries_from (length lower) part)) [
              | inl more ↦
                  let start : (part * 2 ^ 21 + (e + 1)) / 2 ^ 21 * 2 ^ 32 ≡ part * 2 ^ 32 = omega arith in
                  let there : 2048 * (part * 2 ^ 21 + (e + 1)) ≡ 2048 * (j + 1) = omega arith in
                  omega (arith, low.next more, ap (ones_before m) at, ap (ones_before m) start, ap (ones_before m) there)
              | inr over ↦
                  let border : 2048 * (j + 1) ≡ (part + 1) * 2 ^ 32 = omega (arith, low.inside, t'.lower_length, length-bits_of words) in
                  let last = up.next (omega (arith, border, t'.upper_length, length-bits_of words)) in
                  omega (arith, last, ap (ones_before m) at, ap (ones_before m) border)
            ]
      ]

-- what the code computes on the way to the record
module _ (words upper lower : List ℕ) (t : AreTablesOf (bits_of words) upper lower) (m : List Bool) (part r e k entry count before : ℕ)
    (up : IsLastPart m (length upper) (ones_before m (part * 2 ^ 32) + r) part) (low : IsLastEntry m (length lower) part r e)
    (entry_is : entry ≡ lower_entry m (part * 2 ^ 21 + e)) (count_is : count ≡ field_0 entry) where
  counted : count ≡ before_in_part m (part * 2 ^ 21 + e)
  counted = count_is ∙ low_is m entry (part * 2 ^ 21 + e) entry_is

  module _ (small : k < 4) (before_is : before ≡ record_field entry k) (at_most : before ≤ r - count)
      (next : k < 3 → r - count < record_field entry (k + 1)) where
    field : (n : ℕ) → n < 4 → record_field entry n ≡ in_records m (part * 2 ^ 21 + e) n
    field n h = ap (λ (x : ℕ). record_field x n) entry_is ∙ record_field_is m (part * 2 ^ 21 + e) n h

    most : in_records m (part * 2 ^ 21 + e) k ≤ r - before_in_part m (part * 2 ^ 21 + e)
    most = omega (arith, at_most, before_is, field k small, counted)

    after : k < 3 → r - before_in_part m (part * 2 ^ 21 + e) < in_records m (part * 2 ^ 21 + e) (k + 1)
    after h = omega (arith, next h, field (k + 1) (omega arith), counted)

    pub rank_is : ones_before m (64 * ((part * 2 ^ 21 + e) * 32 + k * 8)) + (r - count - before) ≡ ones_before m (part * 2 ^ 32) + r
    rank_is = omega (arith, in_record_rank words upper lower t m part r e k up low small most after, before_is, field k small, counted)

    pub next_is : (part * 2 ^ 21 + e) * 32 + k * 8 + 8 < length words
        → ones_before m (64 * ((part * 2 ^ 21 + e) * 32 + k * 8)) + (r - count - before)
        < ones_before m (64 * ((part * 2 ^ 21 + e) * 32 + k * 8 + 8))
    next_is h = omega (arith, rank_is, next_record words upper lower t m part r e k up low small most after h)

    -- the ones of the record, where its end is reported or the words end with it
    pub total_is : (end above : ℕ) → (k < 3 → end ≡ record_field entry (k + 1)) → (k ≡ 3 → end ≡ less above count)
        → above < 2 ^ 64 → (above < 2 ^ 62 → (e + 1 < entries_from (length lower) part) × (above ≡ before_in_part m (part * 2 ^ 21 + (e + 1))))
        → let first = (part * 2 ^ 21 + e) * 32 + k * 8 in let left = r - count - before in let total = less end before in
        left < total → total - left ≤ total / 2 → first + 8 < length words → ones_before m (64 * first) + total ≡ ones_before m (64 * (first + 8))
    total_is end above inner last fits claimed less_left near more =
        let j = part * 2 ^ 21 + e in
        let first = j * 32 + k * 8 in
        let here : 64 * first ≡ 2048 * j + 512 * k = omega arith in
        let start = ones_before-between m (2048 * j) (2048 * j + 512 * k) (omega arith) in
        let record_ = ones_before-between m (64 * first) (64 * (first + 8)) (omega arith) in
        elim (cases_lt k 3) [
          | inl below ↦
              let there : 64 * (first + 8) ≡ 2048 * j + 512 * (k + 1) = omega arith in
              let next_start = ones_before-between m (2048 * j) (2048 * j + 512 * (k + 1)) (omega arith) in
              omega (arith, inner below, field k small, field (k + 1) (omega arith), before_is, ap (ones_before m) here, ap (ones_before m) there, start.0, next_start.0, record_.0, record_.1)
          | inr top ↦
              elim (cases_lt above (2 ^ 62)) [
                | inl known ↦
                    let is : k ≡ 3 = omega (arith, small, top) in
                    let there : 64 * (first + 8) ≡ 2048 * (part * 2 ^ 21 + (e + 1)) = omega (arith, is) in
                    let of_part : (part * 2 ^ 21 + (e + 1)) / 2 ^ 21 * 2 ^ 32 ≡ j / 2 ^ 21 * 2 ^ 32 = omega (arith, (claimed known).0) in
                    let before_entry = ones_before-between m (j / 2 ^ 21 * 2 ^ 32) (2048 * j) (omega arith) in
                    omega (arith, last is, (claimed known).1, counted, field k small, before_is, ap (ones_before m) here, ap (ones_before m) there, ap (ones_before m) of_part, start.0, before_entry.0, record_.0, record_.1)
                | inr unknown ↦ absurd (omega (arith, last (omega (arith, small, top)), unknown, near, fits, next_is more, record_.1, before_is, field k small, start.1, count_is))
              ]
        ]

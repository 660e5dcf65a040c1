-- The tables made record by record, entry by entry and part by part.
use Rattle.std.proofs.Common.{◌≡◌, ℕ, ◌+◌, ◌-◌, ◌*◌, ◌/◌, ◌^◌, ◌<◌, ◌≤◌, min, Bool, List, length, take, drop, get_or, ap, ⊎_elim, arith}
use Rattle.std.proofs.lemmas.Bool.{cases_lt}
use Rattle.std.specs.Int.{div_ceil}
use Rattle.bit_lists.proofs.lemmas.BitsLemmas.{length-bits_of}
use Rattle.bit_lists.proofs.lemmas.CountLemmas.{ones_before-bits_of_stretch, ones_before_past}
use Rattle.bit_lists.specs.Bits.{bits_of}
use Rattle.bit_lists.specs.Count.{ones_before, ones_of}
use Rattle.bitm_tables.proofs.lemmas.StretchLemmas.{ones_before-between, ones_before-most}
use Rattle.bitm_tables.specs.Entry.{packed_counts, before_in_part, lower_entry}

-- a record of eight words has at most 512 ones
pub ones_of_record-most : (b : List Bool) (first n : ℕ) → ones_before b (64 * first) + n ≡ ones_before b (64 * (first + 8))
    → n ≤ 512
ones_of_record-most b first n is =
    let e : 64 * first + 512 ≡ 64 * (first + 8) = omega arith in
    omega (arith, is, ones_before-most b (64 * first) 512, ap (ones_before b) e)

-- a word past the end counts as the end
pub ones_before_capped : (words : List ℕ) (k : ℕ) → ones_before (bits_of words) (64 * min (length words) k) ≡ ones_before (bits_of words) (64 * k)
ones_before_capped words k =
    let b = bits_of words in
    ⊎_elim
    (λ inside. let e : 64 * min (length words) k ≡ 64 * k = omega arith in ap (ones_before b) e)
    (λ past.
    let e : 64 * min (length words) k ≡ length b = omega (arith, length-bits_of words) in
    omega (arith, ap (ones_before b) e, ones_before_past b (64 * k) (omega (arith, length-bits_of words))))
    (cases_lt k (length words))

-- the ones of the words from a position to a later one, or of what is left of them
pub ones_between_words : (words part : List ℕ) (a z : ℕ) → a ≤ z → ((j : ℕ) → get_or words j 0 < 2 ^ 64)
    → part ≡ take (min (length words) z - min (length words) a) (drop (min (length words) a) words)
    → ones_before (bits_of words) (64 * a) + ones_of (bits_of part) ≡ ones_before (bits_of words) (64 * z)
ones_between_words words part a z order fit is =
    let b = bits_of words in
    let from = min (length words) a in
    let to = min (length words) z in
    let stretch = ones_before-bits_of_stretch words from (to - from) (omega arith) fit in
    let there = ap (λ p. ones_of (bits_of p)) is in
    let e : 64 * (from + (to - from)) ≡ 64 * to = omega arith in
    omega (arith, stretch, there, ap (ones_before b) e, ones_before_capped words a, ones_before_capped words z)

-- ---- entries

-- the ones counted since the part began are those that its entry keeps
pub counted_in_part : (b : List Bool) (part at n : ℕ) → part * 2 ^ 21 ≤ at → at < (part + 1) * 2 ^ 21
    → ones_before b (part * 2 ^ 32) + n ≡ ones_before b (2048 * at) → n ≡ before_in_part b at
counted_in_part b part at n from to is =
    let e : at / 2 ^ 21 ≡ part = omega arith in
    omega (arith, is, ap (λ k. ones_before b (k * 2 ^ 32)) e)

-- an entry made of the ones of its records, of which each has at most 512
pub record CountsRecords (b : List Bool) (at one two three all : ℕ) : Type 0 where
  pub entry : packed_counts (before_in_part b at) one two three ≡ lower_entry b at
  pub ones : ones_before b (2048 * at) + all ≡ ones_before b (2048 * (at + 1))

module _ (b : List Bool) (at w x y z : ℕ) (first : ones_before b (64 * (at * 32)) + w ≡ ones_before b (64 * (at * 32 + 8)))
    (second : ones_before b (64 * (at * 32 + 8)) + x ≡ ones_before b (64 * (at * 32 + 8 + 8)))
    (third : ones_before b (64 * (at * 32 + 16)) + y ≡ ones_before b (64 * (at * 32 + 16 + 8)))
    (fourth : ones_before b (64 * (at * 32 + 24)) + z ≡ ones_before b (64 * (at * 32 + 24 + 8))) where
  to_position : (n m : ℕ) → n ≡ m → ones_before b n ≡ ones_before b m
  to_position n m e = ap (ones_before b) e

  one_record : ones_before b (2048 * at) + w ≡ ones_before b (2048 * at + 512 * 1)
  one_record = omega (arith, first, to_position (64 * (at * 32)) (2048 * at) (omega arith), to_position (64 * (at * 32 + 8)) (2048 * at + 512 * 1) (omega arith))

  two_records : ones_before b (2048 * at) + (w + x) ≡ ones_before b (2048 * at + 512 * 2)
  two_records =
      let from : ones_before b (64 * (at * 32 + 8)) ≡ ones_before b (2048 * at + 512 * 1) = to_position _ _ (omega arith) in
      omega (arith, one_record, second, from, to_position (64 * (at * 32 + 8 + 8)) (2048 * at + 512 * 2) (omega arith))

  three_records : ones_before b (2048 * at) + (w + x + y) ≡ ones_before b (2048 * at + 512 * 3)
  three_records =
      let from : ones_before b (64 * (at * 32 + 16)) ≡ ones_before b (2048 * at + 512 * 2) = to_position _ _ (omega arith) in
      omega (arith, two_records, third, from, to_position (64 * (at * 32 + 16 + 8)) (2048 * at + 512 * 3) (omega arith))

  four_records : ones_before b (2048 * at) + (w + x + y + z) ≡ ones_before b (2048 * (at + 1))
  four_records =
      let from : ones_before b (64 * (at * 32 + 24)) ≡ ones_before b (2048 * at + 512 * 3) = to_position _ _ (omega arith) in
      omega (arith, three_records, fourth, from, to_position (64 * (at * 32 + 24 + 8)) (2048 * (at + 1)) (omega arith))

  pub counts_records : CountsRecords b at w (w + x) (w + x + y) (w + x + y + z)
  counts_records = record { entry = omega (arith, one_record, two_records, three_records); ones = four_records }

-- an entry that is counted is begun
pub entry_begun : (n at : ℕ) → at < div_ceil n 32 → 32 * at < n
entry_begun n at h = grind arith

-- ---- parts

-- n words have as many parts as their bits, and as many entries
pub parts_of_words : (n : ℕ) → div_ceil n (2 ^ 26) ≡ div_ceil (64 * n) (2 ^ 32)
parts_of_words n = grind arith

pub entries_of_words : (n : ℕ) → div_ceil n 32 ≡ div_ceil (64 * n) 2048
entries_of_words n = grind arith

all_entries : (n : ℕ) → n ≤ 32 * div_ceil n 32
all_entries n = grind arith

-- the ones up to the last entry of a part are those up to the next part
pub part_ended : (words : List ℕ) (part e : ℕ) → e ≡ min (div_ceil (length words) 32) ((part + 1) * 2 ^ 21)
    → ones_before (bits_of words) (2048 * e) ≡ ones_before (bits_of words) ((part + 1) * 2 ^ 32)
part_ended words part e is =
    let b = bits_of words in
    ⊎_elim
    (λ last.
    let all : length words ≤ 32 * div_ceil (length words) 32 = all_entries (length words) in
    omega (
      arith,
      ones_before_past b (2048 * e) (omega (arith, length-bits_of words)),
      ones_before_past b ((part + 1) * 2 ^ 32) (omega (arith, length-bits_of words)),
    ))
    (λ whole. let same : 2048 * e ≡ (part + 1) * 2 ^ 32 = omega arith in ap (ones_before b) same)
    (cases_lt (div_ceil (length words) 32) ((part + 1) * 2 ^ 21))

-- the ones before an entry in its part fit 32 bits
pub before_in_part-lt : (b : List Bool) (at : ℕ) → before_in_part b at < 2 ^ 32
before_in_part-lt b at =
    let h = ones_before-between b ((at / 2 ^ 21) * 2 ^ 32) (2048 * at) (omega arith) in
    omega arith

-- a part that is begun has its first entry
pub part_begun : (n part : ℕ) → part * 2 ^ 26 < n → part * 2 ^ 21 < div_ceil n 32
part_begun n part h = grind arith

-- a part that is counted is begun
pub part_counted : (n part : ℕ) → part < div_ceil n (2 ^ 26) → part * 2 ^ 26 < n
part_counted n part h = grind arith

-- the parts have all words and all entries
pub all_parts : (n parts : ℕ) → parts ≡ div_ceil n (2 ^ 26) → 64 * n ≤ parts * 2 ^ 32
all_parts n parts is = grind arith

pub all_entries_made : (n parts : ℕ) → parts ≡ div_ceil n (2 ^ 26) → min (div_ceil n 32) (parts * 2 ^ 21) ≡ div_ceil n 32
all_entries_made n parts is = grind arith

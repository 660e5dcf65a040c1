-- What the lengths of the tables claim, whatever they hold.
use Rattle.std.proofs.Common.{ℕ, ◌+◌, ◌*◌, ◌^◌, ◌<◌, length, arith}
use Rattle.std.specs.Int.{div_ceil}
use Rattle.bit_lists.proofs.lemmas.BitsLemmas.{length-bits_of}
use Rattle.bit_lists.specs.Bits.{IsShort}
use Rattle.bitm_tables.specs.Tables.{HasSizes, HasTables, Lists}
use Rattle.bitm_tables.proofs.lemmas.TableLemmas.{entries}

-- tables of the words are as long as theirs
pub sizes_of : (l : Lists) → HasTables l → IsShort l.words → HasSizes l
sizes_of l t short =
    let e = entries _ _ _ t in
    record {
      short = short;
      upper_len = omega (arith, e.upper_length, length-bits_of l.words);
      lower_len = omega (arith, e.lower_length, length-bits_of l.words);
    }

-- a part has a first entry
first_entry : (n part : ℕ) → part < div_ceil n (2 ^ 26) → part * 2 ^ 21 < div_ceil n 32
first_entry n part h = grind arith

pub first_of_part : (l : Lists) → HasSizes l → (part : ℕ) → part < length l.upper → part * 2 ^ 21 < length l.lower
first_of_part l s part h = omega (arith, s.lower_len, first_entry (length l.words) part (omega (arith, h, s.upper_len)))

-- a lower entry begins within the words
begun : (n at : ℕ) → at < div_ceil n 32 → 32 * at < n
begun n at h = grind arith

-- so many lower entries have few words
few : (n : ℕ) → n < 2 ^ 58 → div_ceil n 32 * 32 + 32 < 2 ^ 60
few n h = grind arith

pub few_entries : (l : Lists) → HasSizes l → length l.lower * 32 + 32 < 2 ^ 60
few_entries l s = omega (arith, s.lower_len, few (length l.words) s.short)

-- What tables claim is what stands in the bits where they are right, and what a search says of the end where
-- they may hold anything.
use Rattle.std.proofs.Common.{inl, inr, List, [], ◌∷◌, ◌≡◌, ◌≢◌, ℕ, zero, suc, ◌+◌, ◌-◌, ◌*◌, ◌%◌, ◌^◌, ◌<◌, ◌≤◌, Bool, true, false, length, ap, sym, ◌∙◌, subst, arith, refl}
use Rattle.bit_lists.specs.Bits.{bits_of}
use Rattle.bit_lists.specs.Count.{as_bit, ones_before, count_before, count_of}
use Rattle.bit_lists.proofs.BitLaws.{counts_grow, ones_and_zeros}
use Rattle.bit_lists.proofs.lemmas.BitsLemmas.{length-bits_of}
use Rattle.std.proofs.lemmas.Bool.{cases_lt}
use Rattle.bitm_tables.specs.Entry.{FieldsFit, greatest_entry, lower_entry, record_field, entries_from, less}
use Rattle.bitm_select.specs.Search.{entry_in, sought_bits, sought_in, IsLastEntry, IsLastFound}
use Rattle.bitm_tables.specs.Tables.{HasSizes, HasTables, Lists}
use Rattle.bitm_select.specs.Claims.{count_from_word, claimed_entry, claimed_part, claimed_to, EntryClaimsNone, ClaimsNone}
use Rattle.bitm_tables.specs.Answers.{IfAbsent}
use Rattle.bitm_tables.specs.declared.answer.Answer.{Answer}
use Rattle.bitm_tables.specs.declared.answer.Answer.TheVariants.{Found, Absent, Wrong}
use Rattle.bitm_tables.proofs.lemmas.EntryLemmas.{entry-fits, entry-complement}
use Rattle.bitm_select.proofs.lemmas.MarkLemmas.{as_bit_other, none_in_nothing, ones_before-sought_bits, zeros_before-sought_bits}
use Rattle.bitm_select.proofs.lemmas.SoughtLemmas.{entry_ones, entry_zeros}
use Rattle.bitm_tables.proofs.lemmas.LengthLemmas.{first_of_part}
use Rattle.bitm_tables.proofs.lemmas.TableLemmas.{entries}

-- the number that is reported, by the kind that the code tests
pub claimed_zeros : (bit : ℕ) (lists : Lists) (at : ℕ) → bit ≡ 0 → claimed_entry (as_bit bit) lists at ≡ claimed_entry false lists at
claimed_zeros bit lists at h = ap (λ (n : ℕ). claimed_entry (as_bit n) lists at) h

pub claimed_ones : (bit : ℕ) (lists : Lists) (at : ℕ) → bit ≢ 0 → claimed_entry (as_bit bit) lists at ≡ claimed_entry true lists at
claimed_ones bit lists at h = ap (λ (v : Bool). claimed_entry v lists at) (as_bit_other bit h)

pub part_zeros_claimed : (bit : ℕ) (lists : Lists) (at : ℕ) → bit ≡ 0 → claimed_part (as_bit bit) lists at ≡ claimed_part false lists at
part_zeros_claimed bit lists at h = ap (λ (n : ℕ). claimed_part (as_bit n) lists at) h

pub part_ones_claimed : (bit : ℕ) (lists : Lists) (at : ℕ) → bit ≢ 0 → claimed_part (as_bit bit) lists at ≡ claimed_part true lists at
part_ones_claimed bit lists at h = ap (λ (v : Bool). claimed_part v lists at) (as_bit_other bit h)

-- where no field is too great the difference is that of each field
fits_less : (e at : ℕ) → FieldsFit e at → less (greatest_entry at) e ≡ greatest_entry at - e
fits_less e at fit = omega (arith, fit.before, fit.one, fit.two, fit.three)

-- where the tables are right the entry that is reported is that of the bits
pub claimed_is : (bit : ℕ) (lists : Lists) (at : ℕ) → HasTables lists → at < length lists.lower
    → claimed_entry (as_bit bit) lists at ≡ lower_entry (sought_in bit lists.words) at
claimed_is zero lists at t h =
    let b = bits_of lists.words in
    let e = (entries _ _ _ t).lower_is at h in
    ap (less (greatest_entry at)) e
    ∙ fits_less (lower_entry b at) at (entry-fits b at)
    ∙ entry-complement b at (omega (arith, (entries _ _ _ t).lower_length, h))
    ∙ entry_zeros b at 0 (refl {A = ℕ})
claimed_is (suc n) lists at t h =
    (entries _ _ _ t).lower_is at h ∙ entry_ones (bits_of lists.words) at (suc n) (λ e. absurd (omega (arith, e)))

-- what a search for an entry finds, by what it is asked to pack
pub last_found : (bit : ℕ) (lists : Lists) → HasSizes lists → (part r : ℕ) → part < length lists.upper → (found : ℕ × ℕ)
    → found.0 < entries_from (length lists.lower) part
    → (HasTables lists → IsLastEntry (sought_in bit lists.words) (length lists.lower) part r found.0)
    → found.1 ≡ claimed_entry (as_bit bit) lists (entry_in part found.0) → IsLastFound bit lists part r found
last_found bit lists sized part r there found inside last claimed =
    record {
      inside = inside;
      last = last;
      entry = λ t. claimed ∙ claimed_is bit lists (entry_in part found.0) t (omega (arith, inside, first_of_part lists sized part there));
      claimed = claimed;
    }

-- ---- where Absent is answered

-- what stands from a word on is what a count that begins there leaves
pub from_word : (words : List ℕ) (v : Bool) (k r : ℕ) → count_of (bits_of words) v ≤ ones_before (sought_bits v (bits_of words)) (64 * k) + r
    → count_of (bits_of words) v - count_before (bits_of words) v (64 * k) ≤ r
from_word words true k r le = omega (arith, le, ones_before-sought_bits (bits_of words) (64 * k))
from_word words false k r le =
    let b = bits_of words in
    elim (cases_lt (length b) (64 * k)) [
      | inl past ↦ omega (arith, counts_grow b false (length b) (64 * k) (omega (arith, past)))
      | inr inside ↦ omega (arith, le, zeros_before-sought_bits b (64 * k) inside, ones_and_zeros b (64 * k) inside)
    ]

-- an entry claims none where its last record, by what the fields leave of the rank, has none
pub entry_none : (lists : Lists) (v : Bool) (at e r k left : ℕ) → k < 4 → claimed_to e k + left ≤ r → (s : Answer ℕ)
    → IfAbsent s (length lists.words ≤ at * 32 + k * 8 + 8)
    → IfAbsent s (count_of (bits_of lists.words) v ≤ ones_before (sought_bits v (bits_of lists.words)) (64 * (at * 32 + k * 8)) + left)
    → IfAbsent s (EntryClaimsNone v lists at e r)
entry_none lists v at e r k left inside le (Found p) last is = tt
entry_none lists v at e r k left inside le Wrong last is = tt
entry_none lists v at e r k left inside le Absent last is =
    let here : at * 32 + k * 8 ≡ 32 * at + 8 * k = omega arith in
    let none = subst (λ (n : ℕ). count_from_word lists v n ≤ left) here (from_word lists.words v (at * 32 + k * 8) left is) in
    record { k = k; inside = inside; last = omega (arith, last); count = omega (arith, none, le) }

-- no word stands behind the last entry of the last part, so what it shows is what the tables claim
pub all_none : (lists : Lists) (v : Bool) → HasSizes lists → (part entry packed in_part rank : ℕ) → part < length lists.upper
    → entry < entries_from (length lists.lower) part → packed ≡ claimed_entry v lists (entry_in part entry)
    → in_part ≡ less rank (claimed_part v lists part) → claimed_part v lists part < 2 ^ 64 → rank < 2 ^ 64 → in_part ≤ rank
    → (s : Answer ℕ) → IfAbsent s (EntryClaimsNone v lists (entry_in part entry) packed in_part) → IfAbsent s (ClaimsNone v lists rank)
all_none lists v sized part entry packed in_part rank below inside is rest fits small le (Found p) none = tt
all_none lists v sized part entry packed in_part rank below inside is rest fits small le Wrong none = tt
all_none lists v sized part entry packed in_part rank below inside is rest fits small le Absent none =
    let at = entry_in part entry in
    let last : length lists.lower - 1 ≡ at = omega (arith, sized.lower_len, inside, none.last, none.inside) in
    let part_is : length lists.upper - 1 ≡ part = omega (arith, sized.upper_len, sized.lower_len, below, inside, none.last, none.inside) in
    let count : claimed_to (claimed_entry v lists at) none.k + count_from_word lists v (32 * at + 8 * none.k) ≤ in_part =
    subst (λ (e : ℕ). claimed_to e none.k + count_from_word lists v (32 * at + 8 * none.k) ≤ in_part) is none.count in
    let total : (claimed_part v lists part + claimed_to (claimed_entry v lists at) none.k) % 2 ^ 64 + count_from_word lists v (32 * at + 8 * none.k) ≤ rank =
    omega (arith, count, rest, fits, small, le) in
    record {
      k = none.k;
      inside = none.inside;
      last = omega (arith, none.last, last);
      count =
          subst
          (λ (p : ℕ).
          (claimed_part v lists p + claimed_to (claimed_entry v lists (length lists.lower - 1)) none.k) % 2 ^ 64
          + count_from_word lists v (32 * (length lists.lower - 1) + 8 * none.k) ≤ rank)
          (sym part_is)
          (subst
          (λ (a : ℕ).
          (claimed_part v lists part + claimed_to (claimed_entry v lists a) none.k) % 2 ^ 64 + count_from_word lists v (32 * a + 8 * none.k) ≤ rank)
          (sym last) total);
    }

-- a count of records is less than 2^11
pub few_in_records : (e k : ℕ) → e < 2 ^ 64 → record_field e k < 2 ^ 11
few_in_records e zero fits = omega arith
few_in_records e (suc zero) fits = omega (arith, fits)
few_in_records e (suc (suc zero)) fits = omega arith
few_in_records e (suc (suc (suc k))) fits = omega arith

-- what is left of a rank after two differences, where neither wrapped
pub left_of : (rank to before : ℕ) → to < 2 ^ 32 → before < 2 ^ 11
    → ((rank + (2 ^ 64 - to)) % 2 ^ 64 + (2 ^ 64 - before)) % 2 ^ 64 ≤ rank → rank < 2 ^ 64
    → to + before + ((rank + (2 ^ 64 - to)) % 2 ^ 64 + (2 ^ 64 - before)) % 2 ^ 64 ≤ rank
left_of rank to before few small le fits = omega (arith, few, small, le, fits)

-- a content of no words claims none
nothing_in : (ws us ls : List ℕ) (v : Bool) (r : ℕ) → length ws ≡ 0 → length us ≡ 0 → length ls ≡ 0
    → ClaimsNone v (record { words = ws; upper = us; lower = ls }) r
nothing_in [] [] [] true r w u l =
    record { k = 0; inside = omega arith; last = omega arith; count = omega (arith, none_in_nothing (bits_of []) true 0 (omega (arith, length-bits_of []))) }
nothing_in [] [] [] false r w u l =
    record { k = 0; inside = omega arith; last = omega arith; count = omega (arith, none_in_nothing (bits_of []) false 0 (omega (arith, length-bits_of []))) }
nothing_in (x ∷ ws) us ls v r w u l = absurd (omega (arith, w))
nothing_in [] (x ∷ us) ls v r w u l = absurd (omega (arith, u))
nothing_in [] [] (x ∷ ls) v r w u l = absurd (omega (arith, l))

pub nothing_tells : (lists : Lists) (v : Bool) (r : ℕ) → HasSizes lists → length lists.upper ≡ 0 → ClaimsNone v lists r
nothing_tells lists v r sized none =
    nothing_in lists.words lists.upper lists.lower v r (omega (arith, sized.upper_len, none)) none (omega (arith, sized.upper_len, sized.lower_len, none))

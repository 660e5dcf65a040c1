-- Tables that are filled item by item.
use Rattle.std.proofs.Common.{◌≡◌, ℕ, ◌+◌, ◌*◌, ◌^◌, ◌<◌, List, length, slice_set, sym, ◌∙◌, arith}
use Rattle.std.proofs.lemmas.List.{ext_get_or}
use Rattle.bit_lists.proofs.lemmas.BitsLemmas.{length-bits_of}
use Rattle.bit_lists.specs.Bits.{bits_of}
use Rattle.bit_lists.specs.Count.{ones_before}
use Rattle.bit_words.proofs.lemmas.PositionLemmas.{placed_more}
use Rattle.bitm_tables.specs.Entry.{lower_entry}
use Rattle.bitm_tables.specs.Tables.{AreTablesOf, HasSizes, lower_of, upper_of}
use Rattle.bitm_tables.proofs.lemmas.TableLemmas.{length-upper_of, length-lower_of, get_or-upper_of, get_or-lower_of}
use Rattle.bitm_tables.proofs.lemmas.TableMakingLemmas.{parts_of_words, entries_of_words}
use Rattle.tables_view.specs.Sizes.{IsFilled, lists_of}

-- one more item
pub filled_more : (f : ℕ → ℕ) (xs : List ℕ) (n y : ℕ) → IsFilled f xs n → n < length xs → y ≡ f n → IsFilled f (slice_set xs n y) (n + 1)
filled_more f = placed_more (λ j x. x ≡ f j)

-- whole tables
pub tables_filled : (words upper lower : List ℕ) → HasSizes (lists_of words upper lower)
    → IsFilled (λ k. ones_before (bits_of words) (k * 2 ^ 32)) upper (length upper)
    → IsFilled (lower_entry (bits_of words)) lower (length lower) → AreTablesOf (bits_of words) upper lower
tables_filled words upper lower s up low =
    let b = bits_of words in
    let l = length-bits_of words in
    let many : length upper ≡ length (upper_of b) = omega (arith, s.upper_len, length-upper_of b, parts_of_words (length words), l) in
    let most : length lower ≡ length (lower_of b) = omega (arith, s.lower_len, length-lower_of b, entries_of_words (length words), l) in
    record {
      upper_is = ext_get_or 0 upper (upper_of b) many (λ i h. up i h ∙ sym (get_or-upper_of b i 0 (omega (arith, h, many, length-upper_of b))));
      lower_is = ext_get_or 0 lower (lower_of b) most (λ i h. low i h ∙ sym (get_or-lower_of b i 0 (omega (arith, h, most, length-lower_of b))));
    }

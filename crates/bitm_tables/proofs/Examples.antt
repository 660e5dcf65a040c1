-- The numbers that the doc of RankSelect101111 names, and entries that were worked out by hand.
use Rattle.std.proofs.Common.{◌≡◌, ◌+◌, ◌-◌, ◌*◌, ◌^◌, [], ◌∷◌, refl}
use Rattle.bit_lists.specs.Bits.{bits_of}
use Rattle.bit_lists.specs.Count.{ones_before}
use Rattle.bitm_tables.specs.Entry.{packed_counts, greatest_entry, lower_entry, field_0, field_1, field_2, field_3}

greatest_before_an_entry : 2 ^ 32 - 2048 ≡ (2 ^ 21 - 1) * 2048
greatest_before_an_entry = refl

greatest_fields : packed_counts 0 512 1024 1536 ≡ 0x8020_0600_0000_0000
greatest_fields = refl

last_sum_repeats : packed_counts 0 3 3 3 ≡ 0x00C0_1803_0000_0000
last_sum_repeats = refl

entry_of_one_word : lower_entry (bits_of (13 ∷ [])) 0 ≡ 0x00C0_1803_0000_0000
unfolding bits_of ones_before
entry_of_one_word = refl

complement_of_one_word : greatest_entry 0 - 0x00C0_1803_0000_0000 ≡ 0x7F5F_EDFD_0000_0000
complement_of_one_word = refl

complement_of_a_second_entry : greatest_entry 1 - 0x0601_8048_0000_0060 ≡ 0x7A1E_85B8_0000_07A0
complement_of_a_second_entry = refl

complement_claims_missing_zeros : greatest_entry 1 - 0x1002_0040_0000_0800 ≡ 0x701E_05C0_0000_0000
complement_claims_missing_zeros = refl

fields_of_the_first_complement : field_1 0x7F5F_EDFD_0000_0000 ∷ field_2 0x7F5F_EDFD_0000_0000 ∷ field_3 0x7F5F_EDFD_0000_0000 ∷ field_0 0x7F5F_EDFD_0000_0000 ∷ [] ≡ 509 ∷ 1021 ∷ 1533 ∷ 0 ∷ []
fields_of_the_first_complement = refl

fields_of_missing_zeros : field_1 0x701E_05C0_0000_0000 ∷ field_2 0x701E_05C0_0000_0000 ∷ field_3 0x701E_05C0_0000_0000 ∷ field_0 0x701E_05C0_0000_0000 ∷ [] ≡ 448 ∷ 960 ∷ 1472 ∷ 0 ∷ []
fields_of_missing_zeros = refl

fields_of_a_complement : field_1 0x7A1E_85B8_0000_07A0 ∷ field_2 0x7A1E_85B8_0000_07A0 ∷ field_3 0x7A1E_85B8_0000_07A0 ∷ field_0 0x7A1E_85B8_0000_07A0 ∷ [] ≡ 488 ∷ 976 ∷ 1464 ∷ 1952 ∷ []
fields_of_a_complement = refl

distance_is_capped : 0 + 2047 * 2 ^ 21 ≡ 0xFFE0_0000
distance_is_capped = refl

-- An unmasked read has the bits lowest.
use Rattle.std.proofs.Common.{◌≡◌, ℕ, ◌-◌, ◌^◌, ◌≤◌, List, Option, None, Some, MatchOption, SomeIff, ap, ◌∙◌, bit_and}
use Rattle.bit_lists.specs.Bits.{bits_of}
use Rattle.bit_lists.specs.Number.{number_at, IsInRange}
use Rattle.bit_lists.specs.Window.{reach_of}
use Rattle.bit_lists.proofs.lemmas.ReadLemmas.{number_at_masked, reach_of_room}
use Rattle.bit_words.proofs.reading.try_wide_bits.Goals as goal

lowest : (words : List ℕ) (s n : ℕ) (o : Option ℕ) → n ≤ 64 → SomeIff o (IsInRange words s n) (number_at (bits_of words) s (reach_of s n))
    → MatchOption o (IsInRange words s n → ⊥) (λ wide. IsInRange words s n × (bit_and wide (2 ^ n - 1) ≡ number_at (bits_of words) s n))
lowest words s n None small h = h
lowest words s n (Some wide) small h =
    let room = reach_of_room words s n h.0 small in
    (h.0, ap (λ x. bit_and x (2 ^ n - 1)) h.1 ∙ number_at_masked words s (reach_of s n) n room.0 h.0.1)

pub returns-then-words-gt-WORDS_READ_IN_PAIRS : goal.returns-then-words-gt-WORDS_READ_IN_PAIRS
returns-then-words-gt-WORDS_READ_IN_PAIRS c =
    lowest c.args.words.now c.args.begin c.args.len c.try_get_bits_unmasked.result c.requires c.try_get_bits_unmasked.ensures

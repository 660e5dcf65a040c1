-- What is written for strings is their block.
use Rattle.std.proofs.Common.{◌≡◌, ℕ, ◌+◌, ◌-◌, ◌<◌, List, [], ◌∷◌, ◌++◌, length, get_or, slice_index, Some, inl, refl, sym, ap, ◌∙◌, subst, arith}
use Rattle.std.proofs.lemmas.List.{append-nil}
use Rattle.std.specs.Int.{div_ceil}
use Rattle.bitm_tables.specs.Tables.{bits_in}
use Rattle.bit_lists.specs.Count.{ones_of}
use Rattle.bitm_block.proofs.PartsLemmas.{count_is, entry_is, laid, part, part_is, section_is, HaveLengths, Part}
use Rattle.bitm_block.specs.Header.{section_in}
use Rattle.bitm_block.specs.Layout.{head_of, part_in}
use Rattle.bitm_block.specs.Written.{IsSealed}
use Rattle.bitm_block.specs.declared.head.Head.{Head}
use Rattle.bitm_block.specs.declared.layout.Section.{Section}
use Rattle.perfect_hash.specs.Numbers.{number_by}
use Rattle.hash_block.specs.Block.{hash_in, IsHashBlock}
use Rattle.hash_block.specs.Parts.{HashParts}
use Rattle.hash_block.specs.StringsBlock.{sections_for, string_head, strings_in, AreFewOf, AreStringPartsOf, IsBlockOf, NumberStrings, StandsIn, StringsRoundTrip}
use Rattle.hash_block.specs.Bytes.{stored_from, AreZeroBytesFrom}
use Rattle.hash_block.specs.Given.{given, len_of, StandsAtNumber}
use Rattle.hash_block.specs.StringsParts.{given_number, start_of, string_number, string_number_in, AreStrings, HasStringStarts, IsOwn, IsString, StringParts}
use Rattle.hash_block.specs.SipHash.{hash_of}
use Rattle.hash_block.proofs.ViewLemmas.{only_found, same_number}

-- the parts of these sections
abbrev parts_of : List ℕ → List ℕ → List ℕ → StringParts
parts_of hash_block starts words = record { kind = 12; hash = hash_in hash_block; starts = starts; bytes = words }

-- parts that are written one after another stand where the sections of the strings are
pub stands : (hash : HashParts) (bytes ends head hash_block gap starts gap2 words tail : List ℕ) → length head ≡ 32
    → HaveLengths (sections_for hash bytes ends) (part hash_block gap ∷ part starts gap2 ∷ part words tail ∷ [])
    → AreStringPartsOf hash bytes ends hash_block starts words
    → StandsIn hash bytes ends (head ++ ((hash_block ++ gap) ++ ((starts ++ gap2) ++ (words ++ tail))))
stands hash bytes ends head hash_block gap starts gap2 words tail head_len lens are =
    let ss = sections_for hash bytes ends in
    let ps : List Part = part hash_block gap ∷ part starts gap2 ∷ part words tail ∷ [] in
    let all : List ℕ = head ++ laid ps in
    let whole : all ≡ head ++ ((hash_block ++ gap) ++ ((starts ++ gap2) ++ (words ++ tail))) =
    ap (λ z. head ++ ((hash_block ++ gap) ++ ((starts ++ gap2) ++ z))) (append-nil (words ++ tail)) in
    let from : head_of (length ss) ≡ length head = omega (arith, head_len) in
    let at : (i : ℕ) → i < 3 → (get_or ps i (part [] [])).words ≡ part_in ss all i = λ i less. sym (part_is ss ps head i lens from less) in
    subst (StandsIn hash bytes ends) whole
    (subst (λ (h : List ℕ). AreStringPartsOf hash bytes ends h (part_in ss all 1) (part_in ss all 2)) (at 0 (omega arith))
    (subst (λ (s : List ℕ). AreStringPartsOf hash bytes ends hash_block s (part_in ss all 2)) (at 1 (omega arith))
    (subst (λ (w : List ℕ). AreStringPartsOf hash bytes ends hash_block starts w) (at 2 (omega arith)) are)))

module _ (hash : HashParts) (bytes ends hash_block starts words : List ℕ) (few : AreFewOf hash bytes ends) (number : NumberStrings hash bytes ends)
    (are : AreStringPartsOf hash bytes ends hash_block starts words)
  where
    -- the hash in the block has the numbers of the one that was given
    pub numbers_are : (string : ℕ → ℕ) (len : ℕ) → string_number (hash_in hash_block) string len ≡ string_number hash string len
    numbers_are string len =
        let h = hash_in hash_block in
        ap (λ (s : List ℕ). number_by s (bits_in h.lists) (hash_of h.seed string len)) are.hash_is.sizes_are
        ∙ ap (λ b. number_by hash.sizes b (hash_of h.seed string len)) are.hash_is.bits
        ∙ ap (λ (s : ℕ). number_by hash.sizes (bits_in hash.lists) (hash_of s string len)) are.hash_is.seed_is

    pub keys_are : (hash_in hash_block).keys ≡ length ends
    keys_are = sym are.hash_is.sound.hash.ones ∙ ap ones_of are.hash_is.bits ∙ number.is_hash.ones ∙ number.keys

    last_is : start_of (parts_of hash_block starts words) (hash_in hash_block).keys ≡ length bytes
    last_is = ap (slice_index starts) keys_are ∙ are.stored.last

    own_at : (v : ℕ) → v < length ends → IsOwn (parts_of hash_block starts words) v
    own_at v less =
        let at = are.stored.each v less in
        let i = at.0 in
        let here = at.3 in
        record {
          rise = omega (arith, here.len);
          within = omega (arith, here.inside, ap (slice_index starts) keys_are);
          own =
              same_number (parts_of hash_block starts words) (stored_from words (slice_index starts v)) (given bytes ends i)
              (slice_index starts (v + 1) - slice_index starts v) (len_of ends i) (omega (arith, here.len))
              (λ j j_less. here.same j (omega (arith, j_less, here.len)))
              ∙ numbers_are (given bytes ends i) (len_of ends i)
              ∙ at.2;
        }

    pub are_strings : AreStrings (parts_of hash_block starts words)
    are_strings = record {
      hash = are.hash_is.sound.hash;
      first = are.stored.first;
      full = record {
        tight = are.tight ∙ ap (λ n. div_ceil n 8) (sym last_is);
        padding = subst (λ (n : ℕ). AreZeroBytesFrom words n) (sym last_is) are.stored.padding;
      };
      each = λ v less. own_at v (omega (arith, less, keys_are));
    }

    pub has_starts : HasStringStarts (parts_of hash_block starts words)
    has_starts = record {
      kind = inl refl;
      lengths = are.hash_is.sound.hash_block.lengths;
      count = omega (arith, are.count, keys_are);
      short = omega (arith, are.tight, few.bytes_few);
    }

    -- each string that was given stands at its number
    pub stands_at : (i v : ℕ) → i < length ends → given_number hash bytes ends i ≡ Some v
        → IsString (parts_of hash_block starts words) v (given bytes ends i) (len_of ends i)
    stands_at i v inside is =
        let below = number.numbers.below i v inside is in
        let at = are.stored.each v below in
        let same : at.0 ≡ i = number.numbers.apart at.0 i v at.1 inside at.2 is in
        let here : StandsAtNumber bytes ends starts words i v = subst (λ (k : ℕ). StandsAtNumber bytes ends starts words k v) same at.3 in
        record {
          below = omega (arith, below, keys_are);
          inside = omega (arith, here.inside, are.stored.last, are.tight);
          len_is = here.len;
          same = here.same;
        }

-- a sealed block whose sections hold the strings is their block
pub block_is : (hash : HashParts) (bytes ends old new : List ℕ) → AreFewOf hash bytes ends → NumberStrings hash bytes ends
    → IsSealed (string_head (length ends)) (sections_for hash bytes ends) old new → StandsIn hash bytes ends old
    → IsBlockOf (string_number hash) bytes ends new
block_is hash bytes ends old new few number sealed are =
    let n = length ends in
    let ss = sections_for hash bytes ends in
    let head : Head = string_head n in
    let hash_block = part_in ss old 0 in
    let starts = part_in ss old 1 in
    let words = part_in ss old 2 in
    let at : (i : ℕ) → i < 3 → section_in new i ≡ part_in ss old i = λ i less. section_is head ss old new sealed i less in
    let kind : slice_index new 1 ≡ 12 = ap (λ (h : Head). h.kind) sealed.head_is in
    let parts : strings_in new ≡ parts_of hash_block starts words =
    ap (λ (k : ℕ). record { kind = k; hash = hash_in (section_in new 0); starts = section_in new 1; bytes = section_in new 2 }) kind
    ∙ ap (λ h. parts_of h (section_in new 1) (section_in new 2)) (at 0 (omega arith))
    ∙ ap (λ s. parts_of hash_block s (section_in new 2)) (at 1 (omega arith))
    ∙ ap (parts_of hash_block starts) (at 2 (omega arith)) in
    record {
      sound = record {
        string_block = record {
          is_block = sealed.is_block;
          sections = record {
            kind = inl kind;
            three = omega (arith, count_is head ss old new sealed);
            hash = ap (λ (s : Section). s.role) (entry_is head ss old new sealed 0 (omega arith));
            starts = ap (λ (s : Section). s.role) (entry_is head ss old new sealed 1 (omega arith));
            bytes = ap (λ (s : Section). s.role) (entry_is head ss old new sealed 2 (omega arith));
          };
          hash_block = subst (λ (h : List ℕ). IsHashBlock h) (sym (at 0 (omega arith))) are.hash_is.sound.hash_block;
          starts = subst (λ (p : StringParts). HasStringStarts p) (sym parts) (has_starts hash bytes ends hash_block starts words few number are);
          len =
              ap (λ (h : Head). h.len) sealed.head_is
              ∙ sym (keys_are hash bytes ends hash_block starts words few number are)
              ∙ ap (λ (p : StringParts). p.hash.keys) (sym parts);
        };
        verified = sealed.verified;
        strings = subst (λ (p : StringParts). AreStrings p) (sym parts) (are_strings hash bytes ends hash_block starts words few number are);
      };
      numbers = λ string len.
          ap (λ (p : StringParts). string_number_in p string len) parts
          ∙ numbers_are hash bytes ends hash_block starts words few number are string len;
      count = ap (λ (p : StringParts). p.hash.keys) parts ∙ keys_are hash bytes ends hash_block starts words few number are;
      all = λ i v less is.
          subst (λ (p : StringParts). IsString p v (given bytes ends i) (len_of ends i)) (sym parts)
          (stands_at hash bytes ends hash_block starts words few number are i v less is);
      only = number.numbers.onto;
    }

-- what was written is found again
pub round_trip : StringsRoundTrip
round_trip number bytes ends block is = (
  is.sound,
  λ i v answer less number_is found.
      only_found (strings_in block) (given bytes ends i) (len_of ends i) v answer is.sound.strings (is.all i v less number_is) found,
)

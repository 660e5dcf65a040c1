-- A hash in a block that is extended is that of before: plain, with seeds, or a dictionary.
use Rattle.std.proofs.Common.{◌≡◌, ◌⊎◌, ℕ, ◌+◌, ◌*◌, ◌<◌, ◌≤◌, List, length, slice_index, inl, inr, ⊎_elim, ap, sym, subst, ◌∙◌, arith}
use Rattle.std.proofs.lemmas.Bool.{cases_lt}
use Rattle.bitm_tables.specs.Tables.{bits_in, Lists}
use Rattle.bitm_block.specs.Header.{count_in, section_in}
use Rattle.bitm_block.specs.declared.head.Head.{Head}
use Rattle.bitm_block.specs.declared.layout.Section.{Section}
use Rattle.block_sections.proofs.ExtendLemmas.{count_is, entry_is, kind_kept}
use Rattle.block_sections.specs.Extended.{IsExtended}
use Rattle.block_tables.specs.Sections.{tables_in}
use Rattle.block_sections.proofs.KeptLemmas.{last_role, role_is, tables_are}
use Rattle.block_sections.specs.Hashes.{AddsKeys, KeepsDictionary, KeepsHash, KeepsSeeded}
use Rattle.hash_block.specs.Block.{hash_in, IsHashBlock, IsSoundBlock}
use Rattle.hash_block.specs.Dictionary.{dictionary_in, number_of_key, AreKeys, DictionaryParts, IsDictionaryBlock, IsDictionaryIn, IsSoundDictionary, StandAtNumbers}
use Rattle.hash_block.specs.Parts.{HashParts, HasLengths, IsHash}
use Rattle.hash_block.specs.SeededBlock as seeded
use Rattle.hash_block.specs.SeededParts.{HasSeeds, SeededParts}
use Rattle.hash_block.specs.Seeds.{seeds_of}

abbrev hash_with : Lists → List ℕ → ℕ → ℕ → HashParts
hash_with lists sizes keys seed = record { lists = lists; sizes = sizes; keys = keys; seed = seed }

abbrev dictionary_with : HashParts → List ℕ → DictionaryParts
dictionary_with hash keys = record { hash = hash; keys = keys }

abbrev seeded_with : HashParts → List ℕ → SeededParts
seeded_with hash seeds = record { hash = hash; seeds = seeds }

module _ (block : List ℕ) (added : Section) (words new : List ℕ) (is : IsExtended block added words new) where
  len_is : slice_index new 3 ≡ slice_index block 3
  len_is = ap (λ (h : Head). h.len) is.head_is

  -- the sizes are those of a section
  parts_are : (i : ℕ) → 3 ≤ count_in block → i < count_in block
      → hash_with (tables_in new) (section_in new i) (slice_index new 3) (slice_index new 8)
      ≡ hash_with (tables_in block) (section_in block i) (slice_index block 3) (slice_index block 8)
  parts_are i three less =
      ap (λ (h : Head). hash_with (tables_in new) (section_in new i) h.len h.a) is.head_is
      ∙ ap (λ t. hash_with t (section_in new i) (slice_index block 3) (slice_index block 8)) (tables_are block added words new is three)
      ∙ ap (λ s. hash_with (tables_in block) s (slice_index block 3) (slice_index block 8)) (is.kept i less)

  -- ---- plain
  pub hash_is : 4 ≤ count_in block → hash_in new ≡ hash_in block
  hash_is four = parts_are 3 (omega (arith, four)) (omega (arith, four))

  opened_hash : IsHashBlock block → IsHashBlock new
  opened_hash old =
      let four = old.sections.many in record {
        is_block = is.is_block;
        sections = kind_kept block added words new is _ _ old.sections;
        lengths = subst (λ (p : HashParts). HasLengths p) (sym (hash_is four)) old.lengths;
      }

  sound_hash : IsSoundBlock block → IsSoundBlock new
  sound_hash old = record {
    hash_block = opened_hash old.hash_block;
    verified = is.verified;
    hash = subst (λ (p : HashParts). IsHash p) (sym (hash_is old.hash_block.sections.many)) old.hash;
  }

  -- ---- dictionaries
  dictionary_is : 5 ≤ count_in block → dictionary_in new ≡ dictionary_in block
  dictionary_is five =
      ap (λ h. dictionary_with h (section_in new 4)) (hash_is (omega (arith, five)))
      ∙ ap (dictionary_with (hash_in block)) (is.kept 4 (omega (arith, five)))

  opened_dictionary : IsDictionaryBlock block → IsDictionaryBlock new
  opened_dictionary old = record {
    hash_block = opened_hash old.hash_block;
    five = omega (arith, old.five, count_is block added words new is);
    role = role_is block added words new is 4 (omega (arith, old.five)) ∙ old.role;
    len = ap length (is.kept 4 (omega (arith, old.five))) ∙ old.len ∙ sym len_is;
  }

  sound_dictionary : IsSoundDictionary block → IsSoundDictionary new
  sound_dictionary old = record {
    dictionary_block = opened_dictionary old.dictionary_block;
    verified = is.verified;
    dictionary = subst (λ (p : DictionaryParts). IsDictionaryIn p) (sym (dictionary_is old.dictionary_block.five)) old.dictionary;
  }

  pub keeps_dictionary : KeepsDictionary block new
  keeps_dictionary = record {
    opened = opened_dictionary;
    parts = λ old. dictionary_is old.five;
    sound = sound_dictionary;
    keys = λ number keys old.
        let same = dictionary_is old.sound.dictionary_block.five in record {
          sound = sound_dictionary old.sound;
          numbers = λ key. ap (λ (p : DictionaryParts). number_of_key p.hash key) same ∙ old.numbers key;
          all = subst (λ (p : DictionaryParts). StandAtNumbers number keys p.keys) (sym same) old.all;
          only = subst (λ (p : DictionaryParts). AreKeys keys p.keys) (sym same) old.only;
          len = ap (λ (p : DictionaryParts). length p.keys) same ∙ old.len;
        };
  }

  -- ---- the section that is added as keys
  fifth_role : count_in block ≡ 4 → slice_index new 32 ≡ added.role
  fifth_role four = ap (λ n. slice_index new (16 + 4 * n)) (sym four) ∙ last_role block added words new is

  fifth_len : count_in block ≡ 4 → length (section_in new 4) ≡ length words
  fifth_len four = ap (λ n. length (section_in new n)) (sym four) ∙ ap length is.added_is

  with_keys : IsHashBlock block → AddsKeys block added words → IsDictionaryBlock new
  with_keys old keys = record {
    hash_block = opened_hash old;
    five = omega (arith, keys.four, count_is block added words new is);
    role = fifth_role keys.four ∙ keys.role;
    len = fifth_len keys.four ∙ keys.len ∙ sym len_is;
  }

  as_before : IsHashBlock block → 5 ≤ count_in block → IsDictionaryBlock new → IsDictionaryBlock block
  as_before old five now = record {
    hash_block = old;
    five = five;
    role = sym (role_is block added words new is 4 (omega (arith, five))) ∙ now.role;
    len = sym (ap length (is.kept 4 (omega (arith, five)))) ∙ now.len ∙ len_is;
  }

  as_keys : count_in block ≡ 4 → IsDictionaryBlock new → AddsKeys block added words
  as_keys four now = record {
    four = four;
    role = sym (fifth_role four) ∙ now.role;
    len = sym (fifth_len four) ∙ now.len ∙ len_is;
  }

  where_keys_are : IsHashBlock block → IsDictionaryBlock new → IsDictionaryBlock block ⊎ AddsKeys block added words
  where_keys_are old now =
      ⊎_elim
      (λ less. inr (as_keys (omega (arith, less, old.sections.many)) now))
      (λ five. inl (as_before old five now))
      (cases_lt (count_in block) 5)

  pub keeps_hash : KeepsHash block added words new
  keeps_hash = record {
    opened = opened_hash;
    parts = λ old. hash_is old.sections.many;
    sound = sound_hash;
    levels = λ sizes b seed old.
        let same = hash_is old.sound.hash_block.sections.many in record {
          sound = sound_hash old.sound;
          sizes_are = ap (λ (p : HashParts). p.sizes) same ∙ old.sizes_are;
          bits = ap (λ (p : HashParts). bits_in p.lists) same ∙ old.bits;
          seed_is = ap (λ (p : HashParts). p.seed) same ∙ old.seed_is;
        };
    keys = λ old. (where_keys_are old, λ either. ⊎_elim opened_dictionary (with_keys old) either);
  }

  -- ---- with seeds
  seeds_are : 5 ≤ count_in block → seeded.seeds_in new ≡ seeded.seeds_in block
  seeds_are five =
      ap (λ w. seeds_of w (slice_index new 30)) (is.kept 3 (omega (arith, five)))
      ∙ ap (λ (s : Section). seeds_of (section_in block 3) s.count) (entry_is block added words new is 3 (omega (arith, five)))

  seeded_is : 5 ≤ count_in block → seeded.seeded_in new ≡ seeded.seeded_in block
  seeded_is five =
      ap (λ h. seeded_with h (seeded.seeds_in new)) (parts_are 4 (omega (arith, five)) (omega (arith, five)))
      ∙ ap (seeded_with (seeded.seeded_in block).hash) (seeds_are five)

  opened_seeded : seeded.IsSeededBlock block → seeded.IsSeededBlock new
  opened_seeded old =
      let five = old.sections.many in record {
        is_block = is.is_block;
        sections = kind_kept block added words new is _ _ old.sections;
        lengths = subst (λ (p : SeededParts). HasSeeds p) (sym (seeded_is five)) old.lengths;
      }

  sound_seeded : seeded.IsSoundBlock block → seeded.IsSoundBlock new
  sound_seeded old = record {
    seeded_block = opened_seeded old.seeded_block;
    verified = is.verified;
    hash = subst (λ (p : SeededParts). IsHash p.hash) (sym (seeded_is old.seeded_block.sections.many)) old.hash;
  }

  pub keeps_seeded : KeepsSeeded block new
  keeps_seeded = record {
    opened = opened_seeded;
    parts = λ old. seeded_is old.sections.many;
    sound = sound_seeded;
    levels = λ sizes b seeds seed old.
        let five = old.sound.seeded_block.sections.many in
        let same = seeded_is five in record {
          sound = sound_seeded old.sound;
          sizes_are = ap (λ (p : SeededParts). p.hash.sizes) same ∙ old.sizes_are;
          bits = ap (λ (p : SeededParts). bits_in p.hash.lists) same ∙ old.bits;
          seeds_are = seeds_are five ∙ old.seeds_are;
          seed_is = ap (λ (p : SeededParts). p.hash.seed) same ∙ old.seed_is;
          padding = subst (λ w. seeded.AreZeroFrom w (length seeds)) (sym (is.kept 3 (omega (arith, five)))) old.padding;
        };
  }

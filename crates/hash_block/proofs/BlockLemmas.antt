-- What is written for a hash, or for a dictionary, is its block.
use Rattle.std.proofs.Common.{◌≡◌, ℕ, ◌+◌, ◌*◌, ◌<◌, ◌≤◌, List, [], ◌∷◌, ◌++◌, length, map, slice_index, take, Option, refl, sym, ap, ◌∙◌, subst, arith}
use Rattle.std.proofs.lemmas.List.{append-nil}
use Rattle.bit_lists.specs.Bits.{bits_of}
use Rattle.bit_lists.specs.Count.{ones_of}
use Rattle.bitm_tables.specs.Tables.{bits_in, HasSizes, HasTables, Lists}
use Rattle.bitm_block.proofs.PartsLemmas.{count_is, entry_is, is_of_kind, laid, part, part_is, section_is, HaveLengths, Part}
use Rattle.bitm_block.specs.Header.{section_in, IsOfKind}
use Rattle.bitm_block.specs.Layout.{head_of, part_in}
use Rattle.bitm_block.specs.Written.{IsSealed}
use Rattle.bitm_block.specs.declared.head.Head.{Head}
use Rattle.bitm_block.specs.declared.layout.Section.{Section}
use Rattle.tables_view.specs.Sizes.{lists_of}
use Rattle.block_tables.specs.Sections.{tables_in}
use Rattle.perfect_hash.specs.Numbers.{number_by, AreSizes}
use Rattle.perfect_hash.specs.Perfect.{IsMinimalPerfect}
use Rattle.hash_block.specs.Block.{hash_head, hash_in, hash_sections, AreParts, IsBlockOf, StandsIn}
use Rattle.hash_block.specs.Dictionary.{added, dictionary_sections, number_of_key, IsDictionaryOf, KeysStandIn, StandAtNumbers}
use Rattle.hash_block.proofs.KeyLemmas.{only, own}

-- parts that are written one after another stand where the sections of the levels are
pub stands : (words sizes head to gap upper gap2 lower gap3 found tail : List ℕ) → length head ≡ 32 → to ≡ words
    → HaveLengths (hash_sections (length words) (length sizes)) (part to gap ∷ part upper gap2 ∷ part lower gap3 ∷ part found tail ∷ [])
    → AreParts words sizes upper lower found
    → StandsIn words sizes (head ++ ((to ++ gap) ++ ((upper ++ gap2) ++ ((lower ++ gap3) ++ (found ++ tail)))))
stands words sizes head to gap upper gap2 lower gap3 found tail head_len to_is lens are =
    let ss = hash_sections (length words) (length sizes) in
    let ps : List Part = part to gap ∷ part upper gap2 ∷ part lower gap3 ∷ part found tail ∷ [] in
    let all : List ℕ = head ++ laid ps in
    let whole : all ≡ head ++ ((to ++ gap) ++ ((upper ++ gap2) ++ ((lower ++ gap3) ++ (found ++ tail)))) =
    ap (λ z. head ++ ((to ++ gap) ++ ((upper ++ gap2) ++ ((lower ++ gap3) ++ z)))) (append-nil (found ++ tail)) in
    let from : head_of (length ss) ≡ length head = omega (arith, head_len) in
    subst (λ (block : List ℕ). StandsIn words sizes block) whole (record {
      words_are = part_is ss ps head 0 lens from (omega arith) ∙ to_is;
      parts =
          subst (λ (u : List ℕ). AreParts words sizes u (part_in ss all 2) (part_in ss all 3)) (sym (part_is ss ps head 1 lens from (omega arith)))
          (subst (λ (l : List ℕ). AreParts words sizes upper l (part_in ss all 3)) (sym (part_is ss ps head 2 lens from (omega arith)))
          (subst (λ (f : List ℕ). AreParts words sizes upper lower f) (sym (part_is ss ps head 3 lens from (omega arith))) are));
    })

-- sections that begin as those of a hash
abbrev BeginAsHash : List Section → Type 0
BeginAsHash ss = (4 ≤ length ss) × (map (λ (s : Section). s.role) (take 4 ss) ≡ 1 ∷ 2 ∷ 3 ∷ 4 ∷ [])

-- a sealed block whose sections hold the levels is that of their hash
module _ (words sizes : List ℕ) (seed keys : ℕ) (ss : List Section) (old new : List ℕ) (sealed : IsSealed (hash_head keys seed) ss old new) where
  at : (i : ℕ) → i < length ss → section_in new i ≡ part_in ss old i
  at i less = section_is (hash_head keys seed) ss old new sealed i less

  hash_is : BeginAsHash ss → part_in ss old 0 ≡ words → AreParts words sizes (part_in ss old 1) (part_in ss old 2) (part_in ss old 3)
      → AreSizes sizes (bits_of words) → keys ≡ ones_of (bits_of words) → IsBlockOf sizes (bits_of words) seed new
  hash_is begin words_are parts levels ones =
      let four = begin.0 in
      let words_is : section_in new 0 ≡ words = at 0 (omega (arith, four)) ∙ words_are in
      let lists : tables_in new ≡ lists_of words (part_in ss old 1) (part_in ss old 2) =
      ap (λ w. lists_of w (section_in new 1) (section_in new 2)) words_is
      ∙ ap (λ u. lists_of words u (section_in new 2)) (at 1 (omega (arith, four)))
      ∙ ap (λ l. lists_of words (part_in ss old 1) l) (at 2 (omega (arith, four))) in
      let sizes_is : section_in new 3 ≡ sizes = at 3 (omega (arith, four)) ∙ parts.sizes_are in
      let len : slice_index new 3 ≡ keys = ap (λ (h : Head). h.len) sealed.head_is in
      let bits_is : bits_of (section_in new 0) ≡ bits_of words = ap bits_of words_is in
      record {
        sound = record {
          hash_block = record {
            is_block = sealed.is_block;
            sections =
                subst (λ (roles : List ℕ). IsOfKind 5 roles new) begin.1
                (is_of_kind (hash_head keys seed) ss new sealed.head_is sealed.sections_are 4 four);
            lengths = record {
              sized = subst (λ (l : Lists). HasSizes l) (sym lists) parts.sized;
              few = subst (λ (s : List ℕ). length s ≤ 256) (sym sizes_is) levels.few;
            };
          };
          verified = sealed.verified;
          hash = record {
            tables = subst (λ (l : Lists). HasTables l) (sym lists) parts.tables;
            levels =
                subst (λ (s : List ℕ). AreSizes s (bits_of (section_in new 0))) (sym sizes_is)
                (subst (λ b. AreSizes sizes b) (sym bits_is) levels);
            ones = ap ones_of bits_is ∙ sym ones ∙ sym len;
          };
        };
        sizes_are = sizes_is;
        bits = bits_is;
        seed_is = ap (λ (h : Head). h.a) sealed.head_is;
      }

-- of a hash alone
pub block_is : (words sizes : List ℕ) (seed keys : ℕ) (old new : List ℕ)
    → IsSealed (hash_head keys seed) (hash_sections (length words) (length sizes)) old new → StandsIn words sizes old
    → AreSizes sizes (bits_of words) → keys ≡ ones_of (bits_of words) → IsBlockOf sizes (bits_of words) seed new
block_is words sizes seed keys old new sealed are levels ones =
    hash_is words sizes seed keys (hash_sections (length words) (length sizes)) old new sealed
    (omega arith, refl) are.words_are are.parts levels ones

-- of a dictionary
pub dictionary_is : (words sizes : List ℕ) (seed : ℕ) (number : ℕ → Option ℕ) (keys old new : List ℕ)
    → IsSealed (hash_head (length keys) seed) (dictionary_sections (length words) (length sizes) (length keys)) old new
    → KeysStandIn words sizes number keys old → AreSizes sizes (bits_of words) → length keys ≡ ones_of (bits_of words)
    → IsMinimalPerfect number keys → ((key : ℕ) → number_by sizes (bits_of words) (added seed key) ≡ number key)
    → IsDictionaryOf number keys new
dictionary_is words sizes seed number keys old new sealed are levels ones perfect numbers =
    let ss = dictionary_sections (length words) (length sizes) (length keys) in
    let whole : IsBlockOf sizes (bits_of words) seed new =
    hash_is words sizes seed (length keys) ss old new sealed
    (omega arith, refl) are.words_are are.parts levels ones in
    let stored = section_in new 4 in
    let keys_are : stored ≡ part_in ss old 4 = section_is (hash_head (length keys) seed) ss old new sealed 4 (omega arith) in
    let all : StandAtNumbers number keys stored = subst (λ (s : List ℕ). StandAtNumbers number keys s) (sym keys_are) are.all in
    let len : length stored ≡ length keys = ap length keys_are ∙ are.len in
    let same : (key : ℕ) → number_of_key (hash_in new) key ≡ number key = λ key.
    ap (λ (s : List ℕ). number_by s (bits_in (tables_in new)) (added (hash_in new).seed key)) whole.sizes_are
    ∙ ap (λ b. number_by sizes b (added (hash_in new).seed key)) whole.bits
    ∙ ap (λ (seed' : ℕ). number_by sizes (bits_of words) (added seed' key)) whole.seed_is
    ∙ numbers key in
    record {
      sound = record {
        dictionary_block = record {
          hash_block = whole.sound.hash_block;
          five = omega (arith, count_is (hash_head (length keys) seed) ss old new sealed);
          role = ap (λ (s : Section). s.role) (entry_is (hash_head (length keys) seed) ss old new sealed 4 (omega arith));
          len = len ∙ sym (ap (λ (h : Head). h.len) sealed.head_is);
        };
        verified = sealed.verified;
        dictionary = record {
          hash = whole.sound.hash;
          own = λ i less. same (slice_index stored i) ∙ own number keys perfect stored all len i less;
        };
      };
      numbers = same;
      all = all;
      only = only number keys perfect stored all len;
      len = len;
    }

-- parts that are written one after another stand where the sections of the dictionary are
pub keys_stand : (words sizes : List ℕ) (number : ℕ → Option ℕ) (keys head to gap upper gap2 lower gap3 found gap4 stored tail : List ℕ) → length head ≡ 40
    → to ≡ words → HaveLengths (dictionary_sections (length words) (length sizes) (length keys))
    (part to gap ∷ part upper gap2 ∷ part lower gap3 ∷ part found gap4 ∷ part stored tail ∷ []) → AreParts words sizes upper lower found
    → StandAtNumbers number keys stored → length stored ≡ length keys
    → KeysStandIn words sizes number keys (head ++ ((to ++ gap) ++ ((upper ++ gap2) ++ ((lower ++ gap3) ++ ((found ++ gap4) ++ (stored ++ tail))))))
keys_stand words sizes number keys head to gap upper gap2 lower gap3 found gap4 stored tail head_len to_is lens are all len =
    let ss = dictionary_sections (length words) (length sizes) (length keys) in
    let ps : List Part = part to gap ∷ part upper gap2 ∷ part lower gap3 ∷ part found gap4 ∷ part stored tail ∷ [] in
    let block : List ℕ = head ++ laid ps in
    let whole : block ≡ head ++ ((to ++ gap) ++ ((upper ++ gap2) ++ ((lower ++ gap3) ++ ((found ++ gap4) ++ (stored ++ tail))))) =
    ap (λ z. head ++ ((to ++ gap) ++ ((upper ++ gap2) ++ ((lower ++ gap3) ++ ((found ++ gap4) ++ z))))) (append-nil (stored ++ tail)) in
    let from : head_of (length ss) ≡ length head = omega (arith, head_len) in
    let keys_are : part_in ss block 4 ≡ stored = part_is ss ps head 4 lens from (omega arith) in
    subst (λ (b : List ℕ). KeysStandIn words sizes number keys b) whole (record {
      words_are = part_is ss ps head 0 lens from (omega arith) ∙ to_is;
      parts =
          subst (λ (u : List ℕ). AreParts words sizes u (part_in ss block 2) (part_in ss block 3)) (sym (part_is ss ps head 1 lens from (omega arith)))
          (subst (λ (l : List ℕ). AreParts words sizes upper l (part_in ss block 3)) (sym (part_is ss ps head 2 lens from (omega arith)))
          (subst (λ (f : List ℕ). AreParts words sizes upper lower f) (sym (part_is ss ps head 3 lens from (omega arith))) are));
      all = subst (λ (s : List ℕ). StandAtNumbers number keys s) (sym keys_are) all;
      len = ap length keys_are ∙ len;
    })

-- What is written for a hash with seeds is its block.
use Rattle.std.proofs.Common.{◌≡◌, ℕ, ◌+◌, ◌*◌, ◌<◌, ◌≤◌, List, [], ◌∷◌, ◌++◌, length, get_or, slice_index, sym, ap, ◌∙◌, subst, arith}
use Rattle.std.proofs.lemmas.List.{append-nil}
use Rattle.bit_lists.specs.Bits.{bits_of}
use Rattle.bit_lists.specs.Count.{ones_of}
use Rattle.bitm_tables.specs.Tables.{bits_in, HasSizes, HasTables, Lists}
use Rattle.bitm_block.proofs.PartsLemmas.{entry_is, is_of_kind, laid, part, part_is, section_is, HaveLengths, Part}
use Rattle.bitm_block.specs.Header.{section_entry, section_in}
use Rattle.bitm_block.specs.Layout.{head_of, no_section, part_in}
use Rattle.bitm_block.specs.Written.{IsSealed}
use Rattle.bitm_block.specs.declared.head.Head.{Head}
use Rattle.bitm_block.specs.declared.layout.Section.{Section}
use Rattle.tables_view.specs.Sizes.{lists_of}
use Rattle.block_tables.specs.Sections.{tables_in}
use Rattle.perfect_hash.specs.Levels.{fall_in}
use Rattle.perfect_hash.specs.Numbers.{number_in, AreSizes}
use Rattle.perfect_hash.specs.Perfect.{IsMinimalPerfect}
use Rattle.perfect_hash.specs.Positions.{position_by}
use Rattle.hash_block.specs.Block.{hash_head}
use Rattle.hash_block.specs.SeededBlock.{seeded_in, seeded_sections, seeds_in, AreParts, AreZeroFrom, IsBlockOf, RoundTrip, StandsIn}
use Rattle.hash_block.specs.Seeds.{seeds_of}
use Rattle.hash_block.proofs.SeedLemmas.{seeds_len}

-- parts that are written one after another stand where the sections of the levels are
pub stands : (words seeds sizes head to gap upper gap2 lower gap3 packed gap4 found tail : List ℕ) → length head ≡ 40 → to ≡ words
    → HaveLengths (seeded_sections (length words) (length sizes))
    (part to gap ∷ part upper gap2 ∷ part lower gap3 ∷ part packed gap4 ∷ part found tail ∷ [])
    → AreParts words seeds sizes upper lower packed found
    → StandsIn words seeds sizes (head ++ ((to ++ gap) ++ ((upper ++ gap2) ++ ((lower ++ gap3) ++ ((packed ++ gap4) ++ (found ++ tail))))))
stands words seeds sizes head to gap upper gap2 lower gap3 packed gap4 found tail head_len to_is lens are =
    let ss = seeded_sections (length words) (length sizes) in
    let ps : List Part = part to gap ∷ part upper gap2 ∷ part lower gap3 ∷ part packed gap4 ∷ part found tail ∷ [] in
    let all : List ℕ = head ++ laid ps in
    let whole : all ≡ head ++ ((to ++ gap) ++ ((upper ++ gap2) ++ ((lower ++ gap3) ++ ((packed ++ gap4) ++ (found ++ tail))))) =
    ap (λ z. head ++ ((to ++ gap) ++ ((upper ++ gap2) ++ ((lower ++ gap3) ++ ((packed ++ gap4) ++ z))))) (append-nil (found ++ tail)) in
    let from : head_of (length ss) ≡ length head = omega (arith, head_len) in
    let at : (i : ℕ) → i < 5 → (get_or ps i (part [] [])).words ≡ part_in ss all i = λ i less. sym (part_is ss ps head i lens from less) in
    subst (λ (block : List ℕ). StandsIn words seeds sizes block) whole (record {
      words_are = sym (at 0 (omega arith)) ∙ to_is;
      parts =
          subst (λ (u : List ℕ). AreParts words seeds sizes u (part_in ss all 2) (part_in ss all 3) (part_in ss all 4)) (at 1 (omega arith))
          (subst (λ (l : List ℕ). AreParts words seeds sizes upper l (part_in ss all 3) (part_in ss all 4)) (at 2 (omega arith))
          (subst (λ (p : List ℕ). AreParts words seeds sizes upper lower p (part_in ss all 4)) (at 3 (omega arith))
          (subst (λ (f : List ℕ). AreParts words seeds sizes upper lower packed f) (at 4 (omega arith)) are)));
    })

-- a sealed block whose sections hold the levels is that of their hash
module _ (words seeds sizes : List ℕ) (seed keys : ℕ) (old new : List ℕ)
    (sealed : IsSealed (hash_head keys seed) (seeded_sections (length words) (length sizes)) old new)
    (are : StandsIn words seeds sizes old) (levels : AreSizes sizes (bits_of words)) (ones : keys ≡ ones_of (bits_of words))
    (each : length seeds ≡ length words) where
  ss : List Section
  ss = seeded_sections (length words) (length sizes)

  at : (i : ℕ) → i < 5 → section_in new i ≡ part_in (seeded_sections (length words) (length sizes)) old i
  at i less = section_is (hash_head keys seed) (seeded_sections (length words) (length sizes)) old new sealed i less

  entry_at : (i : ℕ) → i < 5 → section_entry new i ≡ get_or (seeded_sections (length words) (length sizes)) i no_section
  entry_at i less = entry_is (hash_head keys seed) (seeded_sections (length words) (length sizes)) old new sealed i less

  pub block_is : IsBlockOf sizes (bits_of words) seeds seed new
  block_is =
      let parts = are.parts in
      let upper = part_in (seeded_sections (length words) (length sizes)) old 1 in
      let lower = part_in (seeded_sections (length words) (length sizes)) old 2 in
      let packed = part_in (seeded_sections (length words) (length sizes)) old 3 in
      let words_is : section_in new 0 ≡ words = at 0 (omega arith) ∙ are.words_are in
      let lists : tables_in new ≡ lists_of words upper lower =
      ap (λ w. lists_of w (section_in new 1) (section_in new 2)) words_is
      ∙ ap (λ u. lists_of words u (section_in new 2)) (at 1 (omega arith))
      ∙ ap (λ l. lists_of words upper l) (at 2 (omega arith)) in
      let sizes_is : section_in new 4 ≡ sizes = at 4 (omega arith) ∙ parts.levels.sizes_are in
      let count_seeds : slice_index new 30 ≡ length words = ap (λ (s : Section). s.count) (entry_at 3 (omega arith)) in
      let seeds_is : seeds_in new ≡ seeds =
      ap (λ (p : List ℕ). seeds_of p (slice_index new 30)) (at 3 (omega arith))
      ∙ ap (seeds_of packed) (count_seeds ∙ sym each)
      ∙ parts.seeds_are in
      let len : slice_index new 3 ≡ keys = ap (λ (h : Head). h.len) sealed.head_is in
      let bits_is : bits_of (section_in new 0) ≡ bits_of words = ap bits_of words_is in
      record {
        sound = record {
          seeded_block = record {
            is_block = sealed.is_block;
            sections = is_of_kind (hash_head keys seed) (seeded_sections (length words) (length sizes)) new sealed.head_is sealed.sections_are 5 (omega arith);
            lengths = record {
              lengths = record {
                sized = subst (λ (l : Lists). HasSizes l) (sym lists) parts.levels.sized;
                few = subst (λ (s : List ℕ). length s ≤ 256) (sym sizes_is) levels.few;
              };
              seeds = seeds_len (section_in new 3) (slice_index new 30) ∙ count_seeds ∙ ap length (sym words_is);
            };
          };
          verified = sealed.verified;
          hash = record {
            tables = subst (λ (l : Lists). HasTables l) (sym lists) parts.levels.tables;
            levels =
                subst (λ (s : List ℕ). AreSizes s (bits_of (section_in new 0))) (sym sizes_is)
                (subst (λ b. AreSizes sizes b) (sym bits_is) levels);
            ones = ap ones_of bits_is ∙ sym ones ∙ sym len;
          };
        };
        sizes_are = sizes_is;
        bits = bits_is;
        seeds_are = seeds_is;
        seed_is = ap (λ (h : Head). h.a) sealed.head_is;
        padding = subst (λ (p : List ℕ). AreZeroFrom p (length seeds)) (sym (at 3 (omega arith))) parts.padding;
      }

-- a block of levels that number hashes numbers them
pub round_trip : RoundTrip
round_trip hashes words sizes seeds seed block levels is = (
  is.sound,
  subst (λ (s : List ℕ). IsMinimalPerfect (λ hash. number_in (fall_in (position_by s) (seeded_in block).hash.sizes) (seeded_in block).hash.sizes (bits_in (tables_in block)) hash) hashes) (sym is.seeds_are)
      (subst (λ (z : List ℕ). IsMinimalPerfect (λ hash. number_in (fall_in (position_by seeds) z) z (bits_in (tables_in block)) hash) hashes) (sym is.sizes_are)
      (subst (λ b. IsMinimalPerfect (λ hash. number_in (fall_in (position_by seeds) sizes) sizes b hash) hashes) (sym is.bits) levels.perfect)),
)

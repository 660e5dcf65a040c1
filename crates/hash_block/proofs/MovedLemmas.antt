-- The seeds in a block are bytes of the block.
use Rattle.std.proofs.Common.{◌≡◌, ℕ, ◌+◌, ◌-◌, ◌*◌, ◌/◌, ◌%◌, ◌<◌, ◌≤◌, List, length, length-drop, drop, take, slice_index, slice_range, sym, ap, ◌∙◌, arith}
use Rattle.std.proofs.lemmas.Grind.{same_number_lists}
use Rattle.std.proofs.lemmas.List.{get_or-drop, get_or-take, length-take-le}
use Rattle.std.specs.Int.{div_ceil}
use Rattle.bit_lists.specs.Bits.{bits_of, digit, item}
use Rattle.bit_lists.specs.Number.{number_at, number_of_bits}
use Rattle.bit_lists.specs.StretchLaws.{stretch}
use Rattle.bit_lists.proofs.lemmas.BitsLemmas.{item-bits_of_at, length-bits_of, same_bits}
use Rattle.bit_lists.proofs.lemmas.CutLemmas.{item-stretch}
use Rattle.bitm_block.proofs.HeaderLemmas.{begin_next, inside}
use Rattle.bitm_block.proofs.LayoutLemmas.{words_fit}
use Rattle.bitm_block.specs.Header.{begin_in, count_in, section_entry, section_in, IsBlock}
use Rattle.bitm_block.specs.Layout.{words_of}
use Rattle.hash_block.specs.SeededBlock.{seeds_in, HasSeededSections, IsSeededBlock}
use Rattle.hash_block.specs.Seeds.{seed_of, AreBytesOf}
use Rattle.hash_block.proofs.SeedLemmas.{seed_at, seeds_len}

-- item i of a part
pub part_item : (xs : List ℕ) (begin end i : ℕ) → begin + i < end → slice_index (slice_range xs begin end) i ≡ slice_index xs (begin + i)
part_item xs begin end i less = get_or-take (end - begin) (drop begin xs) i 0 (omega (arith, less)) ∙ get_or-drop begin xs i 0

part_len : (xs : List ℕ) (begin end : ℕ) → begin ≤ end → end ≤ length xs → length (slice_range xs begin end) ≡ end - begin
part_len xs begin end order within = length-take-le (end - begin) (drop begin xs) (omega (arith, order, within, length-drop begin xs))

-- a section has as many words as its entry says, and ends inside the block
pub section_end : (block : List ℕ) (i : ℕ) → IsBlock block → i < count_in block → begin_in block i + words_of (section_entry block i) ≤ length block
section_end block i is less = omega (arith, begin_next block i less, words_fit (section_entry block i), inside block is.directory (i + 1))

pub section_len : (block : List ℕ) (i : ℕ) → IsBlock block → i < count_in block → length (section_in block i) ≡ words_of (section_entry block i)
section_len block i is less =
    omega (arith, part_len block (begin_in block i) (begin_in block i + words_of (section_entry block i)) (omega arith) (section_end block i is less))

-- there are as many words of seeds as they take
pub seeds_words : (block : List ℕ) → IsBlock block → HasSeededSections block → length (section_in block 3) ≡ div_ceil (slice_index block 30) 8
seeds_words block is has =
    section_len block 3 is (omega (arith, has.many))
    ∙ ap (λ (role : ℕ). words_of (record { role = role; count = slice_index block 30 })) (has.roles_are 3 (omega arith))

-- eight bits of words
eight_len : (words : List ℕ) (k : ℕ) → k < 8 * length words → length (stretch (bits_of words) (k * 8) 8) ≡ 8
eight_len words k less =
    length-take-le 8 (drop (k * 8) (bits_of words)) (omega (arith, less, length-drop (k * 8) (bits_of words), length-bits_of words))

-- seed k of a part of words is that of the words, after those before the part
pub seed_moved : (words : List ℕ) (begin end k : ℕ) → begin ≤ end → end ≤ length words → k < 8 * (end - begin)
    → seed_of (slice_range words begin end) k ≡ seed_of words (8 * begin + k)
unfolding number_at
seed_moved words begin end k order within less =
    ap number_of_bits
    (same_bits (stretch (bits_of part) (k * 8) 8) (stretch (bits_of words) ((8 * begin + k) * 8) 8)
    (eight_len part k (omega (arith, less, len)) ∙ sym (eight_len words (8 * begin + k) (omega (arith, less, within, order))))
    (λ i i_less. same_item i (omega (arith, i_less, eight_len part k (omega (arith, less, len))))))
  where
    part : List ℕ
    part = slice_range words begin end

    len : length (slice_range words begin end) ≡ end - begin
    len = part_len words begin end order within

    same_item : (i : ℕ) → i < 8 → item (stretch (bits_of (slice_range words begin end)) (k * 8) 8) i ≡ item (stretch (bits_of words) ((8 * begin + k) * 8) 8) i
    same_item i i_less =
        item-stretch (bits_of (slice_range words begin end)) (k * 8) 8 i i_less
        ∙ item-bits_of_at (slice_range words begin end) (k * 8 + i) (k / 8) (k % 8 * 8 + i) (omega arith) (omega (arith, i_less)) (omega (arith, less, len))
        ∙ ap (λ (w : ℕ). digit w (k % 8 * 8 + i)) (part_item words begin end (k / 8) (omega (arith, less, order)))
        ∙ sym (item-bits_of_at words ((8 * begin + k) * 8 + i) (begin + k / 8) (k % 8 * 8 + i) (omega arith) (omega (arith, i_less)) (omega (arith, less, order, within)))
        ∙ sym (item-stretch (bits_of words) ((8 * begin + k) * 8) 8 i i_less)

-- the directory says where the seeds begin, and they end inside the block
pub seeds_position : (block : List ℕ) → IsSeededBlock block
    → (slice_index block 29 ≡ 8 * begin_in block 3) × (8 * begin_in block 3 + slice_index block 30 ≤ 8 * length block)
seeds_position block is =
    let three : 3 < count_in block = omega (arith, is.sections.many) in
    let words = seeds_words block is.is_block is.sections in (
      (is.is_block.directory.entries 3 three).at,
      omega (arith, section_end block 3 is.is_block three, section_len block 3 is.is_block three, words),
    )

-- where bytes are those of the block, the seeds are among them
pub seeds_are_bytes : (block bytes : List ℕ) → IsSeededBlock block → length bytes ≡ 8 * length block → AreBytesOf block bytes
    → take (slice_index block 30) (drop (8 * begin_in block 3) bytes) ≡ seeds_in block
seeds_are_bytes block bytes is len same =
    same_number_lists (take (slice_index block 30) (drop (8 * begin_in block 3) bytes)) (seeds_in block)
    (omega (arith, here_len, seeds_len (section_in block 3) (slice_index block 30)))
    (λ k less. each k (omega (arith, less, here_len)))
  where
    here_len : length (take (slice_index block 30) (drop (8 * begin_in block 3) bytes)) ≡ slice_index block 30
    here_len =
        length-take-le (slice_index block 30) (drop (8 * begin_in block 3) bytes)
        (omega (arith, length-drop (8 * begin_in block 3) bytes, len, (seeds_position block is).1))

    words_are : words_of (section_entry block 3) ≡ div_ceil (slice_index block 30) 8
    words_are = ap (λ (role : ℕ). words_of (record { role = role; count = slice_index block 30 })) (is.sections.roles_are 3 (omega arith))

    each : (k : ℕ) → k < slice_index block 30
        → slice_index (take (slice_index block 30) (drop (8 * begin_in block 3) bytes)) k ≡ slice_index (seeds_in block) k
    each k less =
        get_or-take (slice_index block 30) (drop (8 * begin_in block 3) bytes) k 0 less
        ∙ get_or-drop (8 * begin_in block 3) bytes k 0
        ∙ same (8 * begin_in block 3 + k) (omega (arith, less, len, (seeds_position block is).1))
        ∙ sym (seed_moved block (begin_in block 3) (begin_in block 3 + words_of (section_entry block 3)) k (omega arith)
        (section_end block 3 is.is_block (omega (arith, is.sections.many))) (omega (arith, less, words_are)))
        ∙ sym (seed_at (section_in block 3) (slice_index block 30) k less)

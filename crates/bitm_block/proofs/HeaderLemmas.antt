-- The sections that a directory has.
use Rattle.std.proofs.Common.{◌≡◌, ℕ, ◌+◌, ◌<◌, ◌≤◌, List, length, get_or, sum_by, ap, ◌∙◌, arith}
use Rattle.std.proofs.lemmas.List.{take_all}
use Rattle.std.proofs.lemmas.List.FromFn.{get_or-map-range_with_len, length-map-range_with_len}
use Rattle.bitm_block.specs.Header.{begin_in, count_in, section_entry, sections_in, IsDirectory}
use Rattle.bitm_block.specs.Layout.{end_of, head_of, room_of}
use Rattle.bitm_block.specs.declared.layout.Section.{Section}
use Rattle.bitm_block.proofs.LayoutLemmas.{begin_more, begins_inside}

pub sections_len : (b : List ℕ) → length (sections_in b) ≡ count_in b
unfolding sections_in
sections_len b = length-map-range_with_len (section_entry b) 0 (count_in b)

pub section_at : (b : List ℕ) (i : ℕ) (d : Section) → i < count_in b → get_or (sections_in b) i d ≡ section_entry b i
unfolding sections_in
section_at b i d less = get_or-map-range_with_len (section_entry b) 0 (count_in b) i i d less (omega arith)

-- the next section begins after the room of this one
pub begin_next : (b : List ℕ) (i : ℕ) → i < count_in b → begin_in b (i + 1) ≡ begin_in b i + room_of (section_entry b i)
begin_next b i less =
    begin_more (sections_in b) i (section_entry b i) (omega (arith, less, sections_len b))
    ∙ ap (λ s. begin_in b i + room_of s) (section_at b i (section_entry b i) less)

-- the first section begins after the directory
pub begin_first : (b : List ℕ) → begin_in b 0 ≡ head_of (count_in b)
begin_first b = omega (arith, sections_len b)

-- sections stand inside the block
pub inside : (b : List ℕ) → IsDirectory b → (i : ℕ) → begin_in b i ≤ length b
inside b d i = omega (arith, d.whole, begins_inside (sections_in b) i)

-- after the last section the block ends
pub begin_last : (b : List ℕ) → begin_in b (count_in b) ≡ end_of (sections_in b)
begin_last b =
    ap (λ l. head_of (length (sections_in b)) + sum_by room_of l) (take_all (count_in b) (sections_in b) (omega (arith, sections_len b)))

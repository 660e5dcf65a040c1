-- Sections that stand one after another.
use Rattle.std.proofs.Common.{◌≡◌, ℕ, ◌+◌, ◌<◌, ◌≤◌, List, length, get_or, arith}
use Rattle.std.proofs.lemmas.List.Sums.{sum_by_more, sum_by-take-le}
use Rattle.bitm_block.specs.Layout.{begin_of, end_of, room_of, words_of}
use Rattle.bitm_block.specs.declared.layout.Section.{Section}

-- the next section begins after the room of this one
pub begin_more : (ss : List Section) (i : ℕ) (d : Section) → i < length ss → begin_of ss (i + 1) ≡ begin_of ss i + room_of (get_or ss i d)
begin_more ss i d less = omega (arith, sum_by_more room_of ss i d less)

-- words stand within their room
pub words_fit : (s : Section) → words_of s ≤ room_of s
words_fit s = omega arith

-- a section begins within the block
pub begins_inside : (ss : List Section) (i : ℕ) → begin_of ss i ≤ end_of ss
begins_inside ss i = omega (arith, sum_by-take-le room_of ss i)

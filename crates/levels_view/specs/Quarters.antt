-- What says of one quarter after another that its number counts to it.
use Rattle.std.specs.Prelude.{◌≡◌, ℕ, ◌+◌, ◌*◌, ◌/◌, ◌^◌, ◌%◌, Bool, List}
use Rattle.bit_lists.specs.Count.{ones_before}
use Rattle.bitm_tables.specs.Quarters.{quarter_count, record_count}

-- the number e of its basic block counts to quarter k of the bits b: the block is the one with this quarter
abbrev pub CountsToQuarter : List Bool → ℕ → ℕ → Type 0
CountsToQuarter b k e =
    ones_before b (k / 4 / 2 ^ 23 * 2 ^ 32) + record_count e + quarter_count e (k % 4) ≡ ones_before b (128 * k)

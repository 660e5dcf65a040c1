-- The table of a simple rank.
use Rattle.std.specs.Prelude.{ℕ, ◌*◌, ◌^◌, ◌<◌, Bool, List, length, map}
use Rattle.std.specs.Int.{div_ceil}
use Rattle.std.specs.List.{range_with_len}
use Rattle.bit_lists.specs.Bits.{bits_of}
use Rattle.bit_lists.specs.Count.{ones_before, ones_of}

-- the number of 1 bits in the words fits 32 bits
abbrev pub HasFewOnes : List ℕ → Type 0
HasFewOnes words = ones_of (bits_of words) < 2 ^ 32

-- the number of 1 bits before each run of 512 bits, of which the last may be partial
unfoldable pub simple_table_of : List Bool → List ℕ
simple_table_of b = map (λ k. ones_before b (512 * k)) (range_with_len 0 (div_ceil (length b) 512))

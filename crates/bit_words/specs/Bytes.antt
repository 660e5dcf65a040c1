-- Bytes as the list of their bits, and the window of a few of them that a call reads or writes.
use Rattle.std.specs.Prelude.{ℕ, ◌+◌, ◌-◌, ◌*◌, ◌/◌, ◌%◌, Bool, if◌then◌else◌, ◌||◌, List, ◌++◌, length, map, take, drop, slice_index}
use Rattle.std.specs.List.{range_with_len}
use Rattle.bit_lists.specs.Bits.{digit, item}

-- the bits of bytes: item i is digit i mod 8, lowest first, of byte i / 8
unfoldable pub byte_bits_of : List ℕ → List Bool
byte_bits_of bytes = map (λ i. digit (slice_index bytes (i / 8)) (i % 8)) (range_with_len 0 (8 * length bytes))

-- how many bits there are from bit first to the end of the k bytes that begin with its byte
abbrev pub window_len : ℕ → ℕ → ℕ
window_len first k = 8 * k - first % 8

-- those items of b
unfoldable pub byte_window : List Bool → ℕ → ℕ → List Bool
byte_window b first k = take (window_len first k) (drop first b)

-- b with its window changed: item j of it is digit j of v where digit j of mask is one, and else true where it was or
-- where digit j of v is one
unfoldable pub with_window : List Bool → ℕ → ℕ → ℕ → ℕ → List Bool
with_window b first k v mask =
    take first b
    ++ map (λ j. if digit mask j then digit v j else item b (first + j) || digit v j) (range_with_len 0 (window_len first k))
    ++ drop (first + window_len first k) b

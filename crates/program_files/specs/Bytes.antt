-- The words of a block as bytes, the lowest byte of each first.
use Rattle.std.specs.Prelude.{ℕ, ◌/◌, ◌%◌, ◌==◌, List, length, map, Option, None, Some, if◌then◌else◌}
use Rattle.std.specs.List.{flat_map}
use Rattle.std.specs.Int.{w64, to_le_bytes, from_le_bytes}
use Rattle.std.specs.Simd.{first_chunks}

-- the bytes of words
abbrev pub bytes_of : List ℕ → List ℕ
bytes_of words = flat_map (λ word. to_le_bytes w64 word) words

-- the words whose bytes these are, if they are eight for each word
abbrev pub words_of_bytes : List ℕ → Option (List ℕ)
words_of_bytes bytes =
    if length bytes % 8 == 0 then Some (map (λ chunk. from_le_bytes w64 chunk) (first_chunks 8 (length bytes / 8) bytes)) else None

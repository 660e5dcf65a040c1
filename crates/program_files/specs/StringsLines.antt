-- Lines as strings that stand one after another.
use Rattle.std.specs.Prelude.{ℕ, ◌+◌, List, [], ◌∷◌, length}
use Rattle.std.specs.List.{flat_map}

-- the bytes of the lines, without what parts them
abbrev pub joined_lines : List (List ℕ) → List ℕ
joined_lines lines = flat_map (λ line. line) lines

-- where each of them ends, after so many other bytes
abbrev pub ends_from : ℕ → List (List ℕ) → List ℕ
ends_from at [] = []
ends_from at (line ∷ lines) = (at + length line) ∷ ends_from (at + length line) lines

-- where each of them ends
abbrev pub ends_of : List (List ℕ) → List ℕ
ends_of lines = ends_from 0 lines

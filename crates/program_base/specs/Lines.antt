-- The lines of an input.
use Rattle.std.specs.Prelude.{ℕ, List}
use Rattle.program_base.specs.Text.{split_at, without_empty}

-- the parts between line feeds that are not empty: a carriage return is part of one
abbrev pub command_lines : List ℕ → List (List ℕ)
command_lines input = without_empty (split_at 10 input)

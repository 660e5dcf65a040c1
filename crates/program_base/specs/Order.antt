-- The order of the numbers of a text.
use Rattle.std.specs.Prelude.{ℕ, ◌+◌, Bool, true, List, [], ◌∷◌, Option, None, Some, nat_le, nat_lt, if◌then◌else◌}
use Rattle.std.specs.Str.Lines.{lines}
use Rattle.program_base.specs.Text.{decimal_of}

-- the number is not less than the one before it, if there is one, and with strict not the same either
abbrev pub may_follow : Bool → Option ℕ → ℕ → Bool
may_follow strict None number = true
may_follow strict (Some before) number = if strict then nat_lt before number else nat_le before number

-- line `at`, where it has a number that may not follow the one before it; else what the lines after it say, before which
-- stands this number, if it has one
abbrev pub fall_at : Bool → Option ℕ → ℕ → (Option ℕ → Option ℕ) → Option ℕ → Option ℕ
fall_at strict before at next None = next before
fall_at strict before at next (Some number) = if may_follow strict before number then next (Some number) else Some at

-- the first of these lines, counted from `at` on, whose number may not follow the one before it
abbrev pub fall_from : Bool → Option ℕ → ℕ → List (List ℕ) → Option ℕ
fall_from strict before at [] = None
fall_from strict before at (line ∷ lines) = fall_at strict before at (λ b. fall_from strict b (at + 1) lines) (decimal_of line)

-- the first line whose number may not follow that of the line with a number before it
abbrev pub fall_line : Bool → List ℕ → Option ℕ
fall_line strict text = fall_from strict None 0 (lines text)

-- A text of numbers, one a line.
use Rattle.std.specs.Prelude.{◌≡◌, ℕ, ◌+◌, Bool, List, ◌++◌, codes, length, Option, None, Some, is_some, ◌||◌, ◌==◌, not}
use Rattle.std.specs.Fmt.{decimal}
use Rattle.std.specs.List.{filter_map, position}
use Rattle.std.specs.Str.Lines.{lines}
use Rattle.program_base.specs.Text.{decimal_of}
use Rattle.program_base.specs.declared.text.list.ListError.{ListError}
use Rattle.program_base.specs.declared.text.list.ListError.TheVariants.{WrongLine, NoMemory}

-- the line is empty, or has just a number
abbrev pub is_number_line : List ℕ → Bool
is_number_line line = (length line == 0) || is_some (decimal_of line)

-- the first line that neither is empty nor has just a number
abbrev pub wrong_line : List ℕ → Option ℕ
wrong_line text = position (λ line. not (is_number_line line)) (lines text)

-- the numbers of the lines that have just one
abbrev pub numbers_in_lines : List ℕ → List ℕ
numbers_in_lines text = filter_map decimal_of (lines text)

-- this is why the text is no list of numbers
abbrev pub IsListError : List ℕ → ListError → Type 0
IsListError text (WrongLine line) = wrong_line text ≡ Some line
IsListError text NoMemory = wrong_line text ≡ None

-- the characters of its text: lines are counted from 1 there
abbrev pub list_error_text : ListError → List ℕ
list_error_text (WrongLine line) = codes "line " ++ decimal (line + 1) ++ codes ": not a number"
list_error_text NoMemory = codes "memory was refused"

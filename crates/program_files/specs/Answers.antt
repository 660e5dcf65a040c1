-- What is written of patterns in a text.
use Rattle.std.specs.Prelude.{◌≡◌, ℕ, ◌+◌, ◌<◌, ◌≤◌, nat_lt, Bool, All, List, [], ◌∷◌, ◌++◌, length, map, Option, Some}
use Rattle.std.specs.Fmt.{decimal}
use Rattle.std.specs.Io.KnownBytes.{Appends}
use Rattle.std.specs.List.{flat_map, list_any}
use Rattle.std.specs.List.Sorted.{IsNonDecreasing, IsPermutation, IsStrictlyIncreasing}
use Rattle.program_files.specs.Bytes.{words_of_bytes}
use Rattle.program_files.specs.File.{IsOpened, IsTextFile}
use Rattle.program_files.specs.Lines.{AreAllPositions, LinesWith}
use Rattle.program_files.specs.declared.texts.command.Asked.{Asked}
use Rattle.program_files.specs.declared.texts.command.Asked.TheVariants.{Count, Locate, Lines}
use Rattle.text_block.specs.Block.{parts_in}
use Rattle.text_index.specs.Located.{IsLocated}
use Rattle.text_index.specs.Text.{occurrences}

-- the line of a number
abbrev pub line_of : ℕ → List ℕ
line_of n = decimal n ++ 10 ∷ []

-- these are the positions at which the pattern stands, in the order of the suffixes that begin there
pub record AreFound (text pattern found : List ℕ) : Type 0 where
  pub all : length found ≡ occurrences text pattern
  pub located : IsLocated text pattern 0 (length found) found

-- these are the same in their order
pub record ArePositions (text pattern positions : List ℕ) : Type 0 where
  pub found : List ℕ
  pub are : AreFound text pattern found
  pub same : IsPermutation found positions
  pub rising : IsNonDecreasing positions

-- what is asked of patterns in a text: at how many positions each stands, the positions at which any stands, or the lines
-- that have any
abbrev pub ArePatternAnswers : Asked → List ℕ → List (List ℕ) → List ℕ → Type 0
ArePatternAnswers Count text patterns numbers = numbers ≡ map (occurrences text) patterns
ArePatternAnswers Locate text patterns numbers = AreAllPositions patterns text numbers
ArePatternAnswers Lines text patterns numbers = LinesWith patterns text numbers

-- what that can be in a text of n letters: a count is at most that of all positions, a position one of a letter or the
-- end, and positions and lines rise
abbrev pub AreWithin : Asked → ℕ → List (List ℕ) → List ℕ → Type 0
AreWithin Count n patterns numbers = (length numbers ≡ length patterns) × All (λ count. count ≤ n + 1) numbers
AreWithin Locate n patterns numbers = All (λ position. position ≤ n) numbers × IsStrictlyIncreasing numbers
AreWithin Lines n patterns numbers = All (λ line. 0 < line) numbers × IsStrictlyIncreasing numbers

-- whether some pattern was found
abbrev pub is_found : Asked → List ℕ → Bool
is_found Count counts = list_any (λ count. nat_lt 0 count) counts
is_found Locate all_positions = nat_lt 0 (length all_positions)
is_found Lines lines = nat_lt 0 (length lines)

-- numbers were written, each as a line: the writer's bytes, where the writer shows them, went from before to after by
-- just these. The file holds a block that is as long as that of a text, and as it was written if its sums are looked at;
-- the numbers are what is asked of the text whose index the file is, if it is one, and else within what they can be
pub record WroteOfFile (asked : Asked) (sums : Bool) (file : List ℕ) (patterns : List (List ℕ)) (before after : Option (List ℕ)) (found : Bool)
    : Type 0 where
  pub block : List ℕ
  pub words : words_of_bytes file ≡ Some block
  pub opened : IsOpened sums block
  pub numbers : List ℕ
  pub answers : (text : List ℕ) → IsTextFile file text → ArePatternAnswers asked text patterns numbers
  pub within : AreWithin asked (parts_in block).tables.letters.len patterns numbers
  pub found_is : found ≡ is_found asked numbers
  pub written : Appends before after (flat_map line_of numbers)

-- at how many positions of the file's text each pattern stands was written
abbrev pub WroteCounts : Bool → List ℕ → List (List ℕ) → Option (List ℕ) → Option (List ℕ) → Bool → Type 0
WroteCounts = WroteOfFile Count

-- the positions of the file's text at which one of the patterns stands were written
abbrev pub WrotePositions : Bool → List ℕ → List (List ℕ) → Option (List ℕ) → Option (List ℕ) → Bool → Type 0
WrotePositions = WroteOfFile Locate

-- the numbers of the lines of the file's text that have one of the patterns were written
abbrev pub WroteLines : Bool → List ℕ → List (List ℕ) → Option (List ℕ) → Option (List ℕ) → Bool → Type 0
WroteLines = WroteOfFile Lines

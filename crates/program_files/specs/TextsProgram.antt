-- What a run of the program did with a text.
use Rattle.std.specs.Prelude.{◌≡◌, ℕ, Bool, true, List, [], ◌∷◌, codes, Option, Some, if◌then◌else◌}
use Rattle.std.specs.Str.{bytes_eq}
use Rattle.std.specs.Str.Lines.{lines}
use Rattle.program_base.specs.Known.{IsKnownAs, Known}
use Rattle.program_files.specs.Answers.{WroteOfFile}
use Rattle.program_files.specs.TextsBuilding.{WroteText}
use Rattle.program_files.specs.TextsCommand.{command_in}
use Rattle.program_files.specs.declared.texts.command.Asked.{Asked}
use Rattle.program_files.specs.declared.texts.command.Command.{Command}
use Rattle.program_files.specs.declared.texts.command.Command.TheVariants.{Build, Ask}
use Rattle.program_files.specs.declared.texts.command.Given.{Given}
use Rattle.program_files.specs.declared.texts.command.Given.TheVariants.{Word, Listed}

-- what is known of a list of patterns: the file at the path, or the standard input where that is `-`
abbrev pub known_list : Known → List ℕ → Option (List ℕ)
known_list known path = if bytes_eq path (codes "-") then known.input else known.files path

-- what is asked of the patterns of a list was written, one a line
pub record WroteOfList (known : Known) (asked : Asked) (sums : Bool) (file path : List ℕ) (before after : Option (List ℕ)) (found : Bool) : Type 0 where
  pub list : List ℕ
  pub is : IsKnownAs (known_list known path) list
  pub wrote : WroteOfFile asked sums file (lines list) before after found

-- what is asked was written of the one pattern that the operand is, or of the patterns of the list at that path
abbrev pub WroteOfGiven : Known → Given → Asked → Bool → List ℕ → List ℕ → Option (List ℕ) → Option (List ℕ) → Bool → Type 0
WroteOfGiven known Word asked sums file operand before after found = WroteOfFile asked sums file (operand ∷ []) before after found
WroteOfGiven known Listed asked sums file operand before after found = WroteOfList known asked sums file operand before after found

-- the command was done, and good says that it found something: the file of the text in the standard input was written, or
-- what is asked of patterns in the text of the file at the path
abbrev pub IsDone : Known → Command → List ℕ → List ℕ → Option (List ℕ) → Option (List ℕ) → Bool → Type 0
IsDone known Build operand path before after good =
    (text : List ℕ) × IsKnownAs known.input text × WroteText text before after × (good ≡ true)
IsDone known (Ask asked options) operand path before after good =
    (file : List ℕ) × IsKnownAs (known.files path) file × WroteOfGiven known options.given asked options.sums file operand before after good

-- the same as one fact
pub record Did (known : Known) (command : Command) (operand path : List ℕ) (before after : Option (List ℕ)) (good : Bool) : Type 0 where
  pub done : IsDone known command operand path before after good

-- the arguments, which follow `text`, are a command, and it was done
pub record DidAsAsked (known : Known) (args : List (List ℕ)) (before after : Option (List ℕ)) (good : Bool) : Type 0 where
  pub command : Command
  pub operand : List ℕ
  pub path : List ℕ
  pub asked : command_in args ≡ Some (command, operand, path)
  pub did : Did known command operand path before after good

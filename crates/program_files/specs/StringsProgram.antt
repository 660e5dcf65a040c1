-- What a run of the program did with strings.
use Rattle.std.specs.Prelude.{◌≡◌, ℕ, Bool, true, List, Option, Some}
use Rattle.program_base.specs.Known.{IsKnownAs, Known}
use Rattle.program_files.specs.StringsBuilding.{WroteStrings}
use Rattle.program_files.specs.StringsCommand.{command_in}
use Rattle.program_files.specs.Finding.{WroteFound}
use Rattle.program_files.specs.declared.strings.command.Command.{Command}
use Rattle.program_files.specs.declared.strings.command.Command.TheVariants.{Build, Find}

-- the command was done, and good says that it found something: the block of the lines of the standard input was written,
-- or their numbers among the strings of the file at the path
abbrev pub IsDone : Known → Command → List ℕ → Option (List ℕ) → Option (List ℕ) → Bool → Type 0
IsDone known Build path before after good =
    (text : List ℕ) × IsKnownAs known.input text × WroteStrings text before after × (good ≡ true)
IsDone known (Find form) path before after good =
    (file text : List ℕ) × IsKnownAs (known.files path) file × IsKnownAs known.input text × WroteFound form file text before after good

-- the same as one fact
pub record Did (known : Known) (command : Command) (path : List ℕ) (before after : Option (List ℕ)) (good : Bool) : Type 0 where
  pub done : IsDone known command path before after good

-- the arguments, which follow `strings`, are a command, and it was done
pub record DidAsAsked (known : Known) (args : List (List ℕ)) (before after : Option (List ℕ)) (good : Bool) : Type 0 where
  pub command : Command
  pub path : List ℕ
  pub asked : command_in args ≡ Some (command, path)
  pub did : Did known command path before after good

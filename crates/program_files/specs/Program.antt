-- What a run of the program did.
use Rattle.std.specs.Prelude.{◌≡◌, ℕ, List, Bool, true, Option, Some}
use Rattle.program_base.specs.Known.{IsKnownAs, Known}
use Rattle.program_files.specs.Building.{WroteBlock}
use Rattle.program_files.specs.Command.{command_in}
use Rattle.program_files.specs.Old.{RepliesOfFile}
use Rattle.program_files.specs.declared.blocks.command.Command.{Command}
use Rattle.program_files.specs.declared.blocks.command.Command.TheVariants.{Build, Query}

-- the command was done on what follows its word, and good says that all went well: the block of the numbers in the
-- standard input was written, or the replies of what a file holds to the questions there
abbrev pub IsDone : Known → Command → List ℕ → Option (List ℕ) → Option (List ℕ) → Bool → Type 0
IsDone known (Build kind) operand before after good =
    (text : List ℕ) × IsKnownAs known.input text × WroteBlock kind text before after × (good ≡ true)
IsDone known (Query form) path before after good =
    (bytes : List ℕ) × (text : List ℕ) × IsKnownAs (known.files path) bytes × IsKnownAs known.input text × RepliesOfFile form bytes text before after good

-- the same as one fact
pub record Did (known : Known) (command : Command) (operand : List ℕ) (before after : Option (List ℕ)) (good : Bool) : Type 0 where
  pub done : IsDone known command operand before after good

-- the arguments are a command, and it was done
pub record DidAsAsked (known : Known) (args : List (List ℕ)) (before after : Option (List ℕ)) (good : Bool) : Type 0 where
  pub command : Command
  pub operand : List ℕ
  pub asked : command_in args ≡ Some (command, operand)
  pub did : Did known command operand before after good

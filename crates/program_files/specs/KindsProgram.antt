-- What a run of the program did with a block.
use Rattle.std.specs.Prelude.{◌≡◌, ◌↔◌, ◌⊎◌, ℕ, List, codes, Bool, true, false, Option, Some, Result, Ok, Err, IsTrue, if◌then◌else◌}
use Rattle.std.specs.Io.KnownBytes.{Appends}
use Rattle.program_files.specs.Format.{format_in}
use Rattle.program_files.specs.Old.{IsOldFile}
use Rattle.program_files.specs.declared.blocks.failure.Failure.{Failure}
use Rattle.program_files.specs.declared.blocks.format.Format.{Format}
use Rattle.program_files.specs.declared.blocks.format.Format.TheVariants.{Block, Old}
use Rattle.program_base.specs.Known.{IsKnownAs, Known}
use Rattle.program_base.specs.declared.runs.form.Form.{Form}
use Rattle.program_base.specs.declared.runs.form.Form.TheVariants.{Text, Json}
use Rattle.program_files.specs.KindsCommand.{command_in}
use Rattle.program_files.specs.Info.{WroteInfoOfFile}
use Rattle.program_files.specs.KindsSound.{IsSoundFile}
use Rattle.program_files.specs.declared.kinds.command.Command.{Command}
use Rattle.program_files.specs.declared.kinds.command.Command.TheVariants.{Check, Info}

-- what `check` writes of bytes that say a version: of version 2 that its parts have no checksum
abbrev pub verdict_text : Form → Result Format Failure → Bool → List ℕ
verdict_text Json format good = if good then codes "true\n" else codes "false\n"
verdict_text Text (Ok Old) true = codes "good: the parts fit each other (version 2, which has no checksum of them)\n"
verdict_text Text (Ok Old) false = codes "wrong\n"
verdict_text Text (Ok Block) good = if good then codes "good\n" else codes "wrong\n"
verdict_text Text (Err e) good = if good then codes "good\n" else codes "wrong\n"

-- it was written whether the bytes are a block that is as it was written, or a file of version 2 whose parts fit each
-- other, and good says that
pub record WroteCheck (form : Form) (bytes : List ℕ) (before after : Option (List ℕ)) (good : Bool) : Type 0 where
  pub reported : IsTrue good ↔ (IsSoundFile bytes ⊎ IsOldFile bytes)
  pub written : Appends before after (verdict_text form (format_in bytes) good)

-- the command was done on the file at a path, and good says that all went well: it was written whether its bytes are right,
-- or what is said of them where they are
abbrev pub IsDone : Known → Command → List ℕ → Option (List ℕ) → Option (List ℕ) → Bool → Type 0
IsDone known (Check form) path before after good =
    (bytes : List ℕ) × IsKnownAs (known.files path) bytes × WroteCheck form bytes before after good
IsDone known (Info form) path before after good =
    (bytes : List ℕ) × IsKnownAs (known.files path) bytes × WroteInfoOfFile form bytes before after × (good ≡ true)

-- the same as one fact
pub record Did (known : Known) (command : Command) (path : List ℕ) (before after : Option (List ℕ)) (good : Bool) : Type 0 where
  pub done : IsDone known command path before after good

-- the arguments are a command, and it was done
pub record DidAsAsked (known : Known) (args : List (List ℕ)) (before after : Option (List ℕ)) (good : Bool) : Type 0 where
  pub command : Command
  pub path : List ℕ
  pub asked : command_in args ≡ Some (command, path)
  pub did : Did known command path before after good

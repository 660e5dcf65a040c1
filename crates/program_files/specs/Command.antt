-- The command that the arguments are.
use Rattle.std.specs.Prelude.{ℕ, List, [], ◌∷◌, codes, Option, None, Some, option_map, if◌then◌else◌}
use Rattle.std.specs.Str.{bytes_eq}
use Rattle.program_base.specs.Form.{form_of}
use Rattle.program_base.specs.declared.runs.form.Form.TheVariants.{Text}
use Rattle.program_files.specs.Kind.{kind_named}
use Rattle.program_files.specs.declared.blocks.command.Command.{Command}
use Rattle.program_files.specs.declared.blocks.command.Command.TheVariants.{Build, Query}

-- the command that a word and what follows it are
abbrev pub command_of : List ℕ → List ℕ → Option Command
command_of word operand =
    if bytes_eq word (codes "build") then option_map Build (kind_named operand)
    else if bytes_eq word (codes "query") then Some (Query Text)
    else None

-- the command that a word and its option are
abbrev pub command_with : List ℕ → List ℕ → Option Command
command_with word option = if bytes_eq word (codes "query") then option_map Query (form_of option) else None

-- the command that these arguments are, and what follows its word and its option
abbrev pub command_in : List (List ℕ) → Option (Command × List ℕ)
command_in [] = None
command_in (word ∷ []) = None
command_in (word ∷ operand ∷ []) = option_map (λ command. (command, operand)) (command_of word operand)
command_in (word ∷ option ∷ operand ∷ []) = option_map (λ command. (command, operand)) (command_with word option)
command_in (word ∷ option ∷ operand ∷ other ∷ more) = None

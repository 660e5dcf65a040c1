-- The commands of the program.
use Rattle.std.specs.Prelude.{ℕ, List, [], ◌∷◌, codes, Option, None, Some, option_and_then, option_map, if◌then◌else◌}
use Rattle.std.specs.Str.{bytes_eq}
use Rattle.program_base.specs.Form.{form_of}
use Rattle.program_base.specs.declared.runs.form.Form.{Form}
use Rattle.program_base.specs.declared.runs.form.Form.TheVariants.{Text}
use Rattle.program_files.specs.declared.kinds.command.Command.{Command}
use Rattle.program_files.specs.declared.kinds.command.Command.TheVariants.{Check, Info}

-- the command of a word, with its form
abbrev pub command_with_form : List ℕ → Form → Option Command
command_with_form word form = if bytes_eq word (codes "check") then Some (Check form) else if bytes_eq word (codes "info") then Some (Info form) else None

-- the command that these arguments are, with the path of its file
abbrev pub command_in : List (List ℕ) → Option (Command × List ℕ)
command_in [] = None
command_in (word ∷ []) = None
command_in (word ∷ path ∷ []) = option_map (λ command. (command, path)) (command_with_form word Text)
command_in (word ∷ option ∷ path ∷ []) = option_map (λ command. (command, path)) (option_and_then (command_with_form word) (form_of option))
command_in (word ∷ option ∷ path ∷ other ∷ more) = None

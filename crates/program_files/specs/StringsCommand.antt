-- The commands of the program.
use Rattle.std.specs.Prelude.{ℕ, List, [], ◌∷◌, codes, Option, None, Some, option_map, if◌then◌else◌}
use Rattle.std.specs.Str.{bytes_eq}
use Rattle.program_base.specs.Form.{form_of}
use Rattle.program_base.specs.declared.runs.form.Form.TheVariants.{Text}
use Rattle.program_files.specs.declared.strings.command.Command.{Command}
use Rattle.program_files.specs.declared.strings.command.Command.TheVariants.{Build, Find}

-- the command that these arguments are, which follow `strings`, with the path of its file
abbrev pub command_in : List (List ℕ) → Option (Command × List ℕ)
command_in [] = None
command_in (word ∷ []) = if bytes_eq word (codes "build") then Some (Build, []) else None
command_in (word ∷ path ∷ []) = if bytes_eq word (codes "find") then Some (Find Text, path) else None
command_in (word ∷ option ∷ path ∷ []) =
    if bytes_eq word (codes "find") then option_map (λ form. (Find form, path)) (form_of option) else None
command_in (word ∷ option ∷ path ∷ other ∷ more) = None

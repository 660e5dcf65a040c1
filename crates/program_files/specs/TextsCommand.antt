-- The command that the arguments are.
use Rattle.std.specs.Prelude.{ℕ, Bool, List, [], ◌∷◌, codes, true, false, ◌==◌, get_or, length, Option, None, Some, option_and_then, if◌then◌else◌}
use Rattle.std.specs.Str.{bytes_eq}
use Rattle.program_files.specs.declared.texts.command.Asked.{Asked}
use Rattle.program_files.specs.declared.texts.command.Asked.TheVariants.{Count, Locate, Lines}
use Rattle.program_files.specs.declared.texts.command.Command.{Command}
use Rattle.program_files.specs.declared.texts.command.Command.TheVariants.{Build, Ask}
use Rattle.program_files.specs.declared.texts.command.Given.{Given}
use Rattle.program_files.specs.declared.texts.command.Given.TheVariants.{Word, Listed}
use Rattle.program_files.specs.declared.texts.command.Options.{Options}

-- what a word asks of patterns in the text of a file
abbrev pub asked_by : List ℕ → Option Asked
asked_by word =
    if bytes_eq word (codes "count") then Some Count
    else if bytes_eq word (codes "locate") then Some Locate
    else if bytes_eq word (codes "lines") then Some Lines
    else None

-- the one pattern is a word, and sums are looked at
abbrev pub plainly : Options
plainly = record { given = Word; sums = true }

-- what is asked for with one more option, where the pattern is this and sums are looked at or not: it is none after `-f`,
-- which the path of the list follows. The numbers that are written are JSON, with `--json` and without it
abbrev pub option_after : Given → Bool → List ℕ → Option Options
option_after Listed sums option = None
option_after Word sums option =
    if bytes_eq option (codes "--no-check") then Some (record { given = Word; sums = false })
    else if bytes_eq option (codes "--json") then Some (record { given = Word; sums = sums })
    else if bytes_eq option (codes "-f") then Some (record { given = Listed; sums = sums })
    else None

abbrev pub option_with : Options → List ℕ → Option Options
option_with chosen option = option_after chosen.given chosen.sums option

-- the question of these arguments: options, its operand and the path of its file
abbrev pub ask_with : Asked → Options → List (List ℕ) → Option (Command × List ℕ × List ℕ)
ask_with asked chosen [] = None
ask_with asked chosen (word ∷ rest) =
    if length rest == 1 then Some (Ask asked chosen, word, get_or rest 0 [])
    else option_and_then (λ more. ask_with asked more rest) (option_with chosen word)

-- the command that these arguments are, which follow `text`, with its operand and the path of its file
abbrev pub command_in : List (List ℕ) → Option (Command × List ℕ × List ℕ)
command_in [] = None
command_in (word ∷ []) = if bytes_eq word (codes "build") then Some (Build, [], []) else None
command_in (word ∷ next ∷ more) = option_and_then (λ asked. ask_with asked plainly (next ∷ more)) (asked_by word)

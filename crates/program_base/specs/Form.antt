-- How the answers of a command are written.
use Rattle.std.specs.Prelude.{ℕ, List, codes, Option, None, Some, if◌then◌else◌}
use Rattle.std.specs.Str.{bytes_eq}
use Rattle.program_base.specs.declared.runs.form.Form.{Form}
use Rattle.program_base.specs.declared.runs.form.Form.TheVariants.{Text, Json}

-- the form that an option selects
abbrev pub form_of : List ℕ → Option Form
form_of option = if bytes_eq option (codes "--json") then Some Json else None

-- what is written where there is no number
abbrev pub none_in : Form → List ℕ
none_in Text = codes "none"
none_in Json = codes "null"

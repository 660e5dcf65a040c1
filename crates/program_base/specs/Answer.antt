-- The text of each answer.
use Rattle.std.specs.Prelude.{ℕ, List, [], ◌∷◌, ◌++◌, codes, Bool, true, false}
use Rattle.std.specs.Fmt.{decimal}
use Rattle.std.specs.List.{flat_map}
use Rattle.program_base.specs.declared.session.answer.Answer.{Answer}
use Rattle.program_base.specs.declared.session.answer.Answer.TheVariants.{Accepted, Ones, Number, Absent, NotBuilt, NoMemory, BadCommand}

abbrev pub answer_text : Answer → List ℕ
answer_text (Accepted number) = codes "ok " ++ decimal number
answer_text (Ones count) = codes "ones " ++ decimal count
answer_text (Number number) = decimal number
answer_text Absent = codes "none"
answer_text NotBuilt = codes "not built"
answer_text NoMemory = codes "no memory"
answer_text BadCommand = codes "bad command"

-- the answers, each with a line feed after it
abbrev pub answers_text : List Answer → List ℕ
answers_text answers = flat_map (λ answer. answer_text answer ++ 10 ∷ []) answers

abbrev pub is_good : Answer → Bool
is_good (Accepted number) = true
is_good (Ones count) = true
is_good (Number number) = true
is_good Absent = true
is_good NotBuilt = true
is_good NoMemory = true
is_good BadCommand = false

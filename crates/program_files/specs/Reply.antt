-- The text of each reply, its JSON, and what it answers.
use Rattle.std.specs.Prelude.{ℕ, List, [], ◌∷◌, ◌++◌, codes, Bool, true, false, if◌then◌else◌}
use Rattle.std.specs.Fmt.{decimal}
use Rattle.std.specs.List.{flat_map}
use Rattle.bitm.specs.Answer as answer
use Rattle.bitm.specs.Answer.TheVariants as answers
use Rattle.program_base.specs.Form.{none_in}
use Rattle.program_base.specs.declared.runs.form.Form.{Form}
use Rattle.program_base.specs.declared.runs.form.Form.TheVariants.{Text, Json}
use Rattle.program_files.specs.declared.blocks.reply.Reply.{Reply}
use Rattle.program_files.specs.declared.blocks.reply.Reply.TheVariants.{Number, Absent, Wrong, BadQuestion}

abbrev pub reply_text : Reply → List ℕ
reply_text (Number number) = decimal number
reply_text Absent = none_in Text
reply_text Wrong = codes "wrong block"
reply_text BadQuestion = codes "bad question"

-- the JSON value of a reply
abbrev pub reply_json : Reply → List ℕ
reply_json (Number number) = decimal number
reply_json Absent = none_in Json
reply_json Wrong = codes "{\"error\":\"wrong block\"}"
reply_json BadQuestion = codes "{\"error\":\"bad question\"}"

-- a reply in one of the forms
abbrev pub reply_in : Form → Reply → List ℕ
reply_in Text reply = reply_text reply
reply_in Json reply = reply_json reply

-- the replies, each with a line feed after it
abbrev pub replies_text : Form → List Reply → List ℕ
replies_text form replies = flat_map (λ reply. reply_in form reply ++ 10 ∷ []) replies

abbrev pub is_good_reply : Reply → Bool
is_good_reply (Number number) = true
is_good_reply Absent = true
is_good_reply Wrong = true
is_good_reply BadQuestion = false

-- the answer that a reply says, and Wrong where it says none
abbrev pub answer_in_reply : Reply → answer.Answer ℕ
answer_in_reply (Number number) = answers.Found number
answer_in_reply Absent = answers.Absent
answer_in_reply Wrong = answers.Wrong
answer_in_reply BadQuestion = answers.Wrong

-- the number 0 or 1 of a bit
abbrev pub as_number : answer.Answer Bool → answer.Answer ℕ
as_number (answers.Found bit) = answers.Found (if bit then 1 else 0)
as_number answers.Absent = answers.Absent
as_number answers.Wrong = answers.Wrong

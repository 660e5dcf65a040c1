-- The numbers of lines among strings.
use Rattle.std.specs.Prelude.{◌≡◌, ⊤, ℕ, Bool, true, false, List, [], ◌∷◌, ◌++◌, codes, length, slice_index, Option, Some, IsSomeAnd}
use Rattle.std.specs.Fmt.{decimal}
use Rattle.std.specs.Io.KnownBytes.{Appends}
use Rattle.std.specs.List.{flat_map, list_any}
use Rattle.bitm_tables.specs.declared.answer.Answer.{Answer}
use Rattle.bitm_tables.specs.declared.answer.Answer.TheVariants.{Found, Absent, Wrong}
use Rattle.program_files.specs.Bytes.{words_of_bytes}
use Rattle.program_base.specs.Form.{none_in}
use Rattle.program_base.specs.declared.runs.form.Form.{Form}
use Rattle.program_base.specs.Text.{lines_of}
use Rattle.hash_block.specs.StringsBlock.{strings_in, IsSoundBlock}
use Rattle.hash_block.specs.StringsParts.{IsStringFound, StringParts}

-- the line that says a number, or that there is none
abbrev pub answer_line : Form → Answer ℕ → List ℕ
answer_line form (Found number) = decimal number ++ codes "\n"
answer_line form Absent = none_in form ++ codes "\n"
answer_line form Wrong = none_in form ++ codes "\n"

-- whether it is a number
abbrev pub is_number_found : Answer ℕ → Bool
is_number_found (Found number) = true
is_number_found Absent = false
is_number_found Wrong = false

-- the answer to a line: the number of the string that it is, or that it is none of the strings
abbrev pub IsLineAnswer : StringParts → List ℕ → Answer ℕ → Type 0
IsLineAnswer parts line answer = IsStringFound parts (slice_index line) (length line) answer

-- these are the answers to these lines, one for each and in their order
abbrev pub AreAnswers : StringParts → List (List ℕ) → List (Answer ℕ) → Type 0
AreAnswers parts [] [] = ⊤
AreAnswers parts (line ∷ lines) (answer ∷ answers) = IsLineAnswer parts line answer × AreAnswers parts lines answers
AreAnswers parts [] (answer ∷ answers) = ⊥
AreAnswers parts (line ∷ lines) [] = ⊥

-- the answer to a line was written: the writer's bytes, where the writer shows them, went from before to after by just it;
-- and found says that it is a number
pub record WroteNumber (form : Form) (parts : StringParts) (line : List ℕ) (before after : Option (List ℕ)) (found : Bool) : Type 0 where
  pub answer : Answer ℕ
  pub reported : found ≡ is_number_found answer
  pub is : IsLineAnswer parts line answer
  pub written : Appends before after (answer_line form answer)

-- the answers to these lines were, and found says that one of them is a number
pub record WroteNumbers (form : Form) (parts : StringParts) (lines : List (List ℕ)) (before after : Option (List ℕ)) (found : Bool) : Type 0 where
  pub answers : List (Answer ℕ)
  pub reported : found ≡ list_any is_number_found answers
  pub are : AreAnswers parts lines answers
  pub written : Appends before after (flat_map (answer_line form) answers)

-- the bytes are those of a block of strings, as it was written
abbrev pub IsStringFile : List ℕ → Type 0
IsStringFile bytes = IsSomeAnd (words_of_bytes bytes) IsSoundBlock

-- they are, and the answers of these strings to the lines of a text were written
pub record WroteFound (form : Form) (bytes text : List ℕ) (before after : Option (List ℕ)) (found : Bool) : Type 0 where
  pub block : List ℕ
  pub words : words_of_bytes bytes ≡ Some block
  pub sound : IsSoundBlock block
  pub wrote : WroteNumbers form (strings_in block) (lines_of text) before after found

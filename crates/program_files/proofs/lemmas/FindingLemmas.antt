-- How lines are answered one by one.
use Rattle.std.proofs.Common.{◌≡◌, ◌||◌, ℕ, Bool, true, false, refl, List, [], ◌∷◌, ◌++◌, ◌∙◌, Option, Some, ap, append-nil, subst, sym}
use Rattle.std.proofs.KnownBytes.{Appends-trans}
use Rattle.std.proofs.lemmas.Grind.{flat_map-append}
use Rattle.std.specs.Io.KnownBytes.{Appends}
use Rattle.std.specs.List.{flat_map, list_any}
use Rattle.bitm_tables.specs.declared.answer.Answer.{Answer}
use Rattle.program_files.specs.Bytes.{words_of_bytes}
use Rattle.program_base.specs.declared.runs.form.Form.{Form}
use Rattle.program_base.specs.Text.{lines_of}
use Rattle.program_files.specs.Finding.{answer_line, is_number_found, AreAnswers, IsLineAnswer, WroteFound, WroteNumber, WroteNumbers}
use Rattle.hash_block.specs.StringsBlock.{strings_in, IsSoundBlock}
use Rattle.hash_block.specs.StringsParts.{StringParts}

or-false : (b : Bool) → b ≡ (b || false)
or-false true = refl
or-false false = refl

or-more : (a b c d : Bool) → (b || c) ≡ d → ((a || b) || c) ≡ (a || d)
or-more true b c d h = refl
or-more false b c d h = h

answers-more : (parts : StringParts) (lines : List (List ℕ)) (answers : List (Answer ℕ)) (line : List ℕ) (answer : Answer ℕ)
    → AreAnswers parts lines answers → IsLineAnswer parts line answer → AreAnswers parts (lines ++ line ∷ []) (answers ++ answer ∷ [])
answers-more parts [] [] line answer h one = (one, tt)
answers-more parts [] (a ∷ answers) line answer h one = absurd h
answers-more parts (l ∷ lines) [] line answer h one = absurd h
answers-more parts (l ∷ lines) (a ∷ answers) line answer h one = (h.0, answers-more parts lines answers line answer h.1 one)

-- one of them or the next is a number
any-more : (answers : List (Answer ℕ)) (answer : Answer ℕ)
    → (list_any is_number_found answers || is_number_found answer) ≡ list_any is_number_found (answers ++ answer ∷ [])
any-more [] answer = or-false (is_number_found answer)
any-more (a ∷ answers) answer = or-more (is_number_found a) (list_any is_number_found answers) (is_number_found answer) _ (any-more answers answer)

text-more : (form : Form) (answers : List (Answer ℕ)) (answer : Answer ℕ)
    → flat_map (answer_line form) (answers ++ answer ∷ []) ≡ flat_map (answer_line form) answers ++ answer_line form answer
text-more form answers answer =
    flat_map-append (answer_line form) answers (answer ∷ []) ∙ ap (λ l. flat_map (answer_line form) answers ++ l) (append-nil (answer_line form answer))

pub wrote-more : (form : Form) (parts : StringParts) (lines : List (List ℕ)) (line : List ℕ) (a b c : Option (List ℕ)) (found one_is : Bool)
    → WroteNumbers form parts lines a b found → WroteNumber form parts line b c one_is → WroteNumbers form parts (lines ++ line ∷ []) a c (found || one_is)
wrote-more form parts lines line a b c found one_is h one = record {
  answers = h.answers ++ one.answer ∷ [];
  reported = ap (λ f. f || one_is) h.reported ∙ ap (λ o. list_any is_number_found h.answers || o) one.reported ∙ any-more h.answers one.answer;
  are = answers-more parts lines h.answers line one.answer h.are one.is;
  written = subst (λ l. Appends a c l) (sym (text-more form h.answers one.answer)) (Appends-trans a b c _ _ h.written one.written);
}

-- what was written of a view's strings was written of those of its file
pub wrote-found : (form : Form) (bytes block text : List ℕ) (parts : StringParts) (a b : Option (List ℕ)) (found : Bool) → words_of_bytes bytes ≡ Some block
    → IsSoundBlock block → parts ≡ strings_in block → WroteNumbers form parts (lines_of text) a b found → WroteFound form bytes text a b found
wrote-found form bytes block text parts a b found words sound same wrote = record {
  block = block;
  words = words;
  sound = sound;
  wrote = subst (λ p. WroteNumbers form p (lines_of text) a b found) same wrote;
}

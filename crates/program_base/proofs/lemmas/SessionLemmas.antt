-- How a session goes on by one line.
use Rattle.std.proofs.Common.{◌≡◌, ℕ, ◌*◌, ◌<◌, Bool, true, false, cond, ◌&&◌, nat_lt, List, [], ◌∷◌, ◌++◌, length, set, Option, None, refl, sym, ap, ◌∙◌, subst, append-nil, arith}
use Rattle.std.proofs.KnownBytes.{Appends-trans}
use Rattle.std.proofs.lemmas.Bool.Decides.{nat_tests}
use Rattle.std.proofs.lemmas.Grind.{flat_map-append}
use Rattle.std.proofs.lemmas.List.Folds.{list_all-append}
use Rattle.std.specs.Io.KnownBytes.{Appends}
use Rattle.std.specs.List.{list_all}
use Rattle.bitm.proofs.Callers.{length-bits_of, bits_of-nil}
use Rattle.bitm.specs.Bits.{bits_of}
use Rattle.program_base.specs.Answer.{answer_text, answers_text, is_good}
use Rattle.program_base.specs.Request.{request_of}
use Rattle.program_base.specs.Session.{State, start, Step, Answers, Wrote, WroteAnswer, with_bit}
use Rattle.program_base.specs.declared.session.answer.Answer.{Answer}

chosen : (b : Bool) → b ≡ true → (x y z : State) → z ≡ x → z ≡ cond b x y
chosen true h x y z e = e
chosen false h x y z e = absurd (cc)

and_true : (b : Bool) → (b && true) ≡ b
and_true true = refl
and_true false = refl

pub changed_inside : (s : State) (position : ℕ) (bit : Bool) (bits : List Bool) → position < length s.bits → bits ≡ set s.bits position bit → record { bits = bits; built = None } ≡ with_bit s position bit
changed_inside s position bit bits h e = chosen (nat_lt position (length s.bits)) (grind (arith, nat_tests)) _ s _ (ap (λ (l : List Bool). record { bits = l; built = None }) e)

answers_more : (s mid t : State) (lines : List (List ℕ)) (answers : List Answer) (line : List ℕ) (answer : Answer) → Answers s lines answers mid
    → Step mid (request_of line) answer t → Answers s (lines ++ line ∷ []) (answers ++ answer ∷ []) t
answers_more s mid t [] [] line answer h step = (t, subst (λ m. Step m (request_of line) answer t) h step, refl)
answers_more s mid t [] (a ∷ answers) line answer h step = absurd h
answers_more s mid t (l ∷ lines) [] line answer h step = absurd h
answers_more s mid t (l ∷ lines) (a ∷ answers) line answer h step = (h.0, h.1, answers_more h.0 mid t lines answers line answer h.2 step)

text_more : (answers : List Answer) (answer : Answer) → answers_text (answers ++ answer ∷ []) ≡ answers_text answers ++ (answer_text answer ++ 10 ∷ [])
text_more answers answer =
    flat_map-append (λ a. answer_text a ++ 10 ∷ []) answers (answer ∷ []) ∙ ap (λ l. answers_text answers ++ l) (append-nil (answer_text answer ++ 10 ∷ []))

claimed_more : (answers : List Answer) (answer : Answer) (good : Bool) → good ≡ list_all is_good answers → (good && is_good answer) ≡ list_all is_good (answers ++ answer ∷ [])
claimed_more answers answer good h =
    ap (λ b. b && is_good answer) h ∙ sym (list_all-append is_good answers (answer ∷ []) ∙ ap (λ b. list_all is_good answers && b) (and_true (is_good answer)))

pub wrote_more : (lines : List (List ℕ)) (line : List ℕ) (s t : State) (a b c : Option (List ℕ)) (good : Bool) (answer : Answer) → Wrote lines s a b good
    → Step s (request_of line) answer t → Appends b c (answer_text answer ++ 10 ∷ []) → Wrote (lines ++ line ∷ []) t a c (good && is_good answer)
wrote_more lines line s t a b c good answer h step more = record {
  answers = h.answers ++ answer ∷ [];
  session = answers_more start s t lines h.answers line answer h.session step;
  written = subst (λ l. Appends a c l) (sym (text_more h.answers answer)) (Appends-trans a b c _ _ h.written more);
  reported = claimed_more h.answers answer good h.reported;
}

pub wrote_answer : (lines : List (List ℕ)) (line : List ℕ) (s t : State) (a b c : Option (List ℕ)) (good reported : Bool) → Wrote lines s a b good
    → WroteAnswer line s t b c reported → Wrote (lines ++ line ∷ []) t a c (good && reported)
wrote_answer lines line s t a b c good reported h one =
    subst (λ g. Wrote (lines ++ line ∷ []) t a c (good && g)) (sym one.reported) (wrote_more lines line s t a b c good one.answer h one.step one.written)

-- no words have no bits
pub starts_empty : bits_of [] ≡ []
starts_empty = bits_of-nil

-- under a name that an attribute can write
pub count_of_bits : (words : List ℕ) → length (bits_of words) ≡ 64 * length words
count_of_bits words = length-bits_of words

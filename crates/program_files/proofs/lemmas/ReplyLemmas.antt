-- How a text is answered line by line.
use Rattle.std.proofs.Common.{◌≡◌, ℕ, ◌&&◌, List, [], ◌∷◌, ◌++◌, Bool, true, false, Option, refl, sym, ap, ◌∙◌, subst, append-nil}
use Rattle.std.proofs.KnownBytes.{Appends-trans}
use Rattle.std.proofs.lemmas.Grind.{flat_map-append}
use Rattle.std.proofs.lemmas.List.Folds.{list_all-append}
use Rattle.std.specs.Io.KnownBytes.{Appends}
use Rattle.std.specs.List.{list_all}
use Rattle.program_base.specs.declared.runs.form.Form.{Form}
use Rattle.program_files.specs.Query.{AreReplies, IsReplyTo, WroteReplies, WroteReply}
use Rattle.program_files.specs.Question.{question_of}
use Rattle.program_files.specs.Reply.{is_good_reply, replies_text, reply_in}
use Rattle.program_files.specs.declared.blocks.question.Question.{Question}
use Rattle.program_files.specs.declared.blocks.reply.Reply.{Reply}

and_true : (b : Bool) → (b && true) ≡ b
and_true true = refl
and_true false = refl

replies_more : (R : Question → Reply → Type 0) (lines : List (List ℕ)) (replies : List Reply) (line : List ℕ) (reply : Reply) → AreReplies R lines replies
    → IsReplyTo R (question_of line) reply → AreReplies R (lines ++ line ∷ []) (replies ++ reply ∷ [])
replies_more R [] [] line reply h one = (one, h)
replies_more R [] (r ∷ replies) line reply h one = absurd h
replies_more R (l ∷ lines) [] line reply h one = absurd h
replies_more R (l ∷ lines) (r ∷ replies) line reply h one = (h.0, replies_more R lines replies line reply h.1 one)

text_more : (form : Form) (replies : List Reply) (reply : Reply) → replies_text form (replies ++ reply ∷ []) ≡ replies_text form replies ++ (reply_in form reply ++ 10 ∷ [])
text_more form replies reply =
    flat_map-append (λ r. reply_in form r ++ 10 ∷ []) replies (reply ∷ []) ∙ ap (λ l. replies_text form replies ++ l) (append-nil (reply_in form reply ++ 10 ∷ []))

claimed_more : (replies : List Reply) (reply : Reply) (good reported : Bool) → good ≡ list_all is_good_reply replies → reported ≡ is_good_reply reply → (good && reported) ≡ list_all is_good_reply (replies ++ reply ∷ [])
claimed_more replies reply good reported h one =
    ap (λ b. b && reported) h ∙ ap (λ b. list_all is_good_reply replies && b) one
    ∙ sym (list_all-append is_good_reply replies (reply ∷ []) ∙ ap (λ b. list_all is_good_reply replies && b) (and_true (is_good_reply reply)))

pub wrote_more : (form : Form) (R : Question → Reply → Type 0) (lines : List (List ℕ)) (line : List ℕ) (a b c : Option (List ℕ)) (good reported : Bool) → WroteReplies form R lines a b good
    → WroteReply form R line b c reported → WroteReplies form R (lines ++ line ∷ []) a c (good && reported)
wrote_more form R lines line a b c good reported h one = record {
  replies = h.replies ++ one.reply ∷ [];
  answers = replies_more R lines h.replies line one.reply h.answers one.answers;
  written = subst (λ l. Appends a c l) (sym (text_more form h.replies one.reply)) (Appends-trans a b c _ _ h.written one.written);
  reported = claimed_more h.replies one.reply good reported h.reported one.reported;
}

-- What is known of a block that was opened, or was not.
use Rattle.std.proofs.Common.{◌≡◌, List, ℕ, Bool, Option, None, Some, Result, Ok, Err, sym, subst, SomeIff, IfSome, IsSomeAnd, IfOk}
use Rattle.program_base.specs.declared.runs.form.Form.{Form}
use Rattle.program_files.specs.Bytes.{words_of_bytes}
use Rattle.program_files.specs.Kind.{number_kind_in}
use Rattle.program_files.specs.Query.{Replies, WroteAnswers, WroteReplies}
use Rattle.program_files.specs.Sound.{AreSoundNumbersOf}
use Rattle.program_files.specs.declared.blocks.kind.Kind.{Kind}
use Rattle.program_files.specs.declared.blocks.question.Question.{Question}
use Rattle.program_files.specs.declared.blocks.reply.Reply.{Reply}

pub opened_has : {T : Type 0} (o : Option T) (S : Type 0) (v : T) (P : T → Type 0) → SomeIff o S v → IsSomeAnd o P → S × P v
opened_has None S v P iff some = absurd some
opened_has (Some x) S v P iff some = (iff.0, subst P iff.1 some)

-- what the block holds is held by what was opened
pub opened_holds : {T : Type 0} (o : Option T) (S : Type 0) (v : T) (P : T → Type 0) → SomeIff o S v → P v → IfSome o P
opened_holds None S v P iff has = tt
opened_holds (Some x) S v P iff has = subst P (sym iff.1) has

-- what was written by an opened structure was written by what the block holds
pub answers_kept : {E V : Type 0} (form : Form) (r : Result Bool E) (o : Option V) (S : Type 0) (v : V) (R : V → Question → Reply → Type 0) (lines : List (List ℕ))
    (a b : Option (List ℕ)) → SomeIff o S v → IfOk r (λ good. IsSomeAnd o (λ view. WroteReplies form (R view) lines a b good))
    → IfOk r (λ good. WroteReplies form (R v) lines a b good)
answers_kept form (Ok good) o S v R lines a b iff h = (opened_has o S v (λ view. WroteReplies form (R view) lines a b good) iff h).1
answers_kept form (Err e) o S v R lines a b iff h = tt

pub replies_of_kind : {E : Type 0} (form : Form) (r : Result Bool E) (bytes text block : List ℕ) (kind : Kind) (a b : Option (List ℕ)) → words_of_bytes bytes ≡ Some block
    → number_kind_in block ≡ Some kind → IfOk r (λ good. AreSoundNumbersOf kind block) → IfOk r (λ good. WroteAnswers form kind block text a b good)
    → IfOk r (λ good. Replies form bytes text a b good)
replies_of_kind form (Ok good) bytes text block kind a b words says sound wrote = record {
  block = block;
  words = words;
  sound = record { kind = kind; says = says; sound = sound };
  wrote = wrote;
}
replies_of_kind form (Err e) bytes text block kind a b words says sound wrote = tt

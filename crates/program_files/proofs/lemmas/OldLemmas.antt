-- Files of version 2: where their parts are, and what is known of one that was opened, or was not.
use Rattle.std.proofs.Common.{◌≡◌, ◌↔◌, ◌⊎◌, ℕ, ◌≤◌, List, Bool, Option, None, Some, Result, Ok, Err, subst, inl, inr, refl, arith, is_some, IsNone, IsTrue, SomeIff, IsSomeAnd, IfOk}
use Rattle.bitm_abi.specs.Stored.{end_of_span, IsHeaded, LiesWithin}
use Rattle.bitm_abi.specs.declared.layout.Stored.{Stored}
use Rattle.bitm_view.specs.Cut.{bits_of_cut, Cut}
use Rattle.elias_fano.specs.SequenceParts.{Holds, SequenceParts}
use Rattle.program_base.specs.Text.{lines_of}
use Rattle.program_base.specs.declared.runs.form.Form.{Form}
use Rattle.program_files.specs.Bits.{IsBitsReply}
use Rattle.program_files.specs.Old.{old_bits_in, old_sequence_in, IsOld, IsOldBits, IsOldSequence, WroteOldBits, WroteOldSequence}
use Rattle.program_files.specs.Query.{WroteReplies}
use Rattle.program_files.specs.Sequence.{IsSequenceReply}
use Rattle.program_files.specs.declared.blocks.question.Question.{Question}
use Rattle.program_files.specs.declared.blocks.failure.Failure.{Failure}
use Rattle.program_files.specs.declared.blocks.reply.Reply.{Reply}
use Rattle.program_files.proofs.lemmas.OpenedLemmas.{opened_has}

-- each part ends inside the file
pub words_inside : (h : Stored) (n : ℕ) → LiesWithin h n → end_of_span h.words 8 ≤ n
words_inside h n l = omega (arith, l.upper, l.lower, l.low, l.starts, l.starts0, l.samples, l.samples0, l.end)

pub upper_inside : (h : Stored) (n : ℕ) → LiesWithin h n → end_of_span h.upper 8 ≤ n
upper_inside h n l = omega (arith, l.lower, l.low, l.starts, l.starts0, l.samples, l.samples0, l.end)

pub lower_inside : (h : Stored) (n : ℕ) → LiesWithin h n → end_of_span h.lower 8 ≤ n
lower_inside h n l = omega (arith, l.low, l.starts, l.starts0, l.samples, l.samples0, l.end)

pub low_inside : (h : Stored) (n : ℕ) → LiesWithin h n → end_of_span h.low 8 ≤ n
low_inside h n l = omega (arith, l.starts, l.starts0, l.samples, l.samples0, l.end)

-- a file with bits or a sequence has a header
pub is_headed : (file : List ℕ) → IsOld file → IsHeaded file
is_headed file (inl bits) = bits.headed
is_headed file (inr sequence) = sequence.headed

-- what opened bits answered is what the bits of the file answer
pub wrote_old_bits : (form : Form) (file text : List ℕ) (view : Cut) (a b : Option (List ℕ)) (good : Bool) → IsOldBits file → view ≡ old_bits_in file
    → WroteReplies form (IsBitsReply (bits_of_cut view)) (lines_of text) a b good → WroteOldBits form file text a b good
wrote_old_bits form file text view a b good fits same wrote = record {
  fits = fits;
  wrote = subst (λ (v : Cut). WroteReplies form (IsBitsReply (bits_of_cut v)) (lines_of text) a b good) same wrote;
}

-- and what an opened sequence answered, where one was opened
pub sequence_kept : (form : Form) (r : Result Bool Failure) (o : Option SequenceParts) (file text : List ℕ) (a b : Option (List ℕ)) → SomeIff o (IsOldSequence file) (old_sequence_in file)
    → IfOk r (λ good. IsSomeAnd o (λ (view : SequenceParts). WroteReplies form (λ (question : Question) (reply : Reply). (xs : List ℕ) → Holds xs view
    → IsSequenceReply xs question reply) (lines_of text) a b good))
    → IfOk r (λ good. WroteOldBits form file text a b good ⊎ WroteOldSequence form file text a b good)
sequence_kept form (Ok good) o file text a b iff wrote =
    let h = opened_has o (IsOldSequence file) (old_sequence_in file) (λ (view : SequenceParts). WroteReplies form (λ (question : Question) (reply : Reply).
    (xs : List ℕ) → Holds xs view → IsSequenceReply xs question reply) (lines_of text) a b good) iff wrote in
    inr (record { fits = h.0; wrote = h.1 })
sequence_kept form (Err e) o file text a b iff wrote = tt

pub neither : (file : List ℕ) → (¬ (IsOldBits file)) → (¬ (IsOldSequence file)) → ¬ (IsOld file)
neither file no_bits no_sequence (inl bits) = no_bits bits
neither file no_bits no_sequence (inr sequence) = no_sequence sequence

pub no_sequence : (o : Option SequenceParts) (file : List ℕ) → SomeIff o (IsOldSequence file) (old_sequence_in file) → IsNone o → ¬ (IsOldSequence file)
no_sequence None file iff none = iff
no_sequence (Some view) file iff none = λ _. cc

-- a file without bits is right where a sequence is opened
pub old_if : (o : Option SequenceParts) (file : List ℕ) → (¬ (IsOldBits file)) → SomeIff o (IsOldSequence file) (old_sequence_in file)
    → IsTrue (is_some o) ↔ IsOld file
old_if None file no_bits iff = (λ some. cc, λ old. absurd (neither file no_bits iff old))
old_if (Some view) file no_bits iff = (λ _. inr iff.0, λ _. refl)

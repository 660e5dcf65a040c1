-- Each command is one that the program does.
use Rattle.std.proofs.Common.{◌⊎◌, ℕ, List, Bool, true, Option, refl, inl, inr}
use Rattle.std.proofs.KnownBytes.{Appends-kept}
use Rattle.std.specs.Io.KnownBytes.{Keeps}
use Rattle.program_base.specs.Known.{IsKnownAs, Known}
use Rattle.program_base.specs.declared.runs.form.Form.{Form}
use Rattle.program_files.specs.Building.{WroteBlock}
use Rattle.program_files.specs.Program.{Did, DidAsAsked, IsDone}
use Rattle.program_files.specs.Old.{RepliesOfFile, WroteOldBits, WroteOldSequence}
use Rattle.program_files.specs.Query.{Replies, WroteReplies}
use Rattle.program_files.specs.declared.blocks.command.Command.{Command}
use Rattle.program_files.specs.declared.blocks.command.Command.TheVariants.{Build, Query}
use Rattle.program_files.specs.declared.blocks.kind.Kind.{Kind}
use Rattle.program_files.specs.declared.blocks.question.Question.{Question}
use Rattle.program_files.specs.declared.blocks.reply.Reply.{Reply}

pub did_build : (known : Known) (kind : Kind) (operand text : List ℕ) (before after : Option (List ℕ)) → IsKnownAs known.input text
    → WroteBlock kind text before after → Did known (Build kind) operand before after true
did_build known kind operand text before after is h = record { done = (text, is, h, refl) }

pub did_query : (known : Known) (form : Form) (path bytes text : List ℕ) (before after : Option (List ℕ)) (good : Bool) → IsKnownAs (known.files path) bytes
    → IsKnownAs known.input text → RepliesOfFile form bytes text before after good → Did known (Query form) path before after good
did_query known form path bytes text before after good is asked h = record { done = (bytes, text, is, asked, h) }

-- what was done stays so by a flush
block_kept : (kind : Kind) (text : List ℕ) (a b c : Option (List ℕ)) → Keeps b c → WroteBlock kind text a b → WroteBlock kind text a c
block_kept kind text a b c k h = record { right = h.right; block = h.block; block_of = h.block_of; written = Appends-kept a b c _ h.written k }

replies_kept : (form : Form) (R : Question → Reply → Type 0) (lines : List (List ℕ)) (a b c : Option (List ℕ)) (good : Bool) → Keeps b c → WroteReplies form R lines a b good
    → WroteReplies form R lines a c good
replies_kept form R lines a b c good k h = record { replies = h.replies; answers = h.answers; written = Appends-kept a b c _ h.written k; reported = h.reported }

claimed_kept : (form : Form) (bytes text : List ℕ) (a b c : Option (List ℕ)) (good : Bool) → Keeps b c → Replies form bytes text a b good → Replies form bytes text a c good
claimed_kept form bytes text a b c good k h = record { block = h.block; words = h.words; sound = h.sound; wrote = replies_kept _ _ _ a b c good k h.wrote }

old_kept : (form : Form) (file text : List ℕ) (a b c : Option (List ℕ)) (good : Bool) → Keeps b c → WroteOldBits form file text a b good ⊎ WroteOldSequence form file text a b good
    → WroteOldBits form file text a c good ⊎ WroteOldSequence form file text a c good
old_kept form file text a b c good k (inl h) = inl (record { fits = h.fits; wrote = replies_kept _ _ _ a b c good k h.wrote })
old_kept form file text a b c good k (inr h) = inr (record { fits = h.fits; wrote = replies_kept _ _ _ a b c good k h.wrote })

file_kept : (form : Form) (bytes text : List ℕ) (a b c : Option (List ℕ)) (good : Bool) → Keeps b c → RepliesOfFile form bytes text a b good → RepliesOfFile form bytes text a c good
file_kept form bytes text a b c good k (inl h) = inl (claimed_kept form bytes text a b c good k h)
file_kept form bytes text a b c good k (inr h) = inr (record { file = h.file; words = h.words; wrote = old_kept form h.file text a b c good k h.wrote })

done_kept : (known : Known) (command : Command) (operand : List ℕ) (a b c : Option (List ℕ)) (good : Bool) → Keeps b c
    → IsDone known command operand a b good → IsDone known command operand a c good
done_kept known (Build kind) operand a b c good k h = (h.0, h.1, block_kept kind h.0 a b c k h.2, h.3)
done_kept known (Query form) path a b c good k h = (h.0, h.1, h.2, h.3, file_kept form h.0 h.1 a b c good k h.4)

did_kept : (known : Known) (command : Command) (operand : List ℕ) (a b c : Option (List ℕ)) (good : Bool)
    → Did known command operand a b good → Keeps b c → Did known command operand a c good
did_kept known command operand a b c good h k = record { done = done_kept known command operand a b c good k h.done }

pub asked_kept : (known : Known) (args : List (List ℕ)) (a b c : Option (List ℕ)) (good : Bool) → DidAsAsked known args a b good → Keeps b c
    → DidAsAsked known args a c good
asked_kept known args a b c good h k =
    record { command = h.command; operand = h.operand; asked = h.asked; did = did_kept known h.command h.operand a b c good h.did k }

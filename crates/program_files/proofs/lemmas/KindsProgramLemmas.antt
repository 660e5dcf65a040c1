-- Each command is one that the program does.
use Rattle.std.proofs.Common.{ℕ, List, Bool, true, Option, refl, inl, inr}
use Rattle.std.proofs.KnownBytes.{Appends-kept}
use Rattle.std.specs.Io.KnownBytes.{Keeps}
use Rattle.program_base.specs.Known.{IsKnownAs, Known}
use Rattle.program_base.specs.declared.runs.form.Form.{Form}
use Rattle.program_files.specs.Info.{WroteInfoOfFile}
use Rattle.program_files.specs.KindsProgram.{Did, DidAsAsked, IsDone, WroteCheck}
use Rattle.program_files.specs.declared.kinds.command.Command.{Command}
use Rattle.program_files.specs.declared.kinds.command.Command.TheVariants.{Check, Info}

pub did_check : (known : Known) (form : Form) (path bytes : List ℕ) (before after : Option (List ℕ)) (good : Bool) → IsKnownAs (known.files path) bytes
    → WroteCheck form bytes before after good → Did known (Check form) path before after good
did_check known form path bytes before after good is h = record { done = (bytes, is, h) }

pub did_info : (known : Known) (form : Form) (path bytes : List ℕ) (before after : Option (List ℕ)) → IsKnownAs (known.files path) bytes
    → WroteInfoOfFile form bytes before after → Did known (Info form) path before after true
did_info known form path bytes before after is h = record { done = (bytes, is, h, refl) }

-- what was done stays so by a flush
check_kept : (form : Form) (bytes : List ℕ) (a b c : Option (List ℕ)) (good : Bool) → Keeps b c → WroteCheck form bytes a b good → WroteCheck form bytes a c good
check_kept form bytes a b c good k h = record { reported = h.reported; written = Appends-kept a b c _ h.written k }

info_kept : (form : Form) (bytes : List ℕ) (a b c : Option (List ℕ)) → Keeps b c → WroteInfoOfFile form bytes a b → WroteInfoOfFile form bytes a c
info_kept form bytes a b c k (inl h) = inl (record { block = h.block; words = h.words; sound = h.sound; written = Appends-kept a b c _ h.written k })
info_kept form bytes a b c k (inr h) = inr (record { file = h.file; words = h.words; fits = h.fits; written = Appends-kept a b c _ h.written k })

done_kept : (known : Known) (command : Command) (path : List ℕ) (a b c : Option (List ℕ)) (good : Bool) → Keeps b c
    → IsDone known command path a b good → IsDone known command path a c good
done_kept known (Check form) path a b c good k h = (h.0, h.1, check_kept form h.0 a b c good k h.2)
done_kept known (Info form) path a b c good k h = (h.0, h.1, info_kept form h.0 a b c k h.2, h.3)

did_kept : (known : Known) (command : Command) (path : List ℕ) (a b c : Option (List ℕ)) (good : Bool)
    → Did known command path a b good → Keeps b c → Did known command path a c good
did_kept known command path a b c good h k = record { done = done_kept known command path a b c good k h.done }

pub asked_kept : (known : Known) (args : List (List ℕ)) (a b c : Option (List ℕ)) (good : Bool) → DidAsAsked known args a b good → Keeps b c
    → DidAsAsked known args a c good
asked_kept known args a b c good h k =
    record { command = h.command; path = h.path; asked = h.asked; did = did_kept known h.command h.path a b c good h.did k }

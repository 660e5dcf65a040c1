-- Each command is one that the program does.
use Rattle.std.proofs.Common.{◌≡◌, ℕ, List, Bool, true, Option, Some, Result, Ok, Err, IfOk, refl}
use Rattle.std.proofs.KnownBytes.{Appends-kept}
use Rattle.std.specs.Io.KnownBytes.{Keeps}
use Rattle.program_base.specs.Known.{IsKnownAs, Known}
use Rattle.program_base.specs.declared.runs.form.Form.{Form}
use Rattle.program_files.specs.StringsBuilding.{WroteStrings}
use Rattle.program_files.specs.StringsCommand.{command_in}
use Rattle.program_files.specs.Finding.{WroteFound, WroteNumbers}
use Rattle.program_files.specs.StringsProgram.{Did, DidAsAsked, IsDone}
use Rattle.program_files.specs.declared.strings.command.Command.{Command}
use Rattle.program_files.specs.declared.strings.command.Command.TheVariants.{Build, Find}
use Rattle.hash_block.specs.StringsParts.{StringParts}

pub did_build : (known : Known) (text path : List ℕ) (before after : Option (List ℕ)) → IsKnownAs known.input text
    → WroteStrings text before after → Did known Build path before after true
did_build known text path before after is h = record { done = (text, is, h, refl) }

pub did_find : (known : Known) (form : Form) (file text path : List ℕ) (before after : Option (List ℕ)) (found : Bool) → IsKnownAs (known.files path) file
    → IsKnownAs known.input text → WroteFound form file text before after found → Did known (Find form) path before after found
did_find known form file text path before after found is known_text h = record { done = (file, text, is, known_text, h) }

-- the command of the arguments
pub as_asked : {E : Type 0} (r : Result Bool E) (known : Known) (args : List (List ℕ)) (command : Command) (path : List ℕ)
    (a b : Option (List ℕ)) → command_in args ≡ Some (command, path) → IfOk r (Did known command path a b) → IfOk r (DidAsAsked known args a b)
as_asked (Ok x) known args command path a b asked did = record { command = command; path = path; asked = asked; did = did }
as_asked (Err e) known args command path a b asked did = tt

-- what was done stays so by a flush
numbers_kept : (form : Form) (parts : StringParts) (lines : List (List ℕ)) (a b c : Option (List ℕ)) (found : Bool) → Keeps b c → WroteNumbers form parts lines a b found
    → WroteNumbers form parts lines a c found
numbers_kept form parts lines a b c found k h = record { answers = h.answers; reported = h.reported; are = h.are; written = Appends-kept a b c _ h.written k }

done_kept : (known : Known) (command : Command) (path : List ℕ) (a b c : Option (List ℕ)) (good : Bool) → Keeps b c
    → IsDone known command path a b good → IsDone known command path a c good
done_kept known Build path a b c good k h =
    (h.0, h.1, record { block = h.2.block; block_of = h.2.block_of; written = Appends-kept a b c _ h.2.written k }, h.3)
done_kept known (Find form) path a b c good k h =
    let found = h.4 in (
      h.0,
      h.1,
      h.2,
      h.3,
      record {
        block = found.block;
        words = found.words;
        sound = found.sound;
        wrote = numbers_kept _ _ _ a b c good k found.wrote;
      },
    )

pub asked_kept : (known : Known) (args : List (List ℕ)) (a b c : Option (List ℕ)) (good : Bool) → DidAsAsked known args a b good → Keeps b c
    → DidAsAsked known args a c good
asked_kept known args a b c good h k = record {
  command = h.command;
  path = h.path;
  asked = h.asked;
  did = record { done = done_kept known h.command h.path a b c good k h.did.done };
}

-- Each command is one that the program does.
use Rattle.std.proofs.Common.{◌≡◌, ℕ, List, [], ◌∷◌, Bool, true, Option, Some, Result, Ok, Err, IfOk, refl}
use Rattle.std.proofs.KnownBytes.{Appends-kept}
use Rattle.std.specs.Io.KnownBytes.{Keeps}
use Rattle.program_base.specs.Known.{IsKnownAs, Known}
use Rattle.program_files.specs.Answers.{WroteOfFile}
use Rattle.program_files.specs.TextsBuilding.{WroteText}
use Rattle.program_files.specs.TextsCommand.{command_in}
use Rattle.program_files.specs.TextsProgram.{Did, DidAsAsked, IsDone, WroteOfGiven}
use Rattle.program_files.specs.declared.texts.command.Asked.{Asked}
use Rattle.program_files.specs.declared.texts.command.Command.{Command}
use Rattle.program_files.specs.declared.texts.command.Command.TheVariants.{Build, Ask}
use Rattle.program_files.specs.declared.texts.command.Given.{Given}
use Rattle.program_files.specs.declared.texts.command.Given.TheVariants.{Word, Listed}

pub did_build : (known : Known) (text operand path : List ℕ) (before after : Option (List ℕ)) → IsKnownAs known.input text
    → WroteText text before after → Did known Build operand path before after true
did_build known text operand path before after is h = record { done = (text, is, h, refl) }

-- the command of the arguments
pub as_asked : {E : Type 0} (r : Result Bool E) (known : Known) (args : List (List ℕ)) (command : Command) (operand path : List ℕ)
    (a b : Option (List ℕ)) → command_in args ≡ Some (command, operand, path) → IfOk r (Did known command operand path a b)
    → IfOk r (DidAsAsked known args a b)
as_asked (Ok x) known args command operand path a b asked did =
    record { command = command; operand = operand; path = path; asked = asked; did = did }
as_asked (Err e) known args command operand path a b asked did = tt

-- what was done stays so by a flush
text_kept : (text : List ℕ) (a b c : Option (List ℕ)) → Keeps b c → WroteText text a b → WroteText text a c
text_kept text a b c k h = record { block = h.block; block_of = h.block_of; written = Appends-kept a b c _ h.written k }

file_kept : (asked : Asked) (sums : Bool) (file : List ℕ) (patterns : List (List ℕ)) (a b c : Option (List ℕ)) (found : Bool) → Keeps b c
    → WroteOfFile asked sums file patterns a b found → WroteOfFile asked sums file patterns a c found
file_kept asked sums file patterns a b c found k h = record {
  block = h.block;
  words = h.words;
  opened = h.opened;
  numbers = h.numbers;
  answers = h.answers;
  within = h.within;
  found_is = h.found_is;
  written = Appends-kept a b c _ h.written k;
}

given_kept : (known : Known) (given : Given) (asked : Asked) (sums : Bool) (file operand : List ℕ) (a b c : Option (List ℕ)) (found : Bool) → Keeps b c
    → WroteOfGiven known given asked sums file operand a b found → WroteOfGiven known given asked sums file operand a c found
given_kept known Word asked sums file operand a b c found k h = file_kept asked sums file (operand ∷ []) a b c found k h
given_kept known Listed asked sums file operand a b c found k h =
    record { list = h.list; is = h.is; wrote = file_kept asked sums file _ a b c found k h.wrote }

done_kept : (known : Known) (command : Command) (operand path : List ℕ) (a b c : Option (List ℕ)) (good : Bool) → Keeps b c
    → IsDone known command operand path a b good → IsDone known command operand path a c good
done_kept known Build operand path a b c good k h = (h.0, h.1, text_kept h.0 a b c k h.2, h.3)
done_kept known (Ask asked options) operand path a b c good k h =
    (h.0, h.1, given_kept known options.given asked options.sums h.0 operand a b c good k h.2)

pub asked_kept : (known : Known) (args : List (List ℕ)) (a b c : Option (List ℕ)) (good : Bool) → DidAsAsked known args a b good → Keeps b c
    → DidAsAsked known args a c good
asked_kept known args a b c good h k = record {
  command = h.command;
  operand = h.operand;
  path = h.path;
  asked = h.asked;
  did = record { done = done_kept known h.command h.operand h.path a b c good k h.did.done };
}

-- Which files are refused: each that is right has the format that it says.
use Rattle.std.proofs.Common.{◌≡◌, ℕ, List, Option, None, Some, Result, Ok, Err, IfErr, IsErrOf, IsSomeAnd, inl, inr, refl, ap, arith}
use Rattle.bitm_block.specs.Header.{IsBlock}
use Rattle.program_files.specs.Bytes.{words_of_bytes}
use Rattle.program_files.specs.Failure.{IsAnswerFailure, IsRefusal}
use Rattle.program_files.specs.Format.{format_in}
use Rattle.program_files.specs.Old.{IsOld, IsOldFile}
use Rattle.program_files.specs.Sound.{AreSoundNumbers, AreSoundNumbersOf, IsFileOfSoundNumbers}
use Rattle.program_files.specs.declared.blocks.failure.Failure.{Failure}
use Rattle.program_files.specs.declared.blocks.failure.Failure.TheVariants.{WrongBlock}
use Rattle.program_files.specs.declared.blocks.format.Format.TheVariants.{Block, Old}
use Rattle.program_files.specs.declared.blocks.kind.Kind.{Kind}
use Rattle.program_files.specs.declared.blocks.kind.Kind.TheVariants.{Bits, Sequence, Sparse, Matrix, Tree}
use Rattle.program_files.proofs.lemmas.FormatLemmas.{block_format, old_format}
use Rattle.program_files.proofs.lemmas.OldLemmas.{is_headed}

-- header and directory of a sound block are right
pub numbers_block : (kind : Kind) (block : List ℕ) → AreSoundNumbersOf kind block → IsBlock block
numbers_block Bits block h = h.bits_block.is_block
numbers_block Sequence block h = h.sequence_block.is_block
numbers_block Sparse block h = h.sequence.sequence_block.is_block
numbers_block Matrix block h = h.matrix_block.is_block
numbers_block Tree block h = h.tree_block.is_block

pub some_and : {T : Type 0} (o : Option T) (P : T → Type 0) → IsSomeAnd o P → (x : T) × (o ≡ Some x) × P x
some_and None P h = absurd h
some_and (Some x) P h = (x, refl, h)

sound_format : (bytes : List ℕ) → IsFileOfSoundNumbers bytes → format_in bytes ≡ Ok Block
sound_format bytes h =
    let w = some_and (words_of_bytes bytes) AreSoundNumbers h in
    block_format bytes w.0 w.1 (numbers_block w.2.kind w.0 w.2.sound).header.summed.marked

pub old_file_format : (bytes : List ℕ) → IsOldFile bytes → format_in bytes ≡ Ok Old
old_file_format bytes h =
    let w = some_and (words_of_bytes bytes) IsOld h in
    let headed = is_headed w.0 w.2 in
    old_format bytes w.0 w.1 (omega (arith, headed.long)) headed.stored.laid_out.mark

pub not_sound : (bytes : List ℕ) → format_in bytes ≡ Ok Old → ¬ (IsFileOfSoundNumbers bytes)
not_sound bytes is h = let other = sound_format bytes h in cc

pub refused : (bytes : List ℕ) (e : Failure) → format_in bytes ≡ Err e → (¬ (IsFileOfSoundNumbers bytes)) × (¬ (IsOldFile bytes))
refused bytes e is = (λ h. let other = sound_format bytes h in cc, λ h. let other = old_file_format bytes h in cc)

-- what is no P is none of both where it is refused as no Q, and memory and writing did not fail
pub old_refused : {T : Type 0} (P Q : Type 0) (r : Result T Failure) → ¬ P → IfErr r IsAnswerFailure → (IsErrOf r WrongBlock → ¬ Q)
    → IfErr r (λ e. IsRefusal e → (¬ P) × (¬ Q))
old_refused P Q (Ok done) other why wrong = tt
old_refused P Q (Err e) other (inl same) wrong = λ refusal. (other, wrong (ap Err same))
old_refused P Q (Err e) other (inr failed) wrong = λ refusal. absurd (refusal failed)

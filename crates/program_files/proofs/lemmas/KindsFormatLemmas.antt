-- A file is right by the format that it says alone.
use Rattle.std.proofs.Common.{◌≡◌, ◌↔◌, ◌⊎◌, List, ℕ, Bool, Ok, Err, IsTrue, inl, inr, ⊎_elim}
use Rattle.program_files.specs.Bytes.{words_of_bytes}
use Rattle.program_files.specs.Format.{format_in}
use Rattle.program_files.specs.Old.{IsOldFile}
use Rattle.program_files.specs.declared.blocks.failure.Failure.{Failure}
use Rattle.program_files.specs.declared.blocks.format.Format.TheVariants.{Block, Old}
use Rattle.program_files.proofs.lemmas.FormatLemmas.{block_format}
use Rattle.program_files.proofs.lemmas.RefusalLemmas.{old_file_format, some_and}
use Rattle.program_files.specs.KindsSound.{IsSound, IsSoundFile}
use Rattle.program_files.proofs.lemmas.SoundLemmas.{sound_block}

sound_format : (bytes : List ℕ) → IsSoundFile bytes → format_in bytes ≡ Ok Block
sound_format bytes h =
    let w = some_and (words_of_bytes bytes) IsSound h in
    block_format bytes w.0 w.1 (sound_block w.0 w.2).header.summed.marked

pub not_sound : (bytes : List ℕ) → format_in bytes ≡ Ok Old → ¬ (IsSoundFile bytes)
not_sound bytes is h = let other = sound_format bytes h in cc

pub refused : (bytes : List ℕ) (e : Failure) → format_in bytes ≡ Err e → (¬ (IsSoundFile bytes)) × (¬ (IsOldFile bytes))
refused bytes e is = (λ h. let other = sound_format bytes h in cc, λ h. let other = old_file_format bytes h in cc)

-- what `check` says of a file of version 2, and of any other
pub right_of_old : (bytes : List ℕ) (good : Bool) → format_in bytes ≡ Ok Old → (IsTrue good ↔ IsOldFile bytes)
    → IsTrue good ↔ (IsSoundFile bytes ⊎ IsOldFile bytes)
right_of_old bytes good is h = (λ reported. inr (h.0 reported), λ right. ⊎_elim (λ sound. absurd (not_sound bytes is sound)) (λ old. h.1 old) right)

pub right_of_others : (bytes : List ℕ) (good : Bool) → (¬ (format_in bytes ≡ Ok Old)) → (IsTrue good ↔ IsSoundFile bytes)
    → IsTrue good ↔ (IsSoundFile bytes ⊎ IsOldFile bytes)
right_of_others bytes good other h =
    (λ reported. inl (h.0 reported), λ right. ⊎_elim (λ sound. h.1 sound) (λ old. absurd (other (old_file_format bytes old))) right)

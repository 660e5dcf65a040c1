-- What is written says whether a file is right: by its format, a file of version 2 or a block.
use Rattle.std.proofs.Common.{rules, ◌≡◌, ◌↔◌, ◌⊎◌, IsTrue, Ok}
use Rattle.program_files.specs.Format.{format_in}
use Rattle.program_files.specs.Old.{IsOldFile}
use Rattle.program_files.specs.declared.blocks.format.Format.TheVariants.{Old}
use Rattle.program_files.specs.KindsSound.{IsSoundFile}
use Rattle.program_files.proofs.lemmas.KindsFormatLemmas.{right_of_old, right_of_others}
use Rattle.program_files.proofs.kinds.program.write_check.Goals.{in-Ok-Old+in_ok-good-in-Ok-Old, in_default+in_ok-good-in_default, in_default-via-in-Ok+in_default, in_default-via-in_default}
use Rattle.program_files.proofs.kinds.program.write_check.Goals as goal

pub returns : goal.returns
returns g c =
    let bytes = c.args.block.now in
    let reported : IsTrue c.match-format.good ↔ (IsSoundFile bytes ⊎ IsOldFile bytes) =
    elim c.match-format.branch [
      | in-Ok-Old+in_ok-good-in-Ok-Old w ↦
          let old : format_in bytes ≡ Ok Old = search rules in
          let right : IsTrue c.match-format.good ↔ IsOldFile bytes = search rules in
          right_of_old bytes c.match-format.good old right
      | in_default+in_ok-good-in_default w ↦
          let other : ¬ (format_in bytes ≡ Ok Old) =
          elim w.in_default.branch [ in_default-via-in-Ok+in_default v ↦ search rules | in_default-via-in_default v ↦ search rules ] in
          let right : IsTrue c.match-format.good ↔ IsSoundFile bytes = search rules in
          right_of_others bytes c.match-format.good other right
    ] in
    record { reported = reported; written = search rules }

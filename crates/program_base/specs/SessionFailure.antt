-- What is written of a failure.
use Rattle.std.specs.Prelude.{ℕ, List, codes}
use Rattle.program_base.specs.declared.session.program.Failure.{Failure}
use Rattle.program_base.specs.declared.session.program.Failure.TheVariants.{CannotRead, CannotWrite}

abbrev pub failure_text : Failure → List ℕ
failure_text CannotRead = codes "bitm_vectors: cannot read the file"
failure_text CannotWrite = codes "bitm_vectors: cannot write"

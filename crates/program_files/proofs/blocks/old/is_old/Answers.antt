use Rattle.std.proofs.Common.{inl, refl}
use Rattle.program_files.proofs.lemmas.OldLemmas.{old_if}
use Rattle.program_files.proofs.blocks.old.is_old.Goals as goal

pub returns-in-Some : goal.returns-in-Some
returns-in-Some c = (λ _. inl c.in-Some.ensures.opened.0, λ _. refl)

pub returns-in-None : goal.returns-in-None
returns-in-None c = rw c.is_some.ensures (old_if _ _ c.in-None.ensures.opened c.open_old_sequence.ensures.opened)

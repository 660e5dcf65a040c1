-- The answer of a query of right parts, as what is found.
use Rattle.std.proofs.Common.{ℕ, List}
use Rattle.bitm_select.specs.Answers.{position_in}
use Rattle.bitm_tables.specs.declared.answer.Answer.{Answer}
use Rattle.bitm_tables.specs.declared.answer.Answer.TheVariants.{Found, Absent, Wrong}
use Rattle.elias_fano.specs.Answers.{IsPredecessorOf, IsSuccessorOf}
use Rattle.elias_fano.specs.Sequence.{IsFirstAtLeast, IsLastAtMost}

pub found-first : (xs : List ℕ) (v : ℕ) (a : Answer ℕ) → IsSuccessorOf xs v a → IsFirstAtLeast xs v (position_in a)
found-first xs v (Found p) h = h
found-first xs v Absent h = h
found-first xs v Wrong h = absurd h

pub found-last : (xs : List ℕ) (v : ℕ) (a : Answer ℕ) → IsPredecessorOf xs v a → IsLastAtMost xs v (position_in a)
found-last xs v (Found p) h = h
found-last xs v Absent h = h
found-last xs v Wrong h = absurd h

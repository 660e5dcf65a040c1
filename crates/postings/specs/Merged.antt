-- How a merge of lists ended.
use Rattle.std.specs.Prelude.{⊤, ℕ}
use Rattle.postings.specs.declared.merged.Merged.{Merged}
use Rattle.postings.specs.declared.merged.Merged.TheVariants.{Done, Wrong}

-- how many numbers were written
abbrev pub written_in : Merged → ℕ
written_in (Done n) = n
written_in (Wrong n) = n

-- P, unless some list turned out wrong
abbrev pub IfDone : Merged → Type 0 → Type 0
IfDone (Done n) P = P
IfDone (Wrong n) P = ⊤

-- no list turned out wrong, and P holds of how many numbers were written
abbrev pub IsMerged : Merged → (ℕ → Type 0) → Type 0
IsMerged (Done n) P = P n
IsMerged (Wrong n) P = ⊥

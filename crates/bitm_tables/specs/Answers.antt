-- What is said of answers over memory that may hold anything.
use Rattle.std.specs.Prelude.{⊤, ℕ}
use Rattle.bitm_tables.specs.declared.answer.Answer.{Answer}
use Rattle.bitm_tables.specs.declared.answer.Answer.TheVariants.{Found, Absent, Wrong}

-- the answer is right: P of what was found, or it is Absent and none holds; it is never Wrong
abbrev pub Right : {T : Type 0} → (T → Type 0) → Type 0 → Answer T → Type 0
Right P none (Found x) = P x
Right P none Absent = none
Right P none Wrong = ⊥

-- where Absent is answered, P
abbrev pub IfAbsent : Answer ℕ → Type 0 → Type 0
IfAbsent (Found p) P = ⊤
IfAbsent Absent P = P
IfAbsent Wrong P = ⊤

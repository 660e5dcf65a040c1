-- What the exported calls answer: a status, and a number written where the caller says.
use Rattle.std.specs.Prelude.{◌≡◌, ◌≢◌, ⊤, ℕ, ◌<◌, ◌==◌, ◌⊎◌, Bool, if◌then◌else◌, nat_eq}
use Rattle.bitm_tables.specs.declared.answer.Answer.{Answer}
use Rattle.bitm_tables.specs.declared.answer.Answer.TheVariants.{Found, Absent, Wrong}

-- A status is 0 where the answer was written, 1 where there is no such position, bit or number, 2 where a length is
-- wrong, and 3 where the tables are not those of the words, or the parts not those of a sequence.

-- the answer that a status and the number that was written report
abbrev pub answer_of : {T : Type 0} → ℕ → T → Answer T
answer_of status n = if nat_eq status 0 then Found n else if nat_eq status 1 then Absent else Wrong

-- a status, and the number before and after the call, report the answer
pub record IsReported {T : Type 0} (answer : Answer T) (status : ℕ) (old new : T) : Type 0 where
  pub good : (status ≡ 0) ⊎ (status ≡ 1) ⊎ (status ≡ 3)
  pub kept : status ≢ 0 → new ≡ old
  pub is : answer_of status new ≡ answer

-- what an export answers of which P holds where its lengths are right: the status, and the number before and after
pub record Exported {T : Type 0} (sized : Type 0) (P : Answer T → Type 0) (status : ℕ) (old new : T) : Type 0 where
  pub bad : ¬ sized → status ≡ 2
  pub fits : status ≢ 2 → sized
  pub good : sized → (status ≡ 0) ⊎ (status ≡ 1) ⊎ (status ≡ 3)
  pub kept : status ≢ 0 → new ≡ old
  pub answer : sized → P (answer_of status new)

-- the truth that 1 stands for, and 0
abbrev pub truth_of : Answer ℕ → Answer Bool
truth_of (Found n) = Found (n == 1)
truth_of Absent = Absent
truth_of Wrong = Wrong

-- a number that is found is less than the limit
abbrev pub IsFoundBelow : ℕ → Answer ℕ → Type 0
IsFoundBelow limit (Found n) = n < limit
IsFoundBelow limit Absent = ⊤
IsFoundBelow limit Wrong = ⊤

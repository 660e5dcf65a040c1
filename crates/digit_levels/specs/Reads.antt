-- What a query reads of lines and tables.
use Rattle.std.specs.Prelude.{◌≡◌, ℕ, ◌+◌}
use Rattle.bitm_tables.specs.declared.answer.Answer.{Answer}
use Rattle.bitm_tables.specs.declared.answer.Answer.TheVariants.{Found, Absent, Wrong}
use Rattle.digits.specs.Reads.{DigitReadsAtMost}
use Rattle.digits.specs.declared.source.counts.DigitReads.{DigitReads}

-- between early and late exactly k lines and k numbers of tables were read
pub record DigitReadsExactly (early late : DigitReads) (k : ℕ) : Type 0 where
  pub lines : late.lines ≡ early.lines + k
  pub numbers : late.numbers ≡ early.numbers + k

-- an answer that is found took exactly k lines and k numbers of tables, Absent took none, and Wrong at most as many
abbrev pub TookReads : {X : Type 0} → DigitReads → DigitReads → ℕ → Answer X → Type 0
TookReads early late k (Found _) = DigitReadsExactly early late k
TookReads early late k Absent = DigitReadsExactly early late 0
TookReads early late k Wrong = DigitReadsAtMost early late k k

-- The number of codes in a list of answers, and why a list of indices was not answered to its end.
use Rattle.std.specs.Prelude.{◌≡◌, ℕ, ◌-◌, ◌^◌, ◌<◌, ◌≤◌, ◌↔◌, ◌==◌, List, count_by, length, slice_index}
use Rattle.bitm_abi.specs.declared.counts.ListCounts.{ListCounts}

-- those for no answer, and those for wrong tables
pub record AreAnswersCounted (answers : List ℕ) (counts : ListCounts) : Type 0 where
  pub missing : counts.missing ≡ count_by (λ n. n == 2 ^ 64 - 1) answers
  pub wrong : counts.wrong ≡ count_by (λ n. n == 2 ^ 64 - 2) answers

-- of n numbers those at the first k of a list of indices were written: the status is 0 exactly where these are all, 1
-- exactly where there is no number at the next index, and else 3
pub record IsStopped (n : ℕ) (indices : List ℕ) (k status : ℕ) : Type 0 where
  pub all : (status ≡ 0) ↔ (k ≡ length indices)
  pub none : (status ≡ 1) ↔ (k < length indices) × (n ≤ slice_index indices k)
  pub wrong : (status ≡ 3) ↔ (k < length indices) × (slice_index indices k < n)

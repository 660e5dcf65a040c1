use Rattle.std.proofs.Common.{◌≡◌, ℕ, ◌-◌, ◌^◌, ◌==◌, take, count_by}
use Rattle.bitm_abi.proofs.counts.codes_in.Given as goal

-- the codes so far
abbrev pub invariant-loop-answer : goal.invariant-loop-answer
invariant-loop-answer l = record {
  missing : l.missing ≡ count_by (λ (n : ℕ). n == 2 ^ 64 - 1) (take l.answer-index l.answers);
  wrong : l.wrong ≡ count_by (λ (n : ℕ). n == 2 ^ 64 - 2) (take l.answer-index l.answers);
}

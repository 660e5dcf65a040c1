-- Nothing more is read.
use Rattle.std.proofs.Common.{◌≡◌, ℕ, ◌+◌, ap, arith}
use Rattle.bitm_tables.specs.declared.source.counts.ReadCounts.{ReadCounts}
use Rattle.perfect_hash.proofs.levels.placing.PlainPlacing.position.Goals as goal

same : (n : ℕ) → n ≡ n + 0
same n = omega arith

pub returns-clause-counted : goal.returns-clause-counted
returns-clause-counted c =
    let old = c.args._reads.now in
    let P : ℕ → ReadCounts = λ n. record { words = n; upper = old.upper; lower = old.lower } in
    ap P (same old.words)

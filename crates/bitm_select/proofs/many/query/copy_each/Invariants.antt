use Rattle.std.proofs.Common.{◌≡◌, ℕ, ◌<◌, slice_index_or}
use Rattle.bitm_select.specs.declared.many.query.Query.{Query}
use Rattle.bitm_select.proofs.many.query.copy_each.Given as goal

-- the queries before this one are those that were begun
abbrev pub invariant-loop-k : goal.invariant-loop-k
invariant-loop-k l = (j : ℕ) (d : Query) → j < l.k → slice_index_or l.queries j d ≡ slice_index_or l.begun j d

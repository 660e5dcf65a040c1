use Rattle.std.proofs.Common.{◌==◌, slice_index}
use Rattle.std.proofs.lemmas.List.Filters.{FiltersInPlace}
use Rattle.hash_buckets.specs.Positions.{bucket_of}
use Rattle.hash_buckets.proofs.level.keep_left.Given as goal

-- the hashes so far whose seed is 0 are in front
abbrev pub invariant-loop-i : goal.invariant-loop-i
invariant-loop-i l = FiltersInPlace (λ h. slice_index l.seeds (bucket_of l.level h) == 0) l.initial.hashes l.hashes l.kept l.i

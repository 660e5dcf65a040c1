-- A hash whose seed is 0 stays.
use Rattle.std.proofs.Common.{◌≡◌, ℕ, true, false, List, slice_index, eqb, ap, sym, ◌∙◌, arith}
use Rattle.std.proofs.lemmas.Bool.{eq-eqb, ne_eqb}
use Rattle.std.proofs.lemmas.List.Filters.{FiltersInPlace-more_set, FiltersInPlace-more_no}
use Rattle.std.proofs.lemmas.List.{get_or_default}
use Rattle.hash_buckets.proofs.level.keep_left.Goals as goal
use Rattle.hash_buckets.proofs.level.keep_left.Goals.{then-seeds-bucket_in-eq0, else-seeds-bucket_in-eq0}

is_zero : (seeds : List ℕ) (b at : ℕ) → b ≡ at → slice_index seeds b ≡ 0 → eqb (slice_index seeds at) 0 ≡ true
is_zero seeds b at same none = eq-eqb (slice_index seeds at) 0 (ap (slice_index seeds) (sym same) ∙ none)

no_zero : (seeds : List ℕ) (b at : ℕ) → b ≡ at → (slice_index seeds b ≡ 0 → ⊥) → eqb (slice_index seeds at) 0 ≡ false
no_zero seeds b at same some = ne_eqb (slice_index seeds at) 0 (λ none. some (ap (slice_index seeds) same ∙ none))

pub loop-i-preserved : goal.loop-i-preserved
loop-i-preserved c = elim c.if-seeds-bucket_in-eq0.branch [
  | then-seeds-bucket_in-eq0 w ↦ rw (w.hashes-is, w.kept-is)
      (FiltersInPlace-more_set c.loop-i.invariant (omega arith)
      (is_zero c.args.seeds.now c.bucket_in.result _ c.bucket_in.ensures.at w.if-seeds-bucket_in-eq0.true)
      (get_or_default c.loop-i.hashes c.loop-i.i 0 _ (omega arith)))
  | else-seeds-bucket_in-eq0 w ↦ rw (w.hashes-is, w.kept-is)
      (FiltersInPlace-more_no c.loop-i.invariant (omega arith)
      (no_zero c.args.seeds.now c.bucket_in.result _ c.bucket_in.ensures.at w.if-seeds-bucket_in-eq0.false)
      (get_or_default c.loop-i.hashes c.loop-i.i 0 _ (omega arith)))
]

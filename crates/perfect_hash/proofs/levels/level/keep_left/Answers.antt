-- A hash that falls on no one stays.
use Rattle.std.proofs.Common.{◌≡◌, ℕ, ◌+◌, Bool, List, not, ap, sym, ◌∙◌, arith}
use Rattle.std.proofs.lemmas.List.Filters.{FiltersInPlace-more_set, FiltersInPlace-more_no}
use Rattle.std.proofs.lemmas.List.{get_or_default}
use Rattle.bit_lists.specs.Bits.{bits_of, item}
use Rattle.perfect_hash.proofs.levels.level.keep_left.Goals as goal
use Rattle.perfect_hash.proofs.levels.level.keep_left.Goals.{then-not-get_bit, else-not-get_bit}

-- the test of the bit that was read
tested : (b : List Bool) (position at : ℕ) (r v : Bool) → position ≡ at → r ≡ item b position → r ≡ v → not (item b (0 + at)) ≡ not v
tested b position at r v here is value = ap not (ap (item b) (sum at ∙ sym here) ∙ sym is ∙ value)
  where
    sum : (q : ℕ) → 0 + q ≡ q
    sum q = omega arith

pub loop-i-preserved : goal.loop-i-preserved
loop-i-preserved g c = elim c.if-not-get_bit.branch [
  | then-not-get_bit w ↦ rw (w.hashes-is, w.kept-is)
      (FiltersInPlace-more_set c.loop-i.invariant (omega arith)
      (tested (bits_of c.args.ones.now) c.position-position.result _ _ _ c.position-position.ensures.at c.get_bit.ensures w.if-not-get_bit.true)
      (get_or_default c.loop-i.hashes c.loop-i.i 0 _ (omega arith)))
  | else-not-get_bit w ↦ rw (w.hashes-is, w.kept-is)
      (FiltersInPlace-more_no c.loop-i.invariant (omega arith)
      (tested (bits_of c.args.ones.now) c.position-position.result _ _ _ c.position-position.ensures.at c.get_bit.ensures w.if-not-get_bit.false)
      (get_or_default c.loop-i.hashes c.loop-i.i 0 _ (omega arith)))
]

-- A cursor that is right stands at an index of its sequence.
use Rattle.std.proofs.Common.{ℕ, length, subst, arith}
use Rattle.postings.specs.Joined.{AreJoined}
use Rattle.postings.specs.Merged.{IsMerged}
use Rattle.postings.specs.Pair.{pair_from}
use Rattle.bitm_numbers_c.specs.Cursor.{sequence_items}
use Rattle.bitm_numbers_c.proofs.cursors.merging.union_of_two.Goals as goal

pub returns-clause-joined : goal.returns-clause-joined
returns-clause-joined c = λ r s.
    let xs = sequence_items c.args.one.now.sequence in
    let ys = sequence_items c.args.other.now.sequence in
    let (parts, at) = c.in-Some-Some.ensures r in
    let (other_parts, other_at) = c.in-Some-Some.ensures' s in
    let made = c.total_union_of_two.ensures.joined xs ys parts other_parts (omega (arith, at, r.here.order, r.parts.are.count))
    (omega (arith, other_at, s.here.order, s.parts.are.count)) in
    subst (λ (k : ℕ). IsMerged c.total_union_of_two.result (λ count. AreJoined (pair_from xs k ys c.args.other.now.index) c.args.from count (length c.args.out.now) c.total_union_of_two.new.out)) at
    (subst (λ (k : ℕ). IsMerged c.total_union_of_two.result (λ count. AreJoined (pair_from xs c.in-Some-Some.one_at ys k) c.args.from count (length c.args.out.now) c.total_union_of_two.new.out)) other_at made)

-- The free slots are those that the view holds.
use Rattle.std.proofs.Common.{◌≡◌, Some, refl, subst}
use Rattle.hash_buckets.specs.Numbers.{WhereFound}
use Rattle.hash_buckets.specs.Parts.{buckets_number, BucketsParts}
use Rattle.hash_buckets.proofs.view.BucketsView.get_counted.Goals as goal

pub returns-clause-found : goal.returns-clause-found
returns-clause-found c =
    let P : BucketsParts → Type 0 = λ parts. WhereFound c.number_on-number.result (λ number. buckets_number parts c.args.hash ≡ Some number) in
    subst P c.self.view_is (c.number_on-number.ensures.found c.self.inside.free.now refl)

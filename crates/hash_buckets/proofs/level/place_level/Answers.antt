-- The hashes of each bucket stand between two ends.
use Rattle.std.proofs.Common.{ℕ, List, slice_index, filter, eqb, sym, ap, ◌∙◌, arith}
use Rattle.std.proofs.lemmas.List.{map-id}
use Rattle.perfect_hash.proofs.lemmas.SortLemmas.{ends_inside, ends_rise, stretch_is}
use Rattle.hash_buckets.specs.Positions.{bucket_of}
use Rattle.hash_buckets.proofs.level.place_level.Goals as goal

pub place_each-requires-clause-grouped : goal.place_each-requires-clause-grouped
place_each-requires-clause-grouped c =
    let level = c.args.level.now in
    let hashes = c.args.hashes.now in
    let ends = c.group.new.ends in
    record {
      order = λ bucket less. ends_rise (bucket_of level) hashes ends level.buckets bucket c.group.ensures.ends less;
      inside = λ bucket less.
          ends_inside (bucket_of level) hashes ends c.group.new.sorted level.buckets bucket c.group.ensures.ends less (omega (arith, c.group.auto.sorted, c.requires.sorted));
      are = λ bucket less.
          stretch_is (bucket_of level) (λ (h : ℕ). h) hashes ends c.group.new.sorted level.buckets bucket c.group.ensures.ends
          less (omega (arith, c.group.auto.sorted, c.requires.sorted))
          (λ k few. c.group.ensures.grouped bucket k less few ∙ sym (ap (λ (xs : List ℕ). slice_index xs k) (map-id (filter (λ (h : ℕ). eqb (bucket_of level h) bucket) hashes))))
          ∙ map-id (filter (λ (h : ℕ). eqb (bucket_of level h) bucket) hashes);
    }

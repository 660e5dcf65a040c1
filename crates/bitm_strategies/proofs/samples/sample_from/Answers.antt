-- The distance is that from the entry of the interval's first item to the entry of the one half an interval later.
use Rattle.std.proofs.Common.{◌≡◌, ℕ, ◌+◌, ◌*◌, ◌-◌, ◌%◌, ◌^◌, ◌<◌, ◌≤◌, List, Bool, min, length, ◌∙◌, subst, arith}
use Rattle.std.proofs.lemmas.Nat.{one_shl}
use Rattle.bit_lists.specs.Count.{count_of, as_bit}
use Rattle.bitm_strategies.specs.Samples.{IsSummaryOf, part_of}
use Rattle.bitm_select.specs.Search.{IsLastEntry, items_to, sought_bits}
use Rattle.bitm_strategies.proofs.lemmas.MadeLemmas.{advanced, sample_middle, sample_alone}
use Rattle.bitm_strategies.proofs.samples.sample_from.Goals as goal
use Rattle.bitm_strategies.proofs.samples.sample_from.Goals.{After-min-distance}

module _ (g : _) (c : After-min-distance g) where
  half : 1 * 2 ^ (c.args.log2 - 1) % 18446744073709551616 ≡ 2 ^ (c.args.log2 - 1)
  half = one_shl (c.args.log2 - 1) 64 (omega arith)

  last : (b : List Bool) → IsSummaryOf b c.args.summary.now → items_to g.row.BIT b c.args.part c.args.from ≤ c.args.item
      → IsLastEntry (sought_bits (as_bit g.row.BIT) b) (length c.args.summary.now.lower.now) c.args.part
      (c.args.item + 2 ^ (c.args.log2 - 1)) c.walk_tables-later.result
  last b t below =
      let le : items_to g.row.BIT b c.args.part c.walk_tables-entry.result ≤ c.args.item = (c.walk_tables-entry.ensures.last b t below).at_most in
      subst
      (λ (n : ℕ).
      IsLastEntry (sought_bits (as_bit g.row.BIT) b) (length c.args.summary.now.lower.now) c.args.part (c.args.item + n) c.walk_tables-later.result)
      half (c.walk_tables-later.ensures.last b t (omega (arith, le)))

pub returns-then-middle-items-clause-sample : goal.returns-then-middle-items-clause-sample
returns-then-middle-items-clause-sample g c b t is below =
    let v = as_bit g.row.BIT in
    let k = c.args.part in
    let entry = c.walk_tables-entry.result in
    let later = c.walk_tables-later.result in
    let more : c.args.item + 2 ^ (c.args.log2 - 1) < count_of (part_of b k) v =
    omega (arith, is, half g c, c.if-middle-items.true) in
    let cast : entry + c.min-distance.result * 2097152 % 18446744073709551616 ≡ entry + min (later - entry) 2047 * 2 ^ 21 =
    omega (arith, c.min-distance.ensures) in
    let here = advanced b _ _ _ _ t v k c.requires.inside c.args.item entry (omega arith) (c.walk_tables-entry.ensures.last b t below) in
    let there = advanced b _ _ _ _ t v k c.requires.inside (c.args.item + 2 ^ (c.args.log2 - 1)) later more (last g c b t below) in
    cast ∙ sample_middle (part_of b k) v c.args.log2 c.args.item entry later more here there

pub returns-then-middle-items-clause-at_most : goal.returns-then-middle-items-clause-at_most
returns-then-middle-items-clause-at_most g c b t below = (last g c b t below).at_most

pub returns-else-middle-items-clause-sample : goal.returns-else-middle-items-clause-sample
returns-else-middle-items-clause-sample g c b t is below =
    let v = as_bit g.row.BIT in
    let k = c.args.part in
    let entry = c.walk_tables-entry.result in
    let half : 1 * 2 ^ (c.args.log2 - 1) % 18446744073709551616 ≡ 2 ^ (c.args.log2 - 1) =
    one_shl (c.args.log2 - 1) 64 (omega arith) in
    let here =
    advanced b _ _ _ _ t v k c.requires.inside c.args.item entry (omega (arith, is, c.requires.item))
    (c.walk_tables-entry.ensures.last b t below) in
    sample_alone (part_of b k) v c.args.log2 c.args.item entry (omega (arith, is, half, c.if-middle-items.false)) here

-- The first entry with more before it ends the walk; its predecessor is the last with no more.
use Rattle.std.proofs.Common.{◌≡◌, ℕ, ◌+◌, ◌*◌, ◌-◌, ◌^◌, ◌<◌, ◌≤◌, List, Bool, sym, ◌∙◌, subst, arith}
use Rattle.bit_lists.specs.Count.{as_bit}
use Rattle.bitm_strategies.specs.Samples.{IsSummaryOf}
use Rattle.bitm_select.specs.Search.{items_to, sought_bits}
use Rattle.bitm_select.proofs.lemmas.SoughtLemmas.{low_is}
use Rattle.bitm_strategies.proofs.samples.walk_tables.Goals as goal
use Rattle.bitm_strategies.proofs.samples.walk_tables.Goals.{After-ones_to_entry}

count : (g : _) (c : After-ones_to_entry g) (b : List Bool) → IsSummaryOf b c.args.summary.now
    → c.ones_to_entry.result ≡ items_to g.row.BIT b c.args.part c.loop-next.next
count g c b t =
    c.ones_to_entry.ensures
    ∙ low_is (sought_bits (as_bit g.row.BIT) b) c.sought_entry.result (c.args.part * 2 ^ 21 + c.loop-next.next) (c.sought_entry.ensures b t)

pub returns-then-item-ones_to_entry-clause-last : goal.returns-then-item-ones_to_entry-clause-last
returns-then-item-ones_to_entry-clause-last g c b t h =
    let d = (goal.at.returns-then-item-ones_to_entry-clause-last g c).After-ones_to_entry in
    let i = c.loop-next.invariant in
    let back : c.loop-next.next - 1 + 1 ≡ c.loop-next.next = omega (arith, i.order) in
    let above = subst (λ (n : ℕ). c.args.item < n) (count g d b t) c.if-item-ones_to_entry.true in
    record {
      inside = omega (arith, c.entries_in-end.ensures, i.order, c.loop-next-test.true);
      at_most = i.at_most b t h;
      next = λ _. subst (λ (k : ℕ). c.args.item < items_to g.row.BIT b c.args.part k) (sym back) above;
    }

pub loop-next-preserved : goal.loop-next-preserved
loop-next-preserved g c =
    let d = (goal.at.loop-next-preserved g c).After-ones_to_entry in
    let back : c.loop-next.next + 1 - 1 ≡ c.loop-next.next = omega arith in
    record {
      order = omega (arith, c.loop-next.invariant.order);
      bound = omega (arith, c.loop-next-test.true);
      at_most = λ b t h.
          subst (λ (k : ℕ). items_to g.row.BIT b c.args.part k ≤ c.args.item) (sym back)
          (subst (λ (n : ℕ). n ≤ c.args.item) (count g d b t) c.if-item-ones_to_entry.false);
    }

pub returns-clause-last : goal.returns-clause-last
returns-clause-last g c b t h =
    let end : c.loop-next.next ≡ c.entries_in-end.result = omega (arith, c.loop-next.invariant.bound, c.loop-next-test.false) in
    record {
      inside = omega (arith, c.entries_in-end.ensures, c.requires.from);
      at_most = subst (λ (k : ℕ). items_to g.row.BIT b c.args.part (k - 1) ≤ c.args.item) end (c.loop-next.invariant.at_most b t h);
      next = λ l. absurd (omega (arith, l, c.entries_in-end.ensures));
    }

-- The first entry with more before it ends the walk; its predecessor is the last with no more.
use Rattle.std.proofs.Common.{◌≡◌, ℕ, ◌+◌, ◌*◌, ◌-◌, ◌^◌, ◌<◌, ◌≤◌, length, ap, sym, ◌∙◌, subst, arith}
use Rattle.bit_lists.specs.Bits.{bits_of}
use Rattle.bitm_tables.specs.Entry.{lower_entry, entries_from}
use Rattle.bitm_select.specs.Search.{items_to, sought_in}
use Rattle.bitm_tables.specs.Tables.{HasTables, Lists}
use Rattle.bitm_tables.specs.declared.source.counts.ReadCounts.{ReadCounts}
use Rattle.bitm_tables.proofs.lemmas.LengthLemmas.{few_entries, first_of_part, sizes_of}
use Rattle.bitm_select.proofs.lemmas.SoughtLemmas.{low_is}
use Rattle.bitm_strategies.proofs.walking.walk.Goals as goal
use Rattle.bitm_strategies.proofs.walking.walk.Goals.{After-ones_to_entry-above}

pub overflow_mul-first : goal.overflow_mul-first
overflow_mul-first g c =
    record {
      fits =
          omega (
            arith,
            first_of_part _ (sizes_of _ c.requires.tables c.requires.short) c.args.part c.requires.inside,
            few_entries _ (sizes_of _ c.requires.tables c.requires.short),
          );
    }

pub entries_of_part-end-requires : goal.entries_of_part-end-requires
entries_of_part-end-requires g c =
    omega (arith, first_of_part _ (sizes_of _ c.requires.tables c.requires.short) c.args.part c.requires.inside, c.lower_len.ensures)

module _ (g : _) (c : After-ones_to_entry-above g) where
  entry_is : c.sought_entry-entry.result
      ≡ lower_entry (sought_in g.row.BIT (g.T.TableSource.lists c.args.source.now).words) (c.args.part * 2 ^ 21 + c.loop-next.next)
  entry_is =
      let at = c.args.part * 2 ^ 21 + c.loop-next.next in
      c.sought_entry-entry.ensures.entry (subst HasTables (sym c.loop-next.invariant.same) c.requires.tables)
      ∙ ap (λ (l : Lists). lower_entry (sought_in g.row.BIT l.words) at) c.loop-next.invariant.same

  count : c.ones_to_entry-above.result ≡ items_to g.row.BIT (bits_of (g.T.TableSource.lists c.args.source.now).words) c.args.part c.loop-next.next
  count =
      let m = sought_in g.row.BIT (g.T.TableSource.lists c.args.source.now).words in
      c.ones_to_entry-above.ensures ∙ low_is m c.sought_entry-entry.result (c.args.part * 2 ^ 21 + c.loop-next.next) entry_is

  end_is : c.entries_of_part-end.result ≡ entries_from (length (g.T.TableSource.lists c.args.source.now).lower) c.args.part
  end_is = omega (arith, c.entries_of_part-end.ensures, c.lower_len.ensures)

pub returns-then-rank-above-clause-last : goal.returns-then-rank-above-clause-last
returns-then-rank-above-clause-last g c =
    let d = (goal.at.returns-then-rank-above-clause-last g c).After-ones_to_entry-above in
    let b = bits_of (g.T.TableSource.lists c.args.source.now).words in
    let i = c.loop-next.invariant in
    let e = end_is g d in
    let back : c.loop-next.next - 1 + 1 ≡ c.loop-next.next = omega (arith, i.order) in
    let above = subst (λ (n : ℕ). c.args.rank < n) (count g d) c.if-rank-above.true in
    record {
      inside = omega (arith, e, i.order, i.bound, c.loop-next-test.true);
      at_most = i.at_most;
      next = λ _. subst (λ (k : ℕ). c.args.rank < items_to g.row.BIT b c.args.part k) (sym back) above;
    }

pub returns-then-rank-above-clause-above : goal.returns-then-rank-above-clause-above
returns-then-rank-above-clause-above g c = λ _.
    let d = (goal.at.returns-then-rank-above-clause-above g c).After-ones_to_entry-above in
    let b = bits_of (g.T.TableSource.lists c.args.source.now).words in
    let i = c.loop-next.invariant in
    let back : c.loop-next.next - 1 + 1 ≡ c.loop-next.next = omega (arith, i.order) in (
      omega (arith, end_is g d, i.order, i.bound, c.loop-next-test.true),
      subst (λ (k : ℕ). c.ones_to_entry-above.result ≡ items_to g.row.BIT b c.args.part k) (sym back) (count g d),
    )

pub loop-next-preserved : goal.loop-next-preserved
loop-next-preserved g c =
    let d = (goal.at.loop-next-preserved g c).After-ones_to_entry-above in
    let b = bits_of (g.T.TableSource.lists c.args.source.now).words in
    let i = c.loop-next.invariant in
    let e = c.sought_entry-entry.ensures in
    let m = sought_in g.row.BIT (g.T.TableSource.lists c.args.source.now).words in
    let back : c.loop-next.next + 1 - 1 ≡ c.loop-next.next = omega arith in
    let below = subst (λ (n : ℕ). n ≤ c.args.rank) (count g d) c.if-rank-above.false in
    record {
      order = omega (arith, i.order);
      bound = omega (arith, c.loop-next-test.true);
      at_most = subst (λ (k : ℕ). items_to g.row.BIT b c.args.part k ≤ c.args.rank) (sym back) below;
      packed = entry_is g d ∙ ap (λ (k : ℕ). lower_entry m (c.args.part * 2 ^ 21 + k)) (sym back);
      lower = omega (arith, ap (λ (r : ReadCounts). r.lower) e.counted, i.lower);
      upper = ap (λ (r : ReadCounts). r.upper) e.counted ∙ i.upper;
      words = ap (λ (r : ReadCounts). r.words) e.counted ∙ i.words;
      same = e.same ∙ i.same;
    }

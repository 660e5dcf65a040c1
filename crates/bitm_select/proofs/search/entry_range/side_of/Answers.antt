-- The entry claims on which side of it the last one is.
use Rattle.std.proofs.Common.{◌≡◌, ℕ, ◌+◌, ◌*◌, ◌^◌, ◌<◌, ◌≤◌, length, ap, ◌∙◌, subst, arith}
use Rattle.bitm_tables.specs.Entry.{before_in_part, lower_entry, entries_from}
use Rattle.bitm_select.specs.Search.{sought_in}
use Rattle.bitm_tables.specs.Tables.{HasTables}
use Rattle.bitm_select.specs.Claims.{claimed_entry}
use Rattle.bit_lists.specs.Count.{as_bit}
use Rattle.bitm_select.proofs.lemmas.SearchLemmas.{goes_over, goes_under}
use Rattle.bitm_tables.proofs.lemmas.LengthLemmas.{few_entries, first_of_part}
use Rattle.bitm_select.proofs.lemmas.SoughtLemmas.{low_is}
use Rattle.bitm_select.proofs.search.entry_range.side_of.Goals as goal
use Rattle.bitm_select.proofs.search.entry_range.side_of.Goals.{After-ones_to_entry-count}

pub overflow_mul-part : goal.overflow_mul-part
overflow_mul-part g c =
    record {
      fits =
          omega (
            arith,
            first_of_part _ c.requires.sized c.args.part c.requires.inside,
            few_entries _ c.requires.sized,
          );
    }

pub overflow_add-part : goal.overflow_add-part
overflow_add-part g c =
    record { fits = omega (arith, c.requires.in_range, c.requires.range.within, few_entries _ c.requires.sized) }

pub overflow_add-part-2 : goal.overflow_add-part-2
overflow_add-part-2 g c =
    record { fits = omega (arith, c.requires.in_range, c.requires.range.within, few_entries _ c.requires.sized) }

module _ (g : _) (c : After-ones_to_entry-count g) (t : HasTables (g.T.TableSource.lists c.args.source.now)) where
  next_is : c.sought_entry-next.result
      ≡ lower_entry (sought_in g.row.BIT (g.T.TableSource.lists c.args.source.now).words)
      (c.args.part * 2 ^ 21 + (c.args.range.low + c.args.cut))
  next_is =
      let m = sought_in g.row.BIT (g.T.TableSource.lists c.args.source.now).words in
      let there : c.args.part * 2 ^ 21 + c.args.range.low + c.args.cut ≡ c.args.part * 2 ^ 21 + (c.args.range.low + c.args.cut) = omega arith in
      c.sought_entry-next.ensures.entry t ∙ ap (lower_entry m) there

  count : c.ones_to_entry-count.result
      ≡ before_in_part (sought_in g.row.BIT (g.T.TableSource.lists c.args.source.now).words)
      (c.args.part * 2 ^ 21 + (c.args.range.low + c.args.cut))
  count =
      let m = sought_in g.row.BIT (g.T.TableSource.lists c.args.source.now).words in
      c.ones_to_entry-count.ensures
      ∙ low_is m c.sought_entry-next.result (c.args.part * 2 ^ 21 + (c.args.range.low + c.args.cut)) next_is

next_claimed : (g : _) (c : After-ones_to_entry-count g) → c.sought_entry-next.result
    ≡ claimed_entry (as_bit g.row.BIT) (g.T.TableSource.lists c.args.source.now) (c.args.part * 2 ^ 21 + (c.args.range.low + c.args.cut))
next_claimed g c =
    let there : c.args.part * 2 ^ 21 + c.args.range.low + c.args.cut ≡ c.args.part * 2 ^ 21 + (c.args.range.low + c.args.cut) = omega arith in
    c.sought_entry-next.ensures.claimed ∙ ap (claimed_entry (as_bit g.row.BIT) (g.T.TableSource.lists c.args.source.now)) there

pub returns-then-count-rank-clause-range : goal.returns-then-count-rank-clause-range
returns-then-count-rank-clause-range g c =
    let d = (goal.at.returns-then-count-rank-clause-range g c).After-ones_to_entry-count in
    let lists = g.T.TableSource.lists c.args.source.now in
    let m = sought_in g.row.BIT lists.words in
    record {
      some = omega (arith, c.requires.in_range);
      within = omega (arith, c.requires.in_range, c.requires.range.within);
      among = λ t.
          goes_over (λ j. before_in_part m (c.args.part * 2 ^ 21 + j)) (entries_from (length lists.lower) c.args.part) c.args.rank
          c.args.range.low c.args.range.left c.args.cut (c.requires.range.among t) c.requires.some c.requires.in_range
          (subst (λ (n : ℕ). n ≤ c.args.rank) (count g d t) c.if-count-rank.true);
      packed = λ _. next_claimed g d;
    }

pub returns-else-count-rank-clause-range : goal.returns-else-count-rank-clause-range
returns-else-count-rank-clause-range g c =
    let d = (goal.at.returns-else-count-rank-clause-range g c).After-ones_to_entry-count in
    let lists = g.T.TableSource.lists c.args.source.now in
    let m = sought_in g.row.BIT lists.words in
    record {
      some = c.requires.some;
      within = omega (arith, c.requires.in_range, c.requires.range.within);
      among = λ t.
          goes_under (λ j. before_in_part m (c.args.part * 2 ^ 21 + j)) (entries_from (length lists.lower) c.args.part) c.args.rank
          c.args.range.low c.args.range.left c.args.cut (c.requires.range.among t) c.requires.some c.requires.in_range
          (subst (λ (n : ℕ). c.args.rank < n) (count g d t) c.if-count-rank.false);
      packed = c.requires.range.packed;
    }

-- The count before the entry in the middle shows on which side of it the entry is.
use Rattle.std.proofs.Common.{◌≡◌, ℕ, ◌+◌, ◌*◌, ◌%◌, ◌^◌, ◌<◌, ◌≤◌, length, sym, subst, ◌∙◌, arith, inl, inr}
use Rattle.std.proofs.lemmas.Bool.{cases_lt}
use Rattle.bit_lists.specs.Count.{as_bit}
use Rattle.bitm_tables.specs.Entry.{before_in_part}
use Rattle.bitm_select.specs.Many.{IsSearch}
use Rattle.bitm_select.specs.Search.{sought_in}
use Rattle.bitm_tables.specs.Tables.{HasTables}
use Rattle.bitm_select.proofs.lemmas.ManyLemmas.{near_stays, near_up, part_stays, part_up}
use Rattle.bitm_select.proofs.lemmas.SearchLemmas.{no_step, one_step, step_few}
use Rattle.bitm_select.proofs.lemmas.SoughtLemmas.{low_is}
use Rattle.bitm_select.proofs.many.query.step.Goals as goal

pub returns-clause-search : goal.returns-clause-search
returns-clause-search g c rank search_is =
    let lists = g.T.TableSource.lists c.args.source.now in
    let m = sought_in g.row.BIT lists.words in
    let at = c.args.query.entry in
    let step = 2 ^ c.args.size in
    let small : step ≤ 2 ^ 20 = step_few c.args.size c.requires.size in
    let next : at + 1 * step % 18446744073709551616 ≡ at + step = omega (arith, small) in
    let inside : at + step < length lists.lower = c.requires.next in
    let count : HasTables lists → c.ones_to_entry-count.result ≡ before_in_part m (at + step) =
    λ t. subst (λ (n : ℕ). c.ones_to_entry-count.result ≡ before_in_part m n) next
    (c.ones_to_entry-count.ensures ∙ low_is m c.sought_entry.result (at + 1 * step % 18446744073709551616) (c.sought_entry.ensures.entry t)) in
    elim (cases_lt c.args.query.rest c.ones_to_entry-count.result) [
      | inl above ↦
          let none : at + c.is_at_most.result * step % 18446744073709551616 ≡ at =
          no_step c.is_at_most.result at step (c.is_at_most.ensures.no above) in
          subst (λ (n : ℕ). IsSearch g.row.BIT lists rank (record { rest = c.args.query.rest; entry = n }) c.args.size) (sym none)
          (record {
            entry = search_is.entry;
            in_part =
                part_stays (as_bit g.row.BIT) lists rank c.args.query.rest at c.args.size (c.args.size + 1) (omega arith) search_is.in_part;
            near =
                λ t.
                near_stays g.row.BIT lists rank c.args.query.rest at c.args.size (search_is.near t) (λ _. omega (arith, above, count t));
          })
      | inr at_most ↦
          let up : at + c.is_at_most.result * step % 18446744073709551616 ≡ at + step =
          one_step c.is_at_most.result at step (c.is_at_most.ensures.yes at_most) small in
          subst (λ (n : ℕ). IsSearch g.row.BIT lists rank (record { rest = c.args.query.rest; entry = n }) c.args.size) (sym up)
          (record {
            entry = inside;
            in_part = part_up (as_bit g.row.BIT) lists rank c.args.query.rest at c.args.size search_is.in_part;
            near =
                λ t.
                near_up g.row.BIT lists rank c.args.query.rest at c.args.size (search_is.near t) inside (omega (arith, at_most, count t));
          })
    ]

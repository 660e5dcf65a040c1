-- The rank is what stands before the part, and what is left.
use Rattle.std.proofs.Common.{◌≡◌, ℕ, ◌+◌, ◌-◌, ◌*◌, ◌%◌, ◌^◌, length, ap, sym, ◌∙◌, subst, arith}
use Rattle.bit_lists.specs.Count.{ones_before}
use Rattle.bitm_select.specs.Search.{sought_in, IsLastPart}
use Rattle.bitm_tables.specs.Tables.{IsIndexed, Lists}
use Rattle.bitm_select.proofs.search.selecting.part_of_rank.Goals as goal

pub returns-clause-part : goal.returns-clause-part
returns-clause-part g c = λ indexed.
    let lists = g.T.TableSource.lists c.args.source.now in
    let part = c.last_part-part.result in
    let m = sought_in g.row.BIT lists.words in
    let last = c.last_part-part.ensures.last indexed in
    let count : c.before_part-before.result ≡ ones_before m (part * 2 ^ 32) =
    c.before_part-before.ensures.count (subst IsIndexed (sym c.last_part-part.ensures.same) indexed)
    ∙ ap (λ (l : Lists). ones_before (sought_in g.row.BIT l.words) (part * 2 ^ 32)) c.last_part-part.ensures.same in
    let total : ones_before m (part * 2 ^ 32) + (c.args.rank + (2 ^ 64 - c.before_part-before.result)) % 2 ^ 64 ≡ c.args.rank =
    omega (arith, count, last.at_most, c.ranges.rank.fits) in
    record {
      last = subst (λ (n : ℕ). IsLastPart m (length lists.upper) n part) (sym total) last;
      total = total;
    }

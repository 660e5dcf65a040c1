-- The first entry back that has no more before it is the last one: the one after it has more.
use Rattle.std.proofs.Common.{◌≡◌, ℕ, ◌+◌, ◌*◌, ◌-◌, ◌^◌, ◌<◌, ◌≤◌, ap, sym, ◌∙◌, subst, arith}
use Rattle.bitm_tables.specs.Entry.{before_in_part, lower_entry}
use Rattle.bitm_select.specs.Search.{sought_in}
use Rattle.bitm_tables.specs.Tables.{HasTables, Lists}
use Rattle.bitm_select.specs.Claims.{claimed_entry}
use Rattle.bit_lists.specs.Count.{as_bit}
use Rattle.bitm_select.proofs.lemmas.SoughtLemmas.{low_is}
use Rattle.bitm_select.proofs.lemmas.ClaimedLemmas.{last_found}
use Rattle.bitm_select.proofs.search.steps.steps_back.Goals as goal

pub returns-then-ones_to_entry-rank-clause-last : goal.returns-then-ones_to_entry-rank-clause-last
returns-then-ones_to_entry-rank-clause-last g c =
    let lists = g.T.TableSource.lists c.args.source.now in
    let m = sought_in g.row.BIT lists.words in
    let i = c.loop-k.invariant in
    let e = c.sought_entry-entry.ensures in
    let next = c.args.at - c.loop-k.k - 1 in
    let at = c.args.part * 2 ^ 21 + next in
    last_found g.row.BIT lists c.requires.sized c.args.part c.args.rank c.requires.inside (next, c.sought_entry-entry.result)
    (omega (arith, c.requires.at))
    (λ t.
    let entry =
    e.entry (subst HasTables (sym i.same) t)
    ∙ ap (λ (l : Lists). lower_entry (sought_in g.row.BIT l.words) at) i.same in
    let count = c.ones_to_entry.ensures ∙ low_is m c.sought_entry-entry.result at entry in
    let back : c.args.at - c.loop-k.k ≡ next + 1 = omega (arith, c.if-at-k.false) in
    record {
      inside = omega (arith, c.requires.at);
      at_most = subst (λ (n : ℕ). n ≤ c.args.rank) count c.if-ones_to_entry-rank.true;
      next = λ _. subst (λ (k : ℕ). c.args.rank < before_in_part m (c.args.part * 2 ^ 21 + k)) back (i.above t);
    })
    (e.claimed ∙ ap (λ (l : Lists). claimed_entry (as_bit g.row.BIT) l at) i.same)

-- Each step goes to an entry that has no more before it.
use Rattle.std.proofs.Common.{◌≡◌, ℕ, ◌+◌, ◌*◌, ◌^◌, ◌<◌, ◌≤◌, ap, sym, ◌∙◌, subst, arith}
use Rattle.bit_lists.specs.Count.{as_bit}
use Rattle.bitm_tables.specs.Entry.{before_in_part, lower_entry}
use Rattle.bitm_tables.specs.declared.source.counts.ReadCounts.{ReadCounts}
use Rattle.bitm_select.specs.Search.{sought_in}
use Rattle.bitm_tables.specs.Tables.{HasTables, Lists}
use Rattle.bitm_select.specs.Claims.{claimed_entry}
use Rattle.bitm_select.proofs.lemmas.SoughtLemmas.{low_is}
use Rattle.bitm_select.proofs.lemmas.ClaimedLemmas.{last_found}
use Rattle.bitm_select.proofs.search.steps.steps_on.Goals as goal

pub loop-k-preserved : goal.loop-k-preserved
loop-k-preserved g c =
    let lists = g.T.TableSource.lists c.args.source.now in
    let m = sought_in g.row.BIT lists.words in
    let i = c.loop-k.invariant in
    let e = c.sought_entry-entry.ensures in
    let at = c.args.part * 2 ^ 21 + (c.args.at + c.loop-k.k + 1) in
    let there : at ≡ c.args.part * 2 ^ 21 + (c.args.at + (c.loop-k.k + 1)) = omega arith in
    record {
      at = omega (arith, c.if-next-end.false, c.entries_of_part-end.ensures, c.lower_len.ensures);
      few = omega (arith, c.loop-k-test.true);
      at_most =
          λ t.
          let entry =
          e.entry (subst HasTables (sym i.same) t)
          ∙ ap (λ (l : Lists). lower_entry (sought_in g.row.BIT l.words) at) i.same in
          let count = c.ones_to_entry.ensures ∙ low_is m c.sought_entry-entry.result at entry ∙ ap (before_in_part m) there in
          subst (λ (n : ℕ). n ≤ c.args.rank) count c.if-rank-ones_to_entry.false;
      packed = e.claimed ∙ ap (λ (l : Lists). claimed_entry (as_bit g.row.BIT) l at) i.same ∙ ap (claimed_entry (as_bit g.row.BIT) lists) there;
      lower = omega (arith, ap (λ (r : ReadCounts). r.lower) e.counted, i.lower);
      upper = ap (λ (r : ReadCounts). r.upper) e.counted ∙ i.upper;
      words = ap (λ (r : ReadCounts). r.words) e.counted ∙ i.words;
      same = e.same ∙ i.same;
    }

pub returns-then-next-end-clause-last : goal.returns-then-next-end-clause-last
returns-then-next-end-clause-last g c =
    let i = c.loop-k.invariant in
    last_found g.row.BIT (g.T.TableSource.lists c.args.source.now) c.requires.sized c.args.part c.args.rank c.requires.inside
    (c.args.at + c.loop-k.k, c.loop-k.packed) i.at
    (λ t. record {
      inside = i.at;
      at_most = i.at_most t;
      next = λ m. absurd (omega (arith, m, c.if-next-end.true, c.entries_of_part-end.ensures, c.lower_len.ensures));
    })
    i.packed

pub returns-then-rank-ones_to_entry-clause-last : goal.returns-then-rank-ones_to_entry-clause-last
returns-then-rank-ones_to_entry-clause-last g c =
    let lists = g.T.TableSource.lists c.args.source.now in
    let m = sought_in g.row.BIT lists.words in
    let i = c.loop-k.invariant in
    let at = c.args.part * 2 ^ 21 + (c.args.at + c.loop-k.k + 1) in
    last_found g.row.BIT lists c.requires.sized c.args.part c.args.rank c.requires.inside (c.args.at + c.loop-k.k, c.loop-k.packed)
    i.at
    (λ t.
    let entry =
    c.sought_entry-entry.ensures.entry (subst HasTables (sym i.same) t)
    ∙ ap (λ (l : Lists). lower_entry (sought_in g.row.BIT l.words) at) i.same in
    let count = c.ones_to_entry.ensures ∙ low_is m c.sought_entry-entry.result at entry in
    record {
      inside = i.at;
      at_most = i.at_most t;
      next = λ _. subst (λ (n : ℕ). c.args.rank < n) count c.if-rank-ones_to_entry.true;
    })
    i.packed

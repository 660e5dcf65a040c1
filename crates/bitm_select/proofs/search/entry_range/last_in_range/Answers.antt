-- Each test halves what is left, and shows on which side the last entry of the part is if the tables are right.
use Rattle.std.proofs.Common.{◌≡◌, ℕ, ◌+◌, ◌*◌, ◌-◌, ◌/◌, ◌^◌, ◌<◌, ◌≤◌, length, ap, sym, ◌∙◌, subst, arith, ◌⊎◌, inl, inr}
use Rattle.bit_lists.specs.Count.{as_bit}
use Rattle.bitm_tables.specs.Entry.{before_in_part, lower_entry, entries_from}
use Rattle.bitm_select.specs.Search.{IsEntryAmong, sought_in}
use Rattle.bitm_tables.specs.Tables.{HasTables, Lists}
use Rattle.bitm_select.specs.Claims.{claimed_entry}
use Rattle.bitm_tables.specs.declared.source.counts.ReadCounts.{ReadCounts}
use Rattle.bitm_select.proofs.lemmas.SearchLemmas.{halves, halves_left}
use Rattle.bitm_tables.proofs.lemmas.LengthLemmas.{few_entries, first_of_part}
use Rattle.bitm_select.proofs.lemmas.SoughtLemmas.{low_is, entries_rise}
use Rattle.bitm_select.proofs.lemmas.ClaimedLemmas.{claimed_is}
use Rattle.bitm_select.proofs.search.entry_range.last_in_range.Goals as goal
use Rattle.bitm_select.proofs.search.entry_range.last_in_range.Goals.{Joined-ones_to_entry-rank, then-ones_to_entry-rank, else-ones_to_entry-rank}

pub overflow_mul-first : goal.overflow_mul-first
overflow_mul-first g c =
    record {
      fits = omega (arith, first_of_part _ c.requires.sized c.args.part c.requires.inside, few_entries _ c.requires.sized);
    }

pub overflow_add-first : goal.overflow_add-first
overflow_add-first g c =
    record { fits = omega (arith, c.loop-left.invariant.to, c.requires.range.within, few_entries _ c.requires.sized) }

pub overflow_add-first-in-loop-left : goal.overflow_add-first-in-loop-left
overflow_add-first-in-loop-left g c =
    record { fits = omega (arith, c.loop-left.invariant.to, c.requires.range.within, few_entries _ c.requires.sized) }

-- ---- the entry in the middle

module _ (g : _) (c : Joined-ones_to_entry-rank g) (t : HasTables (g.T.TableSource.lists c.args.source.now)) where
  next_is : c.sought_entry-next.result
      ≡ lower_entry (sought_in g.row.BIT (g.T.TableSource.lists c.args.source.now).words)
      (c.args.part * 2 ^ 21 + (c.loop-left.low + c.loop-left.left / 2))
  next_is =
      let m = sought_in g.row.BIT (g.T.TableSource.lists c.args.source.now).words in
      let at = c.args.part * 2 ^ 21 + c.loop-left.low + c.loop-left.left / 2 in
      let there : at ≡ c.args.part * 2 ^ 21 + (c.loop-left.low + c.loop-left.left / 2) = omega arith in
      c.sought_entry-next.ensures.entry (subst HasTables (sym c.loop-left.invariant.same) t)
      ∙ ap (λ (l : Lists). lower_entry (sought_in g.row.BIT l.words) at) c.loop-left.invariant.same
      ∙ ap (lower_entry m) there

  count : c.ones_to_entry.result
      ≡ before_in_part (sought_in g.row.BIT (g.T.TableSource.lists c.args.source.now).words)
      (c.args.part * 2 ^ 21 + (c.loop-left.low + c.loop-left.left / 2))
  count =
      let m = sought_in g.row.BIT (g.T.TableSource.lists c.args.source.now).words in
      c.ones_to_entry.ensures
      ∙ low_is m c.sought_entry-next.result (c.args.part * 2 ^ 21 + (c.loop-left.low + c.loop-left.left / 2)) next_is

-- ---- the side of it that is left

among : (g : _) (c : Joined-ones_to_entry-rank g) → HasTables (g.T.TableSource.lists c.args.source.now)
    → IsEntryAmong (sought_in g.row.BIT (g.T.TableSource.lists c.args.source.now).words)
    (length (g.T.TableSource.lists c.args.source.now).lower) c.args.part c.args.rank c.if-ones_to_entry-rank.low
    (c.loop-left.left - c.loop-left.left / 2)
among g c t =
    let lists = g.T.TableSource.lists c.args.source.now in
    let m = sought_in g.row.BIT lists.words in
    let part = c.args.part in
    let low = c.loop-left.low in
    let left = c.loop-left.left in
    let next = c.if-ones_to_entry-rank.low in
    let seen = c.ones_to_entry.result in
    let side : ((seen ≤ c.args.rank) × (next ≡ low + left / 2)) ⊎ ((c.args.rank < seen) × (next ≡ low)) =
    elim c.if-ones_to_entry-rank.branch [
      | then-ones_to_entry-rank w ↦ inl (w.if-ones_to_entry-rank.true, w.low-is)
      | else-ones_to_entry-rank w ↦ inr (w.if-ones_to_entry-rank.false, w.low-is)
    ] in
    halves (λ j. before_in_part m (part * 2 ^ 21 + j)) (entries_from (length lists.lower) part) c.args.rank low left
    next seen (c.loop-left.invariant.among t) c.loop-left-test.true (count g c t) side
    (λ j k h l. entries_rise m part j k h (omega arith))

packed : (g : _) (c : Joined-ones_to_entry-rank g) → 0 < c.if-ones_to_entry-rank.low → c.if-ones_to_entry-rank.packed
    ≡ claimed_entry (as_bit g.row.BIT) (g.T.TableSource.lists c.args.source.now) (c.args.part * 2 ^ 21 + c.if-ones_to_entry-rank.low)
packed g c =
    let claimed = claimed_entry (as_bit g.row.BIT) in
    let lists = g.T.TableSource.lists c.args.source.now in
    let at : ℕ → ℕ = λ j. claimed lists (c.args.part * 2 ^ 21 + j) in
    let mid = c.loop-left.low + c.loop-left.left / 2 in
    let there : c.args.part * 2 ^ 21 + c.loop-left.low + c.loop-left.left / 2 ≡ c.args.part * 2 ^ 21 + mid = omega arith in
    let next : c.sought_entry-next.result ≡ at mid =
    c.sought_entry-next.ensures.claimed
    ∙ ap (λ (l : Lists). claimed l (c.args.part * 2 ^ 21 + c.loop-left.low + c.loop-left.left / 2)) c.loop-left.invariant.same
    ∙ ap (claimed lists) there in
    elim c.if-ones_to_entry-rank.branch [
      | then-ones_to_entry-rank w ↦ λ h. w.packed-is ∙ next ∙ ap at (sym w.low-is)
      | else-ones_to_entry-rank w ↦ λ h. w.packed-is ∙ c.loop-left.invariant.packed (omega (arith, h, w.low-is)) ∙ ap at (sym w.low-is)
    ]

pub loop-left-preserved : goal.loop-left-preserved
loop-left-preserved g c =
    let i = c.loop-left.invariant in
    let e = c.sought_entry-next.ensures in
    let left = c.loop-left.left in
    let d = (goal.at.loop-left-preserved g c).Joined-ones_to_entry-rank in
    let to : c.if-ones_to_entry-rank.low + (left - left / 2) ≤ c.loop-left.low + left =
    elim c.if-ones_to_entry-rank.branch [
      | then-ones_to_entry-rank w ↦ omega (arith, w.low-is)
      | else-ones_to_entry-rank w ↦ omega (arith, w.low-is)
    ] in
    let from : c.loop-left.low ≤ c.if-ones_to_entry-rank.low =
    elim c.if-ones_to_entry-rank.branch [
      | then-ones_to_entry-rank w ↦ omega (arith, w.low-is)
      | else-ones_to_entry-rank w ↦ omega (arith, w.low-is)
    ] in
    record {
      some = omega (arith, c.loop-left-test.true);
      from = omega (arith, i.from, from);
      to = omega (arith, i.to, to);
      among = among g d;
      packed = packed g d;
      lower = omega (arith, i.lower, ap (λ (r : ReadCounts). r.lower) e.counted, halves_left left c.loop-left-test.true);
      lower_kept = omega (arith, i.lower_kept, ap (λ (r : ReadCounts). r.lower) e.counted);
      upper = ap (λ (r : ReadCounts). r.upper) e.counted ∙ i.upper;
      words = ap (λ (r : ReadCounts). r.words) e.counted ∙ i.words;
      same = e.same ∙ i.same;
    }

pub returns-else-low-eq0-clause-entry : goal.returns-else-low-eq0-clause-entry
returns-else-low-eq0-clause-entry g c = λ t.
    let lists = g.T.TableSource.lists c.args.source.now in
    let i = c.loop-left.invariant in
    let at = c.args.part * 2 ^ 21 + c.loop-left.low in
    let inside : at < length lists.lower = omega (arith, i.to, i.some, c.requires.range.within) in
    i.packed (omega (arith, c.if-low-eq0.false)) ∙ claimed_is g.row.BIT lists at t inside

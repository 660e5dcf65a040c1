-- The rank is what stands before the part, and the rank in the part.
use Rattle.std.proofs.Common.{◌≡◌, ◌<◌, ◌≤◌, ℕ, ◌+◌, ◌*◌, ◌^◌, length, sym, ◌∙◌, subst, arith}
use Rattle.bit_lists.proofs.lemmas.BitsLemmas.{length-bits_of}
use Rattle.bit_lists.specs.Bits.{bits_of}
use Rattle.bit_lists.specs.Count.{as_bit, ones_before}
use Rattle.bitm_select.specs.Answers.{IsSelected}
use Rattle.bitm_tables.specs.Entry.{entries_from}
use Rattle.bitm_select.specs.Search.{entry_in, sought_in, IsLastPart}
use Rattle.bitm_select.specs.Claims.{claimed_entry, EntryClaimsNone}
use Rattle.bitm_tables.specs.Answers.{IfAbsent}
use Rattle.bitm_tables.specs.Tables.{HasTables, Lists}
use Rattle.bitm_select.proofs.lemmas.MarkLemmas.{none_in_nothing}
use Rattle.bitm_select.proofs.lemmas.ClaimedLemmas.{all_none, nothing_tells}
use Rattle.bitm_select.proofs.search.selecting.search_on.Goals as goal
use Rattle.bitm_select.proofs.search.selecting.search_on.Goals.{else-this-ne0-via-then-this-ne0+else-in_part-rank, else-this-ne0-via-else-this-ne0}

pub returns-then-upper_len-eq0-clause-answer : goal.returns-then-upper_len-eq0-clause-answer
returns-then-upper_len-eq0-clause-answer g c = λ _.
    let words = (g.T.TableSource.lists c.args.source.now).words in
    none_in_nothing (bits_of words) (as_bit g.row.BIT) c.args.rank
    (omega (arith, length-bits_of words, c.requires.upper_len, c.upper_len.ensures))

pub in_packed-requires-clause-part : goal.in_packed-requires-clause-part
in_packed-requires-clause-part g c = λ u.
    let all = c.entry-entry.ensures.same ∙ c.part_of_rank-part.ensures.same in
    let part = c.part_of_rank-part.result.0 in
    let left = c.part_of_rank-part.result.1 in
    let is = c.part_of_rank-part.ensures.part (record { tables = subst HasTables all u; short = c.requires.short }) in
    subst
    (λ (l : Lists).
    IsLastPart (sought_in g.row.BIT l.words) (length l.upper)
    (ones_before (sought_in g.row.BIT l.words) (part * 2 ^ 32) + left) part)
    (sym all) is.last

pub returns-clause-answer : goal.returns-clause-answer
returns-clause-answer g c = λ t.
    let lists = g.T.TableSource.lists c.args.source.now in
    let here = c.part_of_rank-part.result.0 * 2 ^ 32 in
    let left = c.part_of_rank-part.result.1 in
    let all = c.entry-entry.ensures.same ∙ c.part_of_rank-part.ensures.same in
    let is = c.part_of_rank-part.ensures.part (record { tables = t; short = c.requires.short }) in
    subst (λ (n : ℕ). IsSelected (bits_of lists.words) (as_bit g.row.BIT) n c.in_packed.result) is.total
    (subst
    (λ (l : Lists).
    IsSelected (bits_of l.words) (as_bit g.row.BIT) (ones_before (sought_in g.row.BIT l.words) here + left) c.in_packed.result)
    all (c.in_packed.ensures.answer (subst HasTables (sym all) t)))

pub returns-then-upper_len-eq0-clause-none : goal.returns-then-upper_len-eq0-clause-none
returns-then-upper_len-eq0-clause-none g c = λ _.
    nothing_tells (g.T.TableSource.lists c.args.source.now) (as_bit g.row.BIT) c.args.rank c.requires
    (omega (arith, c.upper_len.ensures, c.if-upper_len-eq0.true))

pub returns-clause-none : goal.returns-clause-none
returns-clause-none g c = λ tests.
    let lists = g.T.TableSource.lists c.args.source.now in
    let v = as_bit g.row.BIT in
    let of_rank = c.part_of_rank-part.ensures in
    let of_entry = c.entry-entry.ensures in
    let part = c.part_of_rank-part.result.0 in
    let left = c.part_of_rank-part.result.1 in
    let entry = c.entry-entry.result.0 in
    let packed = c.entry-entry.result.1 in
    let all = of_entry.same ∙ of_rank.same in
    let tested : left ≤ c.args.rank =
    elim c.else-this-ne0.branch [
      | else-this-ne0-via-then-this-ne0+else-in_part-rank w ↦ omega (arith, w.if-in_part-rank.false)
      | else-this-ne0-via-else-this-ne0 w ↦ absurd (tests w.if-this-ne0.false)
    ] in
    let inside : entry < entries_from (length lists.lower) part =
    subst (λ (l : Lists). entry < entries_from (length l.lower) part) of_rank.same of_entry.last.inside in
    let is : packed ≡ claimed_entry v lists (entry_in part entry) =
    subst (λ (l : Lists). packed ≡ claimed_entry v l (entry_in part entry)) of_rank.same of_entry.last.claimed in
    all_none lists v c.requires part entry packed left c.args.rank of_rank.inside inside is of_rank.claimed of_rank.fits
    c.ranges.rank.fits tested c.in_packed.result
    (subst (λ (l : Lists). IfAbsent c.in_packed.result (EntryClaimsNone v l (entry_in part entry) packed left)) all (c.in_packed.ensures.none tests))

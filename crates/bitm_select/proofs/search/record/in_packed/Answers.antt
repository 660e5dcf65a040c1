-- The record is chosen by the fields of the entry; what is left of the rank counts from there.
use Rattle.std.proofs.Common.{◌≡◌, ℕ, ◌+◌, ◌-◌, ◌*◌, ◌%◌, ◌^◌, ◌<◌, ◌≤◌, ap, sym, ◌∙◌, subst, arith}
use Rattle.bit_lists.specs.Bits.{bits_of}
use Rattle.bit_lists.specs.Count.{as_bit, ones_before}
use Rattle.bitm_tables.specs.Entry.{record_field, less}
use Rattle.bitm_select.specs.Search.{sought_in}
use Rattle.bitm_tables.specs.Tables.{HasTables}
use Rattle.bitm_select.proofs.lemmas.SoughtLemmas.{low_is, rank_is, next_is, total_is, record_fields_rise}
use Rattle.bitm_select.specs.Answers.{IsSelected, IsSelectedFrom}
use Rattle.bitm_select.proofs.lemmas.SelectedLemmas.{found_within, selected}
use Rattle.bitm_select.proofs.search.record.in_packed.Goals as goal
use Rattle.bitm_select.proofs.lemmas.ClaimedLemmas.{entry_none, few_in_records, left_of}
use Rattle.bitm_select.specs.Claims.{claimed_to}
use Rattle.bitm_select.proofs.search.record.in_packed.Goals.{After-record_of-position, else-this-ne0-via-then-this-ne0+else-left-rank, else-this-ne0-via-else-this-ne0}

-- where the tables are right no difference wraps
unwrapped : (g : _) (c : After-record_of-position g) → HasTables (g.T.TableSource.lists c.args.source.now)
    → ((c.args.rank + (2 ^ 64 - c.ones_to_entry.result)) % 2 ^ 64 ≡ c.args.rank - c.ones_to_entry.result)
    × (c.record_of-position.result.1 ≤ c.args.rank - c.ones_to_entry.result)
    × (((c.args.rank + (2 ^ 64 - c.ones_to_entry.result)) % 2 ^ 64 + (2 ^ 64 - c.record_of-position.result.1)) % 2 ^ 64
    ≡ c.args.rank - c.ones_to_entry.result - c.record_of-position.result.1)
unwrapped g c t =
    let m = sought_in g.row.BIT (g.T.TableSource.lists c.args.source.now).words in
    let rank = c.args.rank in
    let packed = c.args.packed in
    let count = c.ones_to_entry.result in
    let before = c.record_of-position.result.1 in
    let at = c.args.part * 2 ^ 21 + c.args.entry in
    let is = c.requires.packed t in
    let one = record_fields_rise m packed at 1 is (omega arith) in
    let two = record_fields_rise m packed at 2 is (omega arith) in
    let same : (rank + (2 ^ 64 - count)) % 2 ^ 64 ≡ rank - count =
    omega (arith, (c.requires.entry t).at_most, low_is m packed at is, c.ones_to_entry.ensures, c.ranges.rank.fits) in
    let at_most : before ≤ rank - count = omega (arith, c.record_of-position.ensures.at_most one two, same) in
    (same, at_most, omega (arith, same, at_most, c.ranges.rank.fits))

pub returns-then-left-rank-clause-answer : goal.returns-then-left-rank-clause-answer
returns-then-left-rank-clause-answer g c = λ t.
    let none = unwrapped g (goal.at.returns-then-left-rank-clause-answer g c).After-record_of-position t in
    omega (arith, none.2, c.if-left-rank.true)

pub returns-clause-answer : goal.returns-clause-answer
returns-clause-answer g c = λ t.
    let l = g.T.TableSource.lists c.args.source.now in
    let m = sought_in g.row.BIT l.words in
    let r = c.record_of-position.ensures in
    let rank = c.args.rank in
    let packed = c.args.packed in
    let count = c.ones_to_entry.result in
    let k = c.record_of-position.result.0 in
    let before = c.record_of-position.result.1 in
    let at = c.args.part * 2 ^ 21 + c.args.entry in
    let first = at * 32 + k * 8 in
    let in_entry = (rank + (2 ^ 64 - count)) % 2 ^ 64 in
    let part = c.requires.part t in
    let entry = c.requires.entry t in
    let is = c.requires.packed t in
    let one = record_fields_rise m packed at 1 is (omega arith) in
    let two = record_fields_rise m packed at 2 is (omega arith) in
    let none = unwrapped g (goal.at.returns-clause-answer g c).After-record_of-position t in
    let same : in_entry ≡ rank - count = none.0 in
    let at_most : before ≤ rank - count = none.1 in
    let next : k < 3 → rank - count < record_field packed (k + 1) = λ h. omega (arith, r.next one two h, same) in
    let left : (in_entry + (2 ^ 64 - before)) % 2 ^ 64 ≡ rank - count - before = none.2 in
    let total =
    rank_is l.words l.upper l.lower t m c.args.part rank c.args.entry k packed count before
    part entry is c.ones_to_entry.ensures r.inside r.before at_most next in
    let follows =
    next_is l.words l.upper l.lower t m c.args.part rank c.args.entry k packed count before
    part entry is c.ones_to_entry.ensures r.inside r.before at_most next in
    let whole =
    total_is l.words l.upper l.lower t m c.args.part rank c.args.entry k packed count before
    part entry is c.ones_to_entry.ensures r.inside r.before at_most next
    c.ones_to_end.result c.args.above c.ones_to_end.ensures.inner (λ h. c.ones_to_end.ensures.last h ∙ ap (less c.args.above) (sym c.ones_to_entry.ensures))
    c.ranges.above.fits (c.requires.above t) in
    let claimed =
    subst (λ (n : ℕ). IsSelectedFrom l.words (as_bit g.row.BIT) first (ones_before m (64 * first) + n) c.from_nearer_end.result) left
    (c.from_nearer_end.ensures.answer (rw left whole)) in
    subst (λ (n : ℕ). IsSelected (bits_of l.words) (as_bit g.row.BIT) n c.from_nearer_end.result) total
    (selected l.words (as_bit g.row.BIT) first _ c.from_nearer_end.result follows claimed)

pub returns-clause-inside : goal.returns-clause-inside
returns-clause-inside g c =
    let at = c.args.part * 2 ^ 21 + c.args.entry in
    let k = c.record_of-position.result.0 in
    let inside = c.record_of-position.ensures.inside in
    found_within (64 * (at * 32 + k * 8)) (64 * (at * 32 + k * 8 + 8)) (2048 * at) (2048 * (at + 1)) (omega arith) (omega (arith, inside))
    c.from_nearer_end.result c.from_nearer_end.ensures.inside

pub returns-clause-none : goal.returns-clause-none
returns-clause-none g c = λ tests.
    let lists = g.T.TableSource.lists c.args.source.now in
    let v = as_bit g.row.BIT in
    let at = c.args.part * 2 ^ 21 + c.args.entry in
    let packed = c.args.packed in
    let rank = c.args.rank in
    let r = c.record_of-position.ensures in
    let k = c.record_of-position.result.0 in
    let before = c.record_of-position.result.1 in
    let to = c.ones_to_entry.result in
    let left = ((rank + (2 ^ 64 - to)) % 2 ^ 64 + (2 ^ 64 - before)) % 2 ^ 64 in
    let tested : left ≤ rank =
    elim c.else-this-ne0.branch [
      | else-this-ne0-via-then-this-ne0+else-left-rank w ↦ omega (arith, w.if-left-rank.false)
      | else-this-ne0-via-else-this-ne0 w ↦ absurd (tests w.if-this-ne0.false)
    ] in
    let few : to < 2 ^ 32 = omega (arith, c.ones_to_entry.ensures) in
    let small : before < 2 ^ 11 = omega (arith, r.before, few_in_records packed k c.ranges.packed.fits) in
    let sum : claimed_to packed k + left ≤ rank =
    omega (arith, left_of rank to before few small tested c.ranges.rank.fits, c.ones_to_entry.ensures, r.before) in
    entry_none lists v at packed rank k left r.inside sum c.from_nearer_end.result c.from_nearer_end.ensures.last
    c.from_nearer_end.ensures.absent

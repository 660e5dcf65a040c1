-- The lower entry counts up to the record, and each quarter from where the one before ends.
use Rattle.std.proofs.Common.{◌≡◌, ℕ, ◌+◌, ◌*◌, ◌/◌, ◌%◌, ◌^◌, ◌<◌, ◌≤◌, length, slice_index, refl, ap, ◌∙◌, arith}
use Rattle.bit_lists.proofs.lemmas.BitsLemmas.{length-bits_of}
use Rattle.bit_lists.specs.Bits.{bits_of}
use Rattle.bit_lists.specs.Count.{ones_before}
use Rattle.bitm_tables.specs.Quarters.{quarter_count, record_count}
use Rattle.bitm_tables.specs.Tables.{Lists}
use Rattle.bitm_tables.proofs.lemmas.QuarterLemmas.{before_record, counted_at, number_counts}
use Rattle.bitm_tables.proofs.lemmas.TableLemmas.{entries}
use Rattle.bitm_tables.proofs.quarters.number_of_record.Goals as goal

pub lower-entry-requires : goal.lower-entry-requires
lower-entry-requires g c =
    let l = g.T.TableSource.lists c.args.source.now in
    let all = (entries (bits_of l.words) l.upper l.lower c.requires.indexed.tables).lower_length in
    let same = c.ones_of_quarter-2.ensures.same ∙ c.ones_of_quarter.ensures.same ∙ c.ones_of_quarter-one.ensures.same in
    omega (arith, c.requires.begun, length-bits_of l.words, all, ap (λ (m : Lists). length m.lower) same)

pub returns-clause-counts : goal.returns-clause-counts
returns-clause-counts g c = λ q less begun.
    let l = g.T.TableSource.lists c.args.source.now in
    let words = l.words in
    let b = bits_of words in
    let at = c.args.at in
    let x = c.ones_of_quarter-one in
    let y = c.ones_of_quarter in
    let z = c.ones_of_quarter-2 in
    let at_y = x.ensures.same in
    let at_z = y.ensures.same ∙ at_y in
    let same = z.ensures.same ∙ at_z in
    let base =
    before_record words l.upper l.lower c.requires.indexed.tables at c.requires.begun c.lower-entry.result
    (c.lower-entry.ensures.item ∙ ap (λ (m : Lists). slice_index m.lower (at / 4)) same) in
    let before = c.ones_to_entry.result + c.ones_to_record.result in
    let fits : before < 2 ^ 32 = omega (arith, base.1, c.ones_to_entry.ensures, c.ones_to_record.ensures) in
    let whole : (n : ℕ) → n ≤ q → 8 * at + 2 * n ≤ length words = λ n few. omega (arith, few, begun, length-bits_of words) in
    let counted =
    number_counts b at before x.result y.result z.result fits x.ensures.most y.ensures.most z.ensures.most
    (omega (arith, base.0, c.ones_to_entry.ensures, c.ones_to_record.ensures)) q less
    (λ h. counted_at _ words (at * 8) x.result (512 * at) (512 * at + 128) refl (omega arith) (omega arith) x.ensures.ones
    (omega (arith, whole 1 (omega (arith, h)))))
    (λ h. counted_at _ words (at * 8 + 2) y.result (512 * at + 128) (512 * at + 256) (ap (λ (m : Lists). m.words) at_y) (omega arith) (omega arith)
    y.ensures.ones (omega (arith, whole 2 (omega (arith, h)))))
    (λ h. counted_at _ words (at * 8 + 4) z.result (512 * at + 256) (512 * at + 384) (ap (λ (m : Lists). m.words) at_z) (omega arith) (omega arith)
    z.ensures.ones (omega (arith, whole 3 (omega (arith, h))))) in
    let number : before + (x.result + y.result + z.result) * 2 ^ 32 % 2 ^ 64 + (x.result + y.result) * 2 ^ 42 % 2 ^ 64 + x.result * 2 ^ 52 % 2 ^ 64
    ≡ before + (x.result + y.result + z.result) * 2 ^ 32 + (x.result + y.result) * 2 ^ 42 + x.result * 2 ^ 52 =
    omega (arith, x.ensures.most, y.ensures.most, z.ensures.most) in
    ap (λ (n : ℕ). ones_before b (at / 2 ^ 23 * 2 ^ 32) + record_count n + quarter_count n q) number ∙ counted

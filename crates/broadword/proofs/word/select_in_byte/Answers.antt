-- The table is what the law computes, and each of its positions was tried.
use Rattle.std.proofs.Common.{ℕ, ◌+◌, ◌*◌, true, subst, sym, zero-add}
use Rattle.std.specs.Int.Count.{ones, ones_in}
use Rattle.std.proofs.lemmas.List.FromFn.{get_or-map-range_with_len}
use Rattle.bit_lists.specs.Bits.{low_digits}
use Rattle.bit_lists.specs.Count.{Picks}
use Rattle.broadword.proofs.lemmas.SelectLemmas.{table_position, table_inside, table_position_picked}
use Rattle.broadword.proofs.word.select_in_byte.Goals as goal

pub bounds-byte : goal.bounds-byte
bounds-byte c = table_inside c.args.byte c.args.rank c.requires c.ranges.byte.fits

pub returns : goal.returns
unfolding ones ones_in
returns c =
    let v = c.args.byte in
    let r = c.args.rank in
    let at = v * 8 + r in
    subst (λ (p : ℕ). Picks (low_digits 8 v) true r p)
    (sym (get_or-map-range_with_len table_position 0 2048 at at 0 (table_inside v r c.requires c.ranges.byte.fits) (zero-add at)))
    (table_position_picked v r c.requires c.ranges.byte.fits)

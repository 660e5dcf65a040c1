-- The table is that of the content, which a contract sees as the whole value.
use Rattle.std.proofs.Common.{◌≡◌, ◌*◌, ◌/◌, length, get_or, sym, ap, ◌∙◌, arith}
use Rattle.bit_lists.proofs.lemmas.BitsLemmas.{length-bits_of}
use Rattle.bit_lists.specs.Bits.{bits_of}
use Rattle.bit_lists.specs.Count.{ones_before}
use Rattle.bitm.specs.Simple.{simple_table_of}
use Rattle.bitm.proofs.lemmas.SimpleLemmas.{length-simple_table_of, get_or-simple_table_of, run_begun}
use Rattle.bitm.proofs.simple.RankSimple.ones_through.Goals as goal

pub bounds-as_slice-last : goal.bounds-as_slice-last
bounds-as_slice-last g c =
    let b = bits_of (g.BV.AsSlice.items c.args.self.now) in
    let table : c.as_slice.result.now ≡ simple_table_of b =
    c.as_slice.ensures.value ∙ c.self.invariant.2 ∙ ap (λ v. simple_table_of (bits_of (g.BV.AsSlice.items v))) c.self.view_is in
    omega (arith, ap length table, length-simple_table_of b, run_begun (length b) c.args.last c.requires)

pub rank_from-requires-clause-inside : goal.rank_from-requires-clause-inside
rank_from-requires-clause-inside g c =
    let words = g.BV.AsSlice.items c.args.self.now in
    let same = c.as_slice-2.ensures ∙ ap g.BV.AsSlice.items c.self.view_is in
    omega (arith, ap length same, length-bits_of words, c.requires)

pub rank_from-requires-clause-before : goal.rank_from-requires-clause-before
rank_from-requires-clause-before g c =
    let b = bits_of (g.BV.AsSlice.items c.self.inside.content) in
    let position = ap (λ v. length (bits_of (g.BV.AsSlice.items v))) c.self.view_is in
    let table : c.as_slice.result.now ≡ simple_table_of b = c.as_slice.ensures.value ∙ c.self.invariant.2 in
    ap (λ t. get_or t (c.args.last / 512) 0) table
    ∙ get_or-simple_table_of b (c.args.last / 512) 0 (run_begun (length b) c.args.last (omega (arith, position, c.requires)))
    ∙ ap (λ ws. ones_before (bits_of ws) (512 * (c.args.last / 512))) (sym c.as_slice-2.ensures)

-- The last bit that counts is inside exactly where its word is, and where none counts the answer is 0.
use Rattle.std.proofs.Common.{length, ap, ◌∙◌, arith}
use Rattle.bit_lists.proofs.lemmas.BitsLemmas.{length-bits_of}
use Rattle.bit_lists.specs.Bits.{bits_of}
use Rattle.bit_lists.specs.Count.{ones_before}
use Rattle.bitm_tables.proofs.lemmas.RankLemmas.{rank_inside, rank_outside, rank_of_none}
use Rattle.bitm.proofs.simple.RankSimple.try_rank.Goals as goal

pub ones_through-requires : goal.ones_through-requires
ones_through-requires g c =
    let same = c.as_slice.ensures ∙ ap g.BV.AsSlice.items c.self.view_is in
    omega (arith, ap length same, length-bits_of (g.BV.AsSlice.items c.args.self.now))

pub returns-then-last-as_slice : goal.returns-then-last-as_slice
returns-then-last-as_slice g c =
    let words = g.BV.AsSlice.items c.args.self.now in
    let same = c.as_slice.ensures ∙ ap g.BV.AsSlice.items c.self.view_is in
    let short = ap (λ v. length (g.BV.AsSlice.items v)) c.self.view_is in
    let inside = rank_inside words c.args.index (omega (arith, c.ranges.index)) (omega (arith, c.self.invariant.0, short)) (omega (arith, ap length same)) in
    (inside.1, c.ones_through.ensures ∙ ap (ones_before (bits_of words)) inside.0)

pub returns-then-index-eq0 : goal.returns-then-index-eq0
returns-then-index-eq0 g c = rank_of_none _ c.args.index (omega arith)

pub returns-else-index-eq0 : goal.returns-else-index-eq0
returns-else-index-eq0 g c =
    let same = c.as_slice.ensures ∙ ap g.BV.AsSlice.items c.self.view_is in
    rank_outside (g.BV.AsSlice.items c.args.self.now) c.args.index (omega (arith, c.ranges.index)) (omega (arith, ap length same)) (omega arith)

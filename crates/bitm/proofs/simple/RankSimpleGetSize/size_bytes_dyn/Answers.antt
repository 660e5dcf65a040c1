-- The table has an entry for each begun run of eight words.
use Rattle.std.proofs.Common.{◌≡◌, length, ap, arith}
use Rattle.std.specs.Box.{boxed_slice_len}
use Rattle.std.specs.Int.{div_ceil}
use Rattle.bit_lists.proofs.lemmas.BitsLemmas.{length-bits_of}
use Rattle.bit_lists.specs.Bits.{bits_of}
use Rattle.bitm.proofs.lemmas.SimpleLemmas.{length-simple_table_of, runs_of_words}
use Rattle.bitm.proofs.simple.RankSimpleGetSize.size_bytes_dyn.Goals as goal

pub returns : goal.returns
returns g c =
    let words = g.BV.AsSlice.items c.self.inside.content in
    let entries : boxed_slice_len c.self.inside.ranks ≡ div_ceil (length words) 8 =
    omega (
      arith,
      c.self.inside.ranks.items.ok.0,
      ap length c.self.invariant.2,
      length-simple_table_of (bits_of words),
      ap (λ n. div_ceil n 512) (length-bits_of words),
      runs_of_words (length words),
    ) in
    let same = ap (λ v. div_ceil (length (g.BV.AsSlice.items v)) 8) c.self.view_is in
    omega (arith, c.saturating_add.ensures, c.size_bytes_dyn.ensures, c.size_bytes_dyn-2.ensures, entries, same, ap g.BV.GetSize.dyn_bytes c.self.view_is)

-- The tables have an entry for each begun 2^26 words, and for each begun 32.
use Rattle.std.proofs.Common.{◌≡◌, ◌^◌, length, ap, arith}
use Rattle.std.specs.Box.{boxed_slice_len}
use Rattle.std.specs.Int.{div_ceil}
use Rattle.bit_lists.proofs.lemmas.BitsLemmas.{length-bits_of}
use Rattle.bit_lists.specs.Bits.{bits_of}
use Rattle.bitm_tables.proofs.lemmas.TableLemmas.{entries}
use Rattle.bitm_tables.proofs.lemmas.TableMakingLemmas.{parts_of_words, entries_of_words}
use Rattle.bitm.proofs.index.RankSelect101111GetSize.size_bytes_dyn.Goals as goal

pub returns : goal.returns
returns g c =
    let index = c.self.inside in
    let words = g.BV.AsSlice.items index.content in
    let table = entries (bits_of words) _ _ c.self.invariant.1 in
    let uppers : boxed_slice_len index.tables.l1ranks ≡ div_ceil (length words) (2 ^ 26) =
    omega (arith, index.tables.l1ranks.items.ok.0, table.upper_length, ap (λ n. div_ceil n (2 ^ 32)) (length-bits_of words), parts_of_words (length words)) in
    let lowers : boxed_slice_len index.tables.l2ranks ≡ div_ceil (length words) 32 =
    omega (arith, index.tables.l2ranks.items.ok.0, table.lower_length, ap (λ n. div_ceil n 2048) (length-bits_of words), entries_of_words (length words)) in
    omega (
      arith,
      c.size_bytes_dyn.ensures,
      c.size_bytes_dyn-2.ensures,
      c.size_bytes_dyn-3.ensures,
      c.size_bytes_dyn-4.ensures,
      c.size_bytes_dyn-5.ensures,
      c.saturating_add.ensures,
      c.saturating_add-2.ensures,
      c.saturating_add-3.ensures,
      c.saturating_add-4.ensures,
      uppers,
      lowers,
      ap (λ v. div_ceil (length (g.BV.AsSlice.items v.content)) (2 ^ 26)) c.self.view_is,
      ap (λ v. div_ceil (length (g.BV.AsSlice.items v.content)) 32) c.self.view_is,
      ap (λ v. g.BV.GetSize.dyn_bytes v.content) c.self.view_is,
      ap (λ v. g.S.GetSize.dyn_bytes v.select) c.self.view_is,
      ap (λ v. g.S0.GetSize.dyn_bytes v.select0) c.self.view_is,
    )

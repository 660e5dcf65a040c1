use Rattle.std.proofs.Common.{◌≡◌, ◌*◌, ◌^◌, length, min}
use Rattle.std.specs.Int.{div_ceil}
use Rattle.bit_lists.specs.Bits.{bits_of}
use Rattle.bit_lists.specs.Count.{ones_before}
use Rattle.bitm_tables.specs.Entry.{lower_entry}
use Rattle.tables_view.specs.Sizes.{IsFilled}
use Rattle.tables_view.proofs.filling.fill.Given as goal

-- both tables up to this part, and the ones before it
abbrev pub invariant-loop-part : goal.invariant-loop-part
invariant-loop-part l = record {
  upper : IsFilled (λ k. ones_before (bits_of l.words) (k * 2 ^ 32)) l.upper l.part;
  lower : IsFilled (lower_entry (bits_of l.words)) l.lower (min (div_ceil (length l.words) 32) (l.part * 2 ^ 21));
  lower_len : length l.lower ≡ div_ceil (length l.words) 32;
  ones : l.ones ≡ ones_before (bits_of l.words) (l.part * 2 ^ 32);
}

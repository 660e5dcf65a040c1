use Rattle.std.proofs.Common.{◌≡◌, ◌*◌, ◌^◌, map, length, min}
use Rattle.std.specs.Int.{div_ceil}
use Rattle.std.specs.List.{range_with_len}
use Rattle.bit_lists.specs.Bits.{bits_of}
use Rattle.bit_lists.specs.Count.{ones_before}
use Rattle.bitm_tables.specs.Entry.{lower_entry}
use Rattle.bitm_tables.proofs.tables.make.Given as goal

-- both tables up to this part, and the ones before it
abbrev pub invariant-loop-part : goal.invariant-loop-part
invariant-loop-part l = record {
  upper : l.l1ranks.items ≡ map (λ k. ones_before (bits_of l.words) (k * 2 ^ 32)) (range_with_len 0 l.part);
  lower : l.l2ranks.items ≡ map (lower_entry (bits_of l.words)) (range_with_len 0 (min (div_ceil (length l.words) 32) (l.part * 2 ^ 21)));
  ones : l.ones ≡ ones_before (bits_of l.words) (l.part * 2 ^ 32);
}

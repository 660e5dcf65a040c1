use Rattle.std.proofs.Common.{◌≡◌, ◌+◌, ◌*◌, ◌^◌, map}
use Rattle.std.specs.List.{range_with_len}
use Rattle.bit_lists.specs.Bits.{bits_of}
use Rattle.bit_lists.specs.Count.{ones_before}
use Rattle.bitm_tables.specs.Entry.{lower_entry}
use Rattle.bitm_tables.proofs.tables.push_entries.Given as goal

-- the entries up to this one, and the ones from the start of the part to it
abbrev pub invariant-loop-at : goal.invariant-loop-at
invariant-loop-at l = record {
  entries : l.l2ranks.items ≡ map (lower_entry (bits_of l.words)) (range_with_len 0 l.at);
  ones : ones_before (bits_of l.words) (l.part * 2 ^ 32) + l.in_part ≡ ones_before (bits_of l.words) (2048 * l.at);
}

use Rattle.std.proofs.Common.{◌≡◌, ◌+◌, ◌*◌, ◌^◌}
use Rattle.bit_lists.specs.Bits.{bits_of}
use Rattle.bit_lists.specs.Count.{ones_before}
use Rattle.bitm_tables.specs.Entry.{lower_entry}
use Rattle.tables_view.specs.Sizes.{IsFilled}
use Rattle.tables_view.proofs.filling.fill_part.Given as goal

-- the entries up to this one, and the ones from the start of the part to it
abbrev pub invariant-loop-at : goal.invariant-loop-at
invariant-loop-at l = record {
  entries : IsFilled (lower_entry (bits_of l.words)) l.lower l.at;
  ones : ones_before (bits_of l.words) (l.part * 2 ^ 32) + l.in_part ≡ ones_before (bits_of l.words) (2048 * l.at);
}

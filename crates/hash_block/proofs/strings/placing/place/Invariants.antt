use Rattle.std.proofs.Common.{◌≡◌, length}
use Rattle.hash_block.specs.Given.{string_begin, total_of, AreStringsPlaced}
use Rattle.hash_block.specs.StringsParts.{given_number}
use Rattle.hash_block.proofs.strings.placing.place.Given as goal

-- the strings so far are placed
abbrev pub invariant-loop-i : goal.invariant-loop-i
invariant-loop-i l = record {
  placed : AreStringsPlaced (given_number l.hash l.bytes l.ends) (length l.ends) l.i l.order;
  total : total_of l.ends l.order (length l.ends) ≡ string_begin l.ends l.i;
  count : length l.order ≡ length l.initial.order;
}

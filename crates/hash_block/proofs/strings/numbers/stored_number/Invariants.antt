use Rattle.std.proofs.Common.{◌≡◌, ◌<◌, ◌^◌}
use Rattle.hash_block.specs.Bytes.{stored_from}
use Rattle.hash_block.specs.SipHash.{number_from}
use Rattle.hash_block.proofs.strings.numbers.stored_number.Given as goal

-- the number of the bytes so far
abbrev pub invariant-loop-j : goal.invariant-loop-j
invariant-loop-j l = record {
  value : l.number ≡ number_from (stored_from l.words l.begin) l.at l.j;
  bound : l.number < 256 ^ l.j;
}

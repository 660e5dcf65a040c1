use Rattle.std.proofs.Common.{◌≡◌, ◌<◌, ◌^◌}
use Rattle.hash_block.specs.Bytes.{bytes_from}
use Rattle.hash_block.specs.SipHash.{number_from}
use Rattle.hash_block.proofs.strings.numbers.rest_from.Given as goal

-- the number of the bytes so far
abbrev pub invariant-loop-j : goal.invariant-loop-j
invariant-loop-j l = record {
  value : l.number ≡ number_from (bytes_from l.bytes l.begin) l.at l.j;
  bound : l.number < 256 ^ l.j;
}

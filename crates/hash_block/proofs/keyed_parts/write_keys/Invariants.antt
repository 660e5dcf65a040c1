use Rattle.std.proofs.Common.{◌≡◌, length}
use Rattle.hash_block.specs.Dictionary.{number_of_key}
use Rattle.hash_block.proofs.KeyLemmas.{StandTo}
use Rattle.hash_block.proofs.keyed_parts.write_keys.Given as goal

-- the keys so far stand at their numbers
abbrev pub invariant-loop-key : goal.invariant-loop-key
invariant-loop-key l = record {
  stand : StandTo (number_of_key l.hash) l.keys l.to l.key-index;
  len : length l.to ≡ length l.keys;
}

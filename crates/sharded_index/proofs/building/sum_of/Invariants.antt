use Rattle.std.proofs.Common.{◌≡◌, ◌^◌, ◌<◌, sum, take}
use Rattle.sharded_index.proofs.building.sum_of.Given as goal

-- the sum so far
abbrev pub invariant-loop-number : goal.invariant-loop-number
invariant-loop-number l = record {
  fits : l.sum < 2 ^ 64;
  sum_is : l.sum ≡ sum (take l.number-index l.numbers);
}

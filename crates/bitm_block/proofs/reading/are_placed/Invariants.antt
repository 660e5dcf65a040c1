use Rattle.std.proofs.Common.{◌≡◌, ℕ, ◌+◌, ◌*◌, ◌^◌, ◌<◌, ◌≤◌}
use Rattle.bitm_block.specs.Header.{begin_in, IsEntry}
use Rattle.bitm_block.proofs.reading.are_placed.Given as goal

-- the sections so far stand where the directory says, and the next one after them
abbrev pub invariant-loop-i : goal.invariant-loop-i
invariant-loop-i l = record {
  at : l.at ≡ begin_in l.block l.i;
  most : l.at ≤ 80 + l.i * 2 ^ 58;
  entries : (k : ℕ) → k < l.i → IsEntry l.block k;
}

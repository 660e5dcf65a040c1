use Rattle.std.proofs.Common.{ℕ, ◌<◌, ◌≤◌, length, slice_index}
use Rattle.hash_block.specs.Given.{string_begin}
use Rattle.hash_block.proofs.strings.given.are_given.Given as goal

-- the strings so far end where they begin or later, and among the bytes
abbrev pub invariant-loop-i : goal.invariant-loop-i
invariant-loop-i l = record {
  rise : (k : ℕ) → k < l.i → string_begin l.ends k ≤ slice_index l.ends k;
  inside : (k : ℕ) → k < l.i → slice_index l.ends k ≤ length l.bytes;
}

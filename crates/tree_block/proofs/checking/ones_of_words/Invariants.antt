use Rattle.std.proofs.Common.{◌≡◌, ◌*◌}
use Rattle.bit_lists.specs.Bits.{bits_of}
use Rattle.bit_lists.specs.Count.{ones_before}
use Rattle.tree_block.specs.Check.{OnesLead}
use Rattle.tree_block.proofs.checking.ones_of_words.Given as goal

-- the zeros of the words so far come after more ones than zeros, and the ones are counted
abbrev pub invariant-loop-i : goal.invariant-loop-i
invariant-loop-i l = record {
  leads : OnesLead (bits_of l.words) (64 * l.i);
  ones : l.ones ≡ ones_before (bits_of l.words) (64 * l.i);
}

use Rattle.std.proofs.Common.{◌-◌, ◌*◌, ◌≤◌}
use Rattle.bit_lists.specs.Bits.{bits_of}
use Rattle.bit_words.specs.Copied.{IsCopied}
use Rattle.bit_words.proofs.slices.copying.copy_each_word.Given as goal

-- the words so far
abbrev pub invariant-loop-done : goal.invariant-loop-done
invariant-loop-done g l = record { within : l.done ≤ l.count; copied : IsCopied (bits_of l.from) l.from_begin (bits_of l.fn.to) (64 * l.first) (64 * l.done) (bits_of l.to) }

abbrev pub decreases-loop-done : goal.decreases-loop-done
decreases-loop-done g l = l.count - l.done

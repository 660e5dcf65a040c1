use Rattle.std.proofs.Common.{◌≡◌, ℕ, ◌*◌, ◌<◌, false}
use Rattle.bit_lists.specs.Bits.{bits_of, item}
use Rattle.bit_words.proofs.finding.trailing_zero_bits.Given as goal

abbrev pub invariant-loop-word_index : goal.invariant-loop-word_index
invariant-loop-word_index l = (i : ℕ) → i < 64 * l.word_index → item (bits_of l.words) i ≡ false

use Rattle.std.proofs.Common.{◌-◌, ◌*◌, ◌+◌, ◌<◌, length}
use Rattle.bit_words.proofs.lemmas.FindLemmas.{IsRestFrom}
use Rattle.bit_words.proofs.lemmas.ZeroLemmas.{negation}
use Rattle.bit_words.proofs.nearest.find_bit_zero.Given as goal

abbrev pub invariant-loop-rest : goal.invariant-loop-rest
invariant-loop-rest l = record { left : IsRestFrom (negation l.words) l.start l.word_index l.rest; near : l.start < 64 * (l.word_index + 1) }

abbrev pub decreases-loop-rest : goal.decreases-loop-rest
decreases-loop-rest l = length l.words - l.word_index

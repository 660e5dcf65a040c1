use Rattle.std.proofs.Common.{◌*◌, ◌≤◌}
use Rattle.bit_words.proofs.lemmas.FindBackLemmas.{IsRestTo}
use Rattle.bit_words.proofs.lemmas.ZeroLemmas.{negation}
use Rattle.bit_words.proofs.nearest.rfind_bit_zero.Given as goal

abbrev pub invariant-loop-rest : goal.invariant-loop-rest
invariant-loop-rest l = record { left : IsRestTo (negation l.words) l.start l.word_index l.rest; near : 64 * l.word_index ≤ l.start }

abbrev pub decreases-loop-rest : goal.decreases-loop-rest
decreases-loop-rest l = l.word_index

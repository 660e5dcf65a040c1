use Rattle.bitm_bits.proofs.lemmas.RunLemmas.{IsRun}
use Rattle.bitm_bits.proofs.making.init_fragments.Given as goal

abbrev pub invariant-loop-i : goal.invariant-loop-i
invariant-loop-i l = IsRun l.words l.fn.word l.fn.s l.i

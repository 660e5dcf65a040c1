use Rattle.program_files.proofs.lemmas.BitsLemmas.{EndSoFar}
use Rattle.program_files.proofs.blocks.bits.end_of.Given as goal

abbrev pub invariant-loop-number : goal.invariant-loop-number
invariant-loop-number l = EndSoFar l.numbers l.number-index l.end

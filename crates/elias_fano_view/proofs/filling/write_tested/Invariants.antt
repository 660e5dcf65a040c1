use Rattle.elias_fano.proofs.lemmas.UpperLemmas.{HasOnes}
use Rattle.elias_fano_view.proofs.filling.write_tested.Given as goal

-- the ones of the numbers so far
abbrev pub invariant-loop-i : goal.invariant-loop-i
invariant-loop-i l = HasOnes l.items l.width l.i l.words

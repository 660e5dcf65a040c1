use Rattle.bit_words.proofs.lemmas.FillLemmas.{IsFilled}
use Rattle.bit_words.proofs.slices.filling.fill.Given as goal

-- the numbers so far; the bits after them are as they were
abbrev pub invariant-loop-index : goal.invariant-loop-index
invariant-loop-index l = IsFilled l.fn.words l.words l.width l.value l.index

use Rattle.perfect_hash.specs.Dictionary.{print_of}
use Rattle.perfect_hash.specs.Parts.{number_at}
use Rattle.perfect_hash.proofs.lemmas.DictionaryLemmas.{PrintsTo}
use Rattle.perfect_hash.proofs.dictionary.write_prints.Given as goal

-- the fingerprints of the keys so far are written
abbrev pub invariant-loop-key : goal.invariant-loop-key
invariant-loop-key g l =
    PrintsTo (number_at g.P.Placing.fall g.H.KeyHash.hash l.numbers) (λ k. print_of l.width (g.H.KeyHash.hash l.numbers.hasher k)) l.keys l.width
    l.prints l.key-index

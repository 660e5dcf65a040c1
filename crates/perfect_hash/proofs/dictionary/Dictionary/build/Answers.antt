-- The fingerprints that were written are those of a dictionary.
use Rattle.perfect_hash.specs.Dictionary.{print_of}
use Rattle.perfect_hash.specs.Parts.{number_at}
use Rattle.perfect_hash.proofs.lemmas.DictionaryLemmas.{dictionary}
use Rattle.perfect_hash.proofs.dictionary.Dictionary.build.Goals as goal

pub returns-in-Ok-clause-dictionary : goal.returns-in-Ok-clause-dictionary
returns-in-Ok-clause-dictionary g c =
    dictionary (number_at g.P.Placing.fall g.H.KeyHash.hash c.args.numbers) (λ k. print_of c.args.width (g.H.KeyHash.hash c.args.numbers.hasher k))
    c.args.keys.now c.args.width c.requires.perfect _ c.in-Ok.ensures.prints

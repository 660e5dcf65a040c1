-- The masks count the ones of each byte, and the product sums them up.
use Rattle.broadword.proofs.lemmas.ByteSumLemmas.{byte_sums_are}
use Rattle.broadword.proofs.lemmas.LeBytesLemmas.{sums_of, bytes_are}
use Rattle.broadword.proofs.word.byte_sums.Goals as goal

pub returns : goal.returns
returns c = bytes_are (sums_of c.args.n) _ (λ k inside. byte_sums_are c.args.n k c.ranges.n.fits inside)

-- Each bit of the word is that of its digit.
use Rattle.digits.proofs.lemmas.MaskLemmas.{matched}
use Rattle.digits.proofs.line.matches.Goals as goal

pub returns : goal.returns
returns c = λ j inside. matched c.args.low c.args.high c.args.digit j c.requires inside

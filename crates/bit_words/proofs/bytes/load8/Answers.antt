-- The sum of the bytes is the number that their bits make.
use Rattle.std.proofs.Common.{◌∙◌, add-zero, rules}
use Rattle.bit_words.proofs.lemmas.ByteNumberLemmas.{bytes_as_number}
use Rattle.bit_words.proofs.bytes.load8.Goals as goal

pub returns : goal.returns
returns c =
    let whole = rw add-zero at (bytes_as_number c.args.bytes.now c.args.at 7 (λ i. search rules) c.requires) in
    c.from_le_bytes.ensures ∙ whole

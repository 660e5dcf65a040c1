-- The ones of a record are those up to its end less those up to its start.
use Rattle.std.proofs.Common.{◌≡◌, ◌+◌, ◌-◌, length, min, take, drop, ap₂, arith, rules}
use Rattle.bit_lists.specs.Bits.{bits_of}
use Rattle.bitm_tables.proofs.lemmas.TableMakingLemmas.{ones_between_words, ones_of_record-most}
use Rattle.bitm_tables.proofs.tables.ones_of_record.Goals as goal

pub returns-then-end-words-clause-ones : goal.returns-then-end-words-clause-ones
returns-then-end-words-clause-ones c =
    let words = c.args.words.now in
    let first = c.args.first in
    let s : first ≡ min (length words) first = omega (arith, c.if-end-words.true) in
    let z : first + 8 ≡ min (length words) (first + 8) = omega (arith, c.if-end-words.true) in
    let part = ap₂ (λ s e. take (e - s) (drop s words)) s z in
    let h = ones_between_words words _ first (first + 8) (omega arith) (λ j. search rules) part in
    omega (arith, c.count_bit_ones.ensures, h)

pub returns-then-end-words-clause-most : goal.returns-then-end-words-clause-most
returns-then-end-words-clause-most c =
    ones_of_record-most (bits_of c.args.words.now) c.args.first _ (returns-then-end-words-clause-ones c)

-- The ones of what is left are those up to the words' end less those up to its start.
use Rattle.std.proofs.Common.{◌≡◌, ◌+◌, ◌-◌, length, min, take, drop, ap₂, arith, rules}
use Rattle.bit_lists.specs.Bits.{bits_of}
use Rattle.bitm_tables.proofs.lemmas.TableMakingLemmas.{ones_between_words, ones_of_record-most}
use Rattle.bitm_tables.proofs.tables.ones_of_cut_record.Goals as goal

pub returns-clause-ones : goal.returns-clause-ones
returns-clause-ones c =
    let words = c.args.words.now in
    let first = c.args.first in
    let z : length words ≡ min (length words) (first + 8) = omega (arith, c.requires.cut) in
    let part = ap₂ (λ s e. take (e - s) (drop s words)) c.min.ensures z in
    let h = ones_between_words words _ first (first + 8) (omega arith) (λ j. search rules) part in
    omega (arith, c.count_bit_ones.ensures, h)

pub returns-clause-most : goal.returns-clause-most
returns-clause-most c =
    ones_of_record-most (bits_of c.args.words.now) c.args.first _ (returns-clause-ones c)

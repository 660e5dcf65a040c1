-- No bit is left, and there is none past the end.
use Rattle.std.proofs.Common.{◌*◌, false, length, ⊎_elim, arith}
use Rattle.std.proofs.lemmas.Bool.{cases_lt}
use Rattle.std.proofs.lemmas.List.{get_or_past}
use Rattle.bit_lists.specs.Bits.{bits_of}
use Rattle.bit_lists.proofs.BitLaws.{bits_are_counted}
use Rattle.perfect_hash.proofs.levels.in_place.clear.Goals as goal

pub returns-clause-zeros : goal.returns-clause-zeros
returns-clause-zeros c = λ i.
    let filled = c.fill_range in
    let old = c.args.words.now in
    ⊎_elim (λ low. filled.ensures.inside i (omega arith) low)
    (λ high. get_or_past (bits_of filled.new.words) i false (omega (arith, high, bits_are_counted filled.new.words, filled.ensures.len)))
    (cases_lt i (64 * length old))

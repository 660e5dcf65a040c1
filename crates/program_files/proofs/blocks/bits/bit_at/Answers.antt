use Rattle.std.proofs.Common.{◌≡◌, ◌*◌, ◌≤◌, Bool, length, ap, length-take, arith, rules}
use Rattle.bit_lists.specs.Bits.{bits_of}
use Rattle.bit_lists.proofs.lemmas.BitsLemmas.{length-bits_of}
use Rattle.program_files.proofs.blocks.bits.bit_at.Goals as goal

pub returns-in_default : goal.returns-in_default
returns-in_default c =
    let words = c.args.view.now.lists.words in
    let same : c.words.result.now ≡ words = search rules in
    let few : 64 * length c.words.result.now ≤ c.args.position = omega (arith, c.in_default.ensures) in
    omega (arith, few, ap length same, length-bits_of words, length-take {A = Bool} c.args.view.now.len (bits_of words))

use Rattle.std.proofs.Common.{drop, length, arith}
use Rattle.std.proofs.lemmas.List.{take_at}
use Rattle.bit_lists.specs.Bits.{bits_of}
use Rattle.program_files.proofs.lemmas.BitsLemmas.{ones_set}
use Rattle.program_files.proofs.blocks.bits.words_with.Goals as goal

pub returns-clause-ones : goal.returns-clause-ones
returns-clause-ones c =
    let words = c.set_listed_in.new.words in
    let whole = take_at words (drop (length words) c.in_ok-words.words.items) c.in_ok-words.words.len (omega (arith, c.set_listed_in.auto.words, c.as_mut_slice.ensures.len)) in
    let set = rw (c.as_mut_slice.ensures.value, c.in_ok-words.ensures, c.as_slice.ensures.value, c.in_ok-positions.ensures) at c.set_listed_in.ensures.bits in
    rw whole (ones_set c.args.positions.now c.args.len _ (bits_of words) c.requires set)

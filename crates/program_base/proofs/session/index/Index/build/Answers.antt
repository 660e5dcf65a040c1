-- There are no more ones than bits, and few bits.
use Rattle.std.proofs.Common.{length, ap, arith}
use Rattle.std.specs.Box.{boxed_slice_items}
use Rattle.bitm.proofs.Callers.{length-bits_of, ones_before-add-zeros_before}
use Rattle.bitm.specs.Bits.{bits_of}
use Rattle.program_base.proofs.session.index.Index.build.Goals as goal

pub build-requires-clause-few : goal.build-requires-clause-few
build-requires-clause-few c =
    let words = boxed_slice_items c.in_ok-copy.copy in
    let b = bits_of words in
    omega (arith, ones_before-add-zeros_before b (length b) (omega arith), length-bits_of words, ap length c.in_ok-copy.ensures, c.args.words.now.items.ok.0, c.requires)

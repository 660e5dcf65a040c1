-- What was written is the levels of the numbers.
use Rattle.std.proofs.Common.{◌∙◌, ◌*◌, ◌≤◌, length, refl, arith}
use Rattle.std.proofs.lemmas.Result.{IfOk-weaker}
use Rattle.std.specs.Box.{boxed_slice_items}
use Rattle.bit_lists.specs.Bits.{bits_of}
use Rattle.bit_lists.proofs.BitLaws.{bits_are_counted}
use Rattle.matrix_levels.proofs.lemmas.MakeLemmas.{words-enough}
use Rattle.matrix_levels.proofs.lemmas.MatrixLemmas.{items_of-is}
use Rattle.wavelet_matrix.proofs.matrix.WaveletMatrix.build_by.Goals as goal

pub returns-clause-items : goal.returns-clause-items
returns-clause-items g c =
    let xs = c.args.numbers.now in
    let ws = boxed_slice_items c.in_ok-content.content in
    let room : c.args.width * length xs ≤ length (bits_of ws) = omega (arith, bits_are_counted ws, words-enough _ _ c.in_ok-content.ensures.words) in
    IfOk-weaker c.from_levels.result _ _
    (λ made items. items ∙ items_of-is xs c.args.width (length xs) (bits_of ws) refl room c.in_ok-content.ensures.levels c.requires.fit)
    c.from_levels.ensures.items

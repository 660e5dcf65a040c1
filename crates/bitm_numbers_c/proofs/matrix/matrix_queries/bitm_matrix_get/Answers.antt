-- What is answered is reported.
use Rattle.bitm_abi.proofs.ClaimedLemmas.{claimed}
use Rattle.bitm_numbers_c.specs.Matrix.{IsMatrixNumber}
use Rattle.bitm_numbers_c.proofs.matrix.matrix_queries.bitm_matrix_get.Goals as goal

pub returns-in-Some : goal.returns-in-Some
returns-in-Some c =
    claimed (IsMatrixNumber c.args.index) _ _ c.in-Some.ensures.1 _ c.in-Some.ensures.0 c.report.result c.args.out.now c.report.new.out _ c.report.ensures
    (record { inside = c.get.ensures.inside; right = c.get.ensures.answer })

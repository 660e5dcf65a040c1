-- What is answered is reported.
use Rattle.bitm_abi.proofs.ClaimedLemmas.{claimed}
use Rattle.bitm_numbers_c.specs.Matrix.{IsIndexByHints}
use Rattle.bitm_numbers_c.proofs.matrix.matrix_queries.bitm_matrix_select.Goals as goal

pub returns-in-Some : goal.returns-in-Some
returns-in-Some c =
    claimed (IsIndexByHints c.args.number c.args.rank) _ _ c.in-Some.ensures.1 _ c.in-Some.ensures.0 c.report.result c.args.out.now c.report.new.out _ c.report.ensures
    (record { inside = c.select.ensures.inside; right = c.select.ensures.answer })

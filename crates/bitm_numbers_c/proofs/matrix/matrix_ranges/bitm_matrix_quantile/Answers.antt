-- What is answered is reported.
use Rattle.bitm_abi.proofs.ClaimedLemmas.{claimed}
use Rattle.bitm_numbers_c.specs.Matrix.{IsSmallestIn}
use Rattle.bitm_numbers_c.proofs.matrix.matrix_ranges.bitm_matrix_quantile.Goals as goal

pub returns-in-Some : goal.returns-in-Some
returns-in-Some c =
    claimed (IsSmallestIn c.args.start c.args.end c.args.k) _ _ c.in-Some.ensures.1 _ c.in-Some.ensures.0 c.report.result c.args.out.now c.report.new.out _
    c.report.ensures (record { inside = c.quantile.ensures.inside; right = c.quantile.ensures.answer })

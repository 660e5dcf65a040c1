-- What is answered is reported.
use Rattle.bitm_abi.proofs.ClaimedLemmas.{claimed}
use Rattle.bitm_numbers_c.specs.Matrix.{IsCount}
use Rattle.bitm_numbers_c.proofs.matrix.matrix_ranges.bitm_matrix_count_less.Goals as goal

pub returns-in-Some : goal.returns-in-Some
returns-in-Some c =
    claimed (IsCount c.args.start c.args.end c.args.bound) _ _ c.in-Some.ensures.1 _ c.in-Some.ensures.0 c.report.result c.args.out.now c.report.new.out _
    c.report.ensures (record { inside = c.count_less.ensures.inside; right = c.count_less.ensures.answer })

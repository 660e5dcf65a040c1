-- What is answered is reported.
use Rattle.bitm_abi.proofs.ClaimedLemmas.{claimed}
use Rattle.bitm_keys_c.specs.Strings.{IsPieceOf}
use Rattle.bitm_keys_c.proofs.strings.queries.bitm_strings_get.Goals as goal

pub returns-in-Some : goal.returns-in-Some
returns-in-Some c =
    claimed (IsPieceOf c.args.number) _ _ c.in-Some.ensures.1 _ c.in-Some.ensures.0 c.report_both.result (c.args.begin.now, c.args.len.now)
    (c.report_both.new.first, c.report_both.new.second) _ c.report_both.ensures
    (record { piece = c.get.ensures.piece; right = c.get.ensures.right })

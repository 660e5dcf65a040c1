-- What is answered is reported.
use Rattle.std.proofs.Common.{length, slice_index}
use Rattle.bitm_abi.proofs.ClaimedLemmas.{claimed}
use Rattle.bitm_keys_c.specs.Strings.{IsNumberOfString}
use Rattle.bitm_keys_c.proofs.strings.queries.bitm_strings_find.Goals as goal

pub returns-in-Some : goal.returns-in-Some
returns-in-Some c =
    claimed (IsNumberOfString (slice_index c.args.string.now) (length c.args.string.now)) _ _ c.in-Some.ensures.1 _ c.in-Some.ensures.0 c.report.result c.args.out.now
    c.report.new.out _ c.report.ensures
    (record { held = c.find.ensures.held; right = c.find.ensures.found })

-- The half of its word is the hint.
use Rattle.std.proofs.Common.{◌/◌, slice_index, refl, arith}
use Rattle.bitm_selection.proofs.HintLemmas.{hint_is}
use Rattle.bitm_selection.proofs.hints.hint_at.Goals as goal

pub returns : goal.returns
returns c v b are = hint_is v b (c.args.at / 2) (slice_index c.args.hints.now (c.args.at / 2)) c.args.at (c.type_inv.hints (c.args.at / 2)).fits refl (are (c.args.at / 2) (omega (arith, c.requires)))

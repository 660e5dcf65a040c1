-- An index is no code.
use Rattle.std.proofs.Common.{subst, sym, arith}
use Rattle.bitm_abi.specs.Sequence.{IsPredecessor}
use Rattle.bitm_view.proofs.CodeLemmas.{selected_position}
use Rattle.bitm_abi.proofs.sequence_lists.last_code.Goals as goal

pub returns-in-Found : goal.returns-in-Found
returns-in-Found c =
    subst (IsPredecessor c.args.value c.args.parts.now) (sym (selected_position c.in-Found.index (omega (arith, c.in-Found.ensures.inside, c.len.ensures.len, c.len.ensures.short))))
    (record { inside = c.in-Found.ensures.inside; most = c.in-Found.ensures.claimed; counts = c.in-Found.ensures.answer })

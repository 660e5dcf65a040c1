-- A truth is no code.
use Rattle.std.proofs.Common.{rules}
use Rattle.bitm_abi.proofs.ListedLemmas.{contained_as}
use Rattle.bitm_abi.proofs.sequence_lists.contained_code.Goals as goal

pub returns-in-Some : goal.returns-in-Some
returns-in-Some c = contained_as c.args.value c.args.parts.now _ c.in-Some.is' (λ e. search rules) (λ e. search rules) c.in-Some.ensures.claimed c.in-Some.ensures.answer

-- The number at the first position that reaches the value is the least that does.
use Rattle.std.proofs.Common.{sym, ◌∙◌, arith}
use Rattle.std.proofs.lemmas.List.{get_or_default}
use Rattle.elias_fano.proofs.lemmas.SequenceLemmas.{reached-from}
use Rattle.example_callers.proofs.borrowed_sequence.least_from.Goals as goal

pub returns-clause-found : goal.returns-clause-found
returns-clause-found c = λ xs h.
    let position = c.in-Found.position in
    let first = c.in-Found.ensures.answer xs h in
    let number = c.in-Found-get.ensures.answer xs h in (
      (position, number.0, get_or_default xs position _ 0 number.0 ∙ sym number.1),
      omega (arith, first.at_least, number.1),
      λ k d inside reaches.
          let same = get_or_default xs k d 0 inside in
          let after = (reached-from xs c.args.v position k h.are.sequence.rising first inside).0 (omega (arith, same, reaches)) in
          omega (arith, same, number.1, h.are.sequence.rising position k 0 after inside),
    )

-- The items of the bit stand side by side.
use Rattle.std.proofs.Common.{◌∙◌, arith}
use Rattle.std.proofs.lemmas.Option.{same_Some}
use Rattle.levels_view.proofs.RangeLemmas.{next-range}
use Rattle.levels_view.proofs.levels.LevelsView.range_after.Goals as goal

pub returns-clause-answer : goal.returns-clause-answer
returns-clause-answer c = λ xs b last h order inside before size.
    let l = c.args.self.now in
    let start = same_Some _ _ (c.in_ok-next.ensures.answer xs b h before) in
    let to = next-range xs l b h c.args.depth c.args.first last order inside c.args.digit c.in_ok-next.next c.args.size start size in
    (start, same_Some _ _ (c.in_ok-after.ensures.answer (omega (arith, to.1, c.len.ensures.len))) ∙ to.0)

pub returns-in_err-after-clause-answer : goal.returns-in_err-after-clause-answer
returns-in_err-after-clause-answer c = λ xs b last h order inside before size.
    let l = c.args.self.now in
    let start = same_Some _ _ (c.in_ok-next.ensures.answer xs b h before) in
    let to = next-range xs l b h c.args.depth c.args.first last order inside c.args.digit c.in_ok-next.next c.args.size start size in
    let none = c.in_err-after.ensures.answer (omega (arith, to.1, c.len.ensures.len)) in
    cc none

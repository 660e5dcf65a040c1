-- What the block's number counts is compared with what is between its upper block and the quarter.
use Rattle.std.proofs.Common.{◌≡◌, ◌+◌, ◌-◌, ◌*◌, ◌/◌, ◌%◌, ◌^◌, ◌≤◌, ap, ◌∙◌, arith}
use Rattle.std.proofs.lemmas.Bool.{eqb-true, eq-eqb}
use Rattle.bit_lists.specs.Count.{ones_before}
use Rattle.bitm_tables.specs.Tables.{bits_in, Lists}
use Rattle.bitm_tables.proofs.lemmas.StretchLemmas.{ones_before-between}
use Rattle.levels_view.specs.Quarters.{CountsToQuarter}
use Rattle.levels_view.proofs.QuarterLemmas.{claims-quarter}
use Rattle.levels_view.proofs.quarters.counts_to.Goals as goal
use Rattle.levels_view.proofs.quarters.counts_to.Goals.{After-ones_to_quarter}

claimed : (g : _) (c : After-ones_to_quarter g)
    → (c.ones_up_to-part.result ≤ c.ones_up_to-before.result)
    × (c.ones_to_entry.result + c.ones_to_quarter.result ≡ c.ones_up_to-before.result - c.ones_up_to-part.result
    → CountsToQuarter (bits_in (g.T.TableSource.lists c.args.source.now)) c.args.quarter c.args.number)
    × (CountsToQuarter (bits_in (g.T.TableSource.lists c.args.source.now)) c.args.quarter c.args.number
    → c.ones_to_entry.result + c.ones_to_quarter.result ≡ c.ones_up_to-before.result - c.ones_up_to-part.result)
claimed g c =
    let b = bits_in (g.T.TableSource.lists c.args.source.now) in
    let k = c.args.quarter in
    let first : k * 128 - k * 128 % 2 ^ 32 ≡ k / 4 / 2 ^ 23 * 2 ^ 32 = omega arith in
    let position : k * 128 ≡ 128 * k = omega arith in
    let part : c.ones_up_to-part.result ≡ ones_before b (k / 4 / 2 ^ 23 * 2 ^ 32) =
    omega (arith, c.ones_up_to-part.ensures.ones, ap (ones_before b) first) in
    let before : c.ones_up_to-before.result ≡ ones_before b (128 * k) =
    c.ones_up_to-before.ensures.ones ∙ ap (λ (s : Lists). ones_before (bits_in s) (k * 128)) c.ones_up_to-part.ensures.same ∙ ap (ones_before b) position in
    let order : c.ones_up_to-part.result ≤ c.ones_up_to-before.result =
    omega (arith, part, before, ones_before-between b (k / 4 / 2 ^ 23 * 2 ^ 32) (128 * k) (omega arith)) in
    let both =
    claims-quarter b k c.args.number c.ones_up_to-part.result c.ones_up_to-before.result c.ones_to_entry.result c.ones_to_quarter.result part before
    c.ones_to_entry.ensures c.ones_to_quarter.ensures order in
    (order, both.0, both.1)

pub overflow_sub-result : goal.overflow_sub-result
overflow_sub-result g c = (claimed g (goal.at.overflow_sub-result g c).After-ones_to_quarter).0

pub returns-clause-answer : goal.returns-clause-answer
returns-clause-answer g c =
    let all = claimed g (goal.at.returns-clause-answer g c).After-ones_to_quarter in
    (λ yes. all.1 (eqb-true _ _ yes), λ h. eq-eqb _ _ (all.2 h))

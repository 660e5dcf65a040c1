-- The bits before an index are ones and zeros, so no more than the index says are ones.
use Rattle.std.proofs.Common.{Bool, true, false, sym, subst, arith}
use Rattle.bit_lists.proofs.lemmas.CountLemmas.{ones_before-add-zeros_before}
use Rattle.bit_lists.specs.Count.{as_bit}
use Rattle.bitm_select.specs.Answers.{IsRankCode}
use Rattle.bitm_tables.specs.Tables.{bits_in}
use Rattle.bitm_select.proofs.lemmas.MarkLemmas.{as_bit_other}
use Rattle.bitm_select.proofs.lemmas.SideLemmas.{rank_claimed, wrong_claimed}
use Rattle.bitm_select.proofs.many.ranks.rank_code.Goals as goal

pub returns-then-this-eq0 : goal.returns-then-this-eq0
returns-then-this-eq0 g c = λ lists short inside is.
    rw c.if-this-eq0.true
    (rank_claimed false lists c.args.index short _ inside (omega (arith, c.in-Some.ensures))
    (λ t. omega (arith, is t, c.in-Some.ensures, ones_before-add-zeros_before (bits_in lists) c.args.index inside)))

pub returns-else-this-eq0 : goal.returns-else-this-eq0
returns-else-this-eq0 g c = λ lists short inside is.
    subst (λ (v : Bool). IsRankCode v lists c.args.index c.args.ones) (sym (as_bit_other g.row.BIT c.if-this-eq0.false))
    (rank_claimed true lists c.args.index short _ inside (omega (arith, c.in-Some.ensures)) is)

pub returns-in-None : goal.returns-in-None
returns-in-None g c = λ lists short inside is.
    wrong_claimed (as_bit g.row.BIT) lists c.args.index short inside
    (λ t. omega (arith, is t, c.in-None.ensures, ones_before-add-zeros_before (bits_in lists) c.args.index inside))

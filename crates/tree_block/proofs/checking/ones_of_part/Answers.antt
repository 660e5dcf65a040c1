-- A digit more is a one, or a zero that the test let through.
use Rattle.std.proofs.Common.{arith}
use Rattle.bit_lists.proofs.lemmas.CountLemmas.{count_ones_more}
use Rattle.tree_block.proofs.LeadLemmas.{keeps_one_more}
use Rattle.tree_block.proofs.checking.ones_of_part.Goals as goal
use Rattle.tree_block.proofs.checking.ones_of_part.Goals.{then-word-j-eq1, else-word-j-eq1+else-j-lead}

pub loop-j-preserved : goal.loop-j-preserved
loop-j-preserved c =
    let v = c.args.word in
    let j = c.loop-j.j in
    let kept = c.loop-j.invariant.kept in
    let more = count_ones_more v j in
    elim c.if-word-j-eq1.branch [
      | then-word-j-eq1 w ↦ record {
        kept = keeps_one_more v j c.args.lead kept (λ none. absurd (omega (arith, none, w.if-word-j-eq1.true)));
        ones = omega (arith, more, c.loop-j.invariant.ones, w.ones-is, w.if-word-j-eq1.true);
        few = omega (arith, c.loop-j.invariant.few, w.ones-is);
      }
      | else-word-j-eq1+else-j-lead w ↦ record {
        kept = keeps_one_more v j c.args.lead kept (λ none. omega (arith, w.if-j-lead.false, c.loop-j.invariant.ones));
        ones = omega (arith, more, c.loop-j.invariant.ones, w.ones-is, w.if-word-j-eq1.false);
        few = omega (arith, c.loop-j.invariant.few, w.ones-is);
      }
    ]

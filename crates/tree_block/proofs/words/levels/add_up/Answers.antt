-- One more number is a sum.
use Rattle.std.proofs.Common.{arith}
use Rattle.tree_block.proofs.CountLemmas.{summed_begin, summed_fits, summed_more}
use Rattle.tree_block.proofs.words.levels.add_up.Goals as goal

pub loop-k-init : goal.loop-k-init
loop-k-init c = summed_begin c.args.numbers.now

pub overflow_add-total : goal.overflow_add-total
overflow_add-total c =
    omega (
      arith,
      summed_fits c.args.numbers.now c.loop-k.numbers c.loop-k.total c.loop-k.k c.loop-k.invariant c.loop-k-test.true,
      c.requires,
    )

pub loop-k-preserved : goal.loop-k-preserved
loop-k-preserved c = summed_more c.args.numbers.now c.loop-k.numbers c.loop-k.total c.loop-k.k c.loop-k.invariant c.loop-k-test.true

-- Each rank below the number of ones picks a position.
use Rattle.std.proofs.Common.{arith}
use Rattle.bitm.proofs.Callers.{rank_in_word}
use Rattle.test_original.proofs.word.positions.Goals as goal

pub select64-requires : goal.select64-requires
select64-requires c = rank_in_word c.args.n c.loop-rank.rank (omega arith) (omega arith)

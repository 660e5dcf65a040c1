-- The ones before the vector and those before the position in it are those before that position of all.
use Rattle.std.proofs.Common.{true, arith}
use Rattle.bitm.proofs.BitLaws.{count_in_stretch}
use Rattle.example_callers.proofs.stretches.rank_in.Goals as goal

pub overflow_sub-result : goal.overflow_sub-result
overflow_sub-result g c =
    omega (arith, count_in_stretch _ true _ _ _ c.requires.inside c.requires.position, c.rank_pair-before.ensures.from, c.rank_pair-before.ensures.to)

pub returns : goal.returns
returns g c =
    omega (arith, count_in_stretch _ true _ _ _ c.requires.inside c.requires.position, c.rank_pair-before.ensures.from, c.rank_pair-before.ensures.to)

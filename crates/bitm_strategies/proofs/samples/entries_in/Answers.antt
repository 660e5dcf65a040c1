-- The part begins before the table ends.
use Rattle.std.proofs.Common.{arith}
use Rattle.bitm_strategies.proofs.lemmas.MadeLemmas.{sized_first}
use Rattle.bitm_strategies.proofs.samples.entries_in.Goals as goal

pub entries_of_part-requires : goal.entries_of_part-requires
entries_of_part-requires c =
    omega (arith, sized_first _ _ _ c.args.part c.requires.sized.upper_len c.requires.sized.lower_len c.requires.inside)

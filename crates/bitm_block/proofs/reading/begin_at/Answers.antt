-- The section ends where the next one begins, or before.
use Rattle.std.proofs.Common.{◌+◌}
use Rattle.bitm_block.proofs.HeaderLemmas.{begin_next, inside}
use Rattle.bitm_block.proofs.reading.begin_at.Goals as goal

pub returns-clause-next : goal.returns-clause-next
returns-clause-next c = begin_next c.args.block.now c.args.i c.requires.inside

pub returns-clause-within : goal.returns-clause-within
returns-clause-within c = inside c.args.block.now c.requires.block.directory (c.args.i + 1)

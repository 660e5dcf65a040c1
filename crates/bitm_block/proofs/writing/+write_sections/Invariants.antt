use Rattle.std.proofs.Common.{length}
use Rattle.bitm_block.proofs.writing.+write_sections.Given as goal

-- each step takes the first section away
abbrev pub decreases-write_sections : goal.decreases-write_sections
decreases-write_sections l = length l.sections.now

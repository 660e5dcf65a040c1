use Rattle.std.proofs.Common.{refl}
use Rattle.program_files.proofs.blocks.old.old_head.Goals as goal

pub returns : goal.returns
returns c = (c.is_old.ensures.0 c.if-not-is_old.false, rw (c.kind_of.ensures, c.in_ok-header.ensures.header.1) refl)

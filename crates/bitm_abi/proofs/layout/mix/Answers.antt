-- The checksum is opaque elsewhere: its laws are not needed.
use Rattle.std.proofs.Common.{refl}
use Rattle.bitm_abi.specs.Stored.{mixed}
use Rattle.bitm_abi.proofs.layout.mix.Goals as goal

pub returns : goal.returns
unfolding mixed
returns c = refl

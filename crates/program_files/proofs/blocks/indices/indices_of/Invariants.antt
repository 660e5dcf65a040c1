use Rattle.std.proofs.Common.{◌≡◌, take}
use Rattle.program_files.proofs.blocks.indices.indices_of.Given as goal

abbrev pub invariant-loop-number : goal.invariant-loop-number
invariant-loop-number l = l.indices.items ≡ take l.number-index l.numbers

use Rattle.std.proofs.Common.{◌≡◌, take}
use Rattle.bitm_block.specs.Header.{sections_in}
use Rattle.block_sections.proofs.placing.list_sections.Given as goal

-- the sections so far
abbrev pub invariant-loop-i : goal.invariant-loop-i
invariant-loop-i l = take l.i l.list ≡ take l.i (sections_in l.block)

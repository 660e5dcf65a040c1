use Rattle.std.specs.Prelude.{◌≡◌, ◌<◌, ℕ, slice_index}
use Rattle.bitm_block.specs.Header.{section_entry}
use Rattle.bitm_block.proofs.reading.Block.is_of.Given as goal

-- the sections so far have their roles
abbrev pub invariant-loop-i : goal.invariant-loop-i
invariant-loop-i l = (k : ℕ) → k < l.i → (section_entry l.words k).role ≡ slice_index l.roles k

use Rattle.std.proofs.Common.{◌≤◌, All, take}
use Rattle.program_files.specs.Lines.{bytes_in, AreFoundOf}
use Rattle.text_block.specs.Block.{HoldsIndex, bytes_of_parts}
use Rattle.program_files.proofs.texts.all_positions.located_all.Given as goal

abbrev pub invariant-loop-pattern : goal.invariant-loop-pattern
invariant-loop-pattern l =
    (HoldsIndex l.text → AreFoundOf (bytes_in (take l.pattern-index l.patterns)) (bytes_of_parts l.text) l.all.items)
    × All (λ position. position ≤ l.text.tables.letters.len) l.all.items

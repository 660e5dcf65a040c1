use Rattle.std.proofs.Common.{◌≡◌, ◌+◌, ◌≤◌, All, length, map, take}
use Rattle.program_files.specs.Lines.{bytes_in}
use Rattle.text_block.specs.Block.{HoldsIndex, bytes_of_parts}
use Rattle.text_index.specs.Text.{occurrences}
use Rattle.program_files.proofs.texts.all_positions.counts.Given as goal

abbrev pub invariant-loop-pattern : goal.invariant-loop-pattern
invariant-loop-pattern l =
    (HoldsIndex l.text → l.made.items ≡ map (occurrences (bytes_of_parts l.text)) (bytes_in (take l.pattern-index l.patterns)))
    × (length l.made.items ≡ l.pattern-index)
    × All (λ count. count ≤ l.text.tables.letters.len + 1) l.made.items

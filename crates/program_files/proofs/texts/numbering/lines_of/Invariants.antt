use Rattle.std.proofs.Common.{take}
use Rattle.program_files.proofs.lemmas.NumberingLemmas.{Numbered}
use Rattle.program_files.proofs.texts.numbering.lines_of.Given as goal

abbrev pub invariant-loop-position : goal.invariant-loop-position
invariant-loop-position l = Numbered (take l.position-index l.all_positions) l.ends l.len l.last l.lines.items

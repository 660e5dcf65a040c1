use Rattle.std.proofs.Common.{◌∙◌, subst, sym}
use Rattle.std.proofs.lemmas.Map.Keys.{non_decreasing_from_sorted, sorted_from_strictly_increasing}
use Rattle.std.specs.List.Sorted.{IsNonDecreasing}
use Rattle.text_block.specs.Block.{bytes_of_parts}
use Rattle.program_files.specs.Lines.{bytes_in}
use Rattle.program_files.proofs.lemmas.FileLemmas.{text-long}
use Rattle.program_files.proofs.lemmas.LineLemmas.{lines-found}
use Rattle.program_files.proofs.texts.numbering.lines_with.Goals as goal

pub lines_of-requires-clause-all_positions : goal.lines_of-requires-clause-all_positions
lines_of-requires-clause-all_positions c = subst IsNonDecreasing (sym c.as_slice-2.ensures.value)
    (non_decreasing_from_sorted _ (sorted_from_strictly_increasing _ c.in_ok-all_positions.ensures.rising))

pub returns-clause-answer : goal.returns-clause-answer
returns-clause-answer c = λ h.
    let parts = c.args.text.now in
    lines-found (bytes_in c.args.patterns.now) (bytes_of_parts parts) c.in_ok-all_positions.all_positions.items c.in_ok-ends.ends.items
    c.in_ok-lines_of.field-0.items c.len.result (c.len.ensures ∙ text-long parts h) (rw c.as_slice.ensures at (c.in_ok-ends.ensures.answer h))
    (c.in_ok-all_positions.ensures.answer h) (rw (c.as_slice-2.ensures.value, c.as_slice-3.ensures.value) at c.in_ok-lines_of.ensures)

use Rattle.std.proofs.Common.{inl}
use Rattle.program_files.proofs.lemmas.OldLemmas.{neither, no_sequence, sequence_kept, wrote_old_bits}
use Rattle.program_files.proofs.blocks.answering.answer_old.Goals as goal

pub returns-in_ok-answer_lines-in-Some-clause-answers : goal.returns-in_ok-answer_lines-in-Some-clause-answers
returns-in_ok-answer_lines-in-Some-clause-answers g c =
    inl (wrote_old_bits _ _ _ _ _ _ _ c.in-Some.ensures.opened.0 c.in-Some.ensures.opened.1 c.in_ok-answer_lines-in-Some.ensures)

pub returns-in-None-clause-answers : goal.returns-in-None-clause-answers
returns-in-None-clause-answers g c = sequence_kept _ _ _ _ _ _ _ c.open_old_sequence.ensures.opened c.answer_opened.ensures.answers

pub returns-in-None-clause-wrong : goal.returns-in-None-clause-wrong
returns-in-None-clause-wrong g c =
    λ is old. neither _ c.in-None.ensures.opened (no_sequence _ _ c.open_old_sequence.ensures.opened (c.answer_opened.ensures.wrong is)) old

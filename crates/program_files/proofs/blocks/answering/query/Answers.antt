-- Which files are refused: each that is right has the format that it says.
use Rattle.std.proofs.Common.{Ok, ap, sym, ◌∙◌}
use Rattle.program_files.specs.Old.{IsOldFile}
use Rattle.program_files.specs.Sound.{IsFileOfSoundNumbers}
use Rattle.program_files.proofs.lemmas.RefusalLemmas.{not_sound, old_refused, refused}
use Rattle.program_files.proofs.blocks.answering.query.Goals as goal

pub returns-in-Ok-Old-clause-wrong : goal.returns-in-Ok-Old-clause-wrong
returns-in-Ok-Old-clause-wrong g c =
    let bytes = c.args.block.now in
    let old = sym c.format_in.ensures ∙ c.in-Ok-Old.is ∙ ap Ok c.in-Ok-Old.field-0-is in
    old_refused (IsFileOfSoundNumbers bytes) (IsOldFile bytes) c.query_old.result (not_sound bytes old) c.query_old.ensures.failure
    c.query_old.ensures.wrong

pub returns-in-Err-clause-wrong : goal.returns-in-Err-clause-wrong
returns-in-Err-clause-wrong g c = λ refusal. refused c.args.block.now c.in-Err.failure (sym c.format_in.ensures ∙ c.in-Err.is)

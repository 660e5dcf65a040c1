-- Which files are refused: each that is right has the format that it says.
use Rattle.std.proofs.Common.{sym, ◌∙◌}
use Rattle.program_files.proofs.lemmas.KindsFormatLemmas.{refused}
use Rattle.program_files.proofs.kinds.describing.info.Goals as goal

pub returns-in-Err-clause-wrong : goal.returns-in-Err-clause-wrong
returns-in-Err-clause-wrong g c = λ refusal. refused c.args.block.now c.in-Err.failure (sym c.format_in.ensures ∙ c.in-Err.is)

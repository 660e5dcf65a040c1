use Rattle.std.proofs.Common.{length}
use Rattle.program_files.proofs.texts.command.+ask_with.Given as goal

abbrev pub decreases-ask_with : goal.decreases-ask_with
decreases-ask_with l = length l.args.now

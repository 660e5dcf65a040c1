use Rattle.std.proofs.Common.{◌≡◌, ◌↔◌, true, length}
use Rattle.elias_fano_view.proofs.RiseLemmas.{AreMet}
use Rattle.elias_fano_view.proofs.rising.rise_in_word.Given as goal

-- neighbours rise so far exactly where they do at each bit that was met
abbrev pub invariant-loop-position : goal.invariant-loop-position
invariant-loop-position l = (l.rise ≡ true) ↔ AreMet l.gap l.width l.low l.words l.k l.after (length l.yielded)

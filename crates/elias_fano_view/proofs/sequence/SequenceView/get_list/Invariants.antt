use Rattle.std.proofs.Common.{◌≡◌, ◌+◌, ◌*◌, ◌/◌, ◌<◌, ◌≤◌, ℕ, List, length, slice_index}
use Rattle.elias_fano.specs.SequenceParts.{Holds}
use Rattle.elias_fano_view.specs.Lists.{AreAhead, AreItems}
use Rattle.elias_fano_view.proofs.sequence.SequenceView.get_list.Given as goal

-- the numbers so far, the ones that were selected ahead, and what stands behind the numbers as it was
abbrev pub invariant-loop-at : goal.invariant-loop-at
invariant-loop-at l = record {
  room : length l.ones ≡ 16;
  ahead : AreAhead l.self.upper l.indices l.at ((l.at + 15) / 16 * 16) l.ones;
  inside : (j : ℕ) → j < l.at → slice_index l.indices j < l.self.len;
  items : (xs : List ℕ) → Holds xs l.self → AreItems xs l.indices l.at l.out;
  kept : (j : ℕ) → l.at ≤ j → slice_index l.out j ≡ slice_index l.initial.out j;
}

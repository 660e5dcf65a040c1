use Rattle.std.proofs.Common.{◌≡◌, ◌+◌, ◌*◌, ◌/◌, ◌<◌, ℕ, length, slice_index}
use Rattle.elias_fano_view.specs.Lists.{AreZerosAhead, IsIndexCode}
use Rattle.elias_fano_view.proofs.sequence.SequenceView.first_at_least_list.Given as goal

-- the positions so far, and the zeros that were selected ahead
abbrev pub invariant-loop-at : goal.invariant-loop-at
invariant-loop-at l = record {
  begins_room : length l.begins ≡ 16;
  ends_room : length l.ends ≡ 16;
  begins : AreZerosAhead l.self 1 l.values l.at ((l.at + 15) / 16 * 16) l.begins;
  ends : 0 < l.self.width → AreZerosAhead l.self 0 l.values l.at ((l.at + 15) / 16 * 16) l.ends;
  claimed : (j : ℕ) → j < l.at → IsIndexCode l.self (slice_index l.values j) (slice_index l.out j);
}

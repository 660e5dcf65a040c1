use Rattle.std.proofs.Common.{ℕ, ◌≡◌, ◌+◌, ◌<◌, ◌≤◌, slice_index}
use Rattle.bit_lists.specs.Count.{count_before, Picks}
use Rattle.bit_words.specs.First.{first_bits}
use Rattle.bit_words.proofs.slices.positions.positions_in.Given as goal

-- the positions so far, and as many of the kind before the next search
abbrev pub invariant-loop-at : goal.invariant-loop-at
invariant-loop-at l =
    let b = first_bits l.words l.len in
    record {
      counted : count_before b l.one l.next ≡ count_before b l.one l.from + l.at;
      positions : (j : ℕ) → j < l.at → Picks b l.one (count_before b l.one l.from + j) (slice_index l.out j);
      unchanged : (j : ℕ) → l.at ≤ j → slice_index l.out j ≡ slice_index l.fn.out j;
    }

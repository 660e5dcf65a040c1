use Rattle.std.proofs.Common.{◌≡◌, ◌<◌, ◌≤◌, ◌+◌, List, ℕ, length, get_or}
use Rattle.bit_lists.specs.Bits.{digit_count}
use Rattle.sparse_bits.specs.Positions.{ArePositionsHeld}
use Rattle.sparse_bits.proofs.counted.Ones.ones_within.Given as goal

-- the 1 bits before index low have few enough 0 bits before them, those from low + left on have more
abbrev pub invariant-loop-left : goal.invariant-loop-left
invariant-loop-left g l = record {
  positions : l.self.positions ≡ l.fn.self.positions;
  len : l.self.len ≡ l.fn.self.len;
  to : l.low + l.left ≤ g.P.Items.len l.fn.self.positions;
  few : (xs : List ℕ) → ArePositionsHeld xs (g.P.Items.holds xs l.fn.self.positions) l.fn.self.len → (j : ℕ) → j < l.low → get_or xs j 0 ≤ l.rank + j;
  more : (xs : List ℕ) → ArePositionsHeld xs (g.P.Items.holds xs l.fn.self.positions) l.fn.self.len → (j : ℕ) → l.low + l.left ≤ j → j < length xs → l.rank + j < get_or xs j 0;
  searches : l.self.searches ≡ l.fn.self.searches;
  gets : l.self.gets + digit_count l.left ≤ l.fn.self.gets + digit_count (g.P.Items.len l.fn.self.positions);
}

abbrev pub decreases-loop-left : goal.decreases-loop-left
decreases-loop-left g l = l.left

use Rattle.std.proofs.Common.{◌≡◌, ℕ, ◌+◌, ◌<◌, ◌≤◌, length, take}
use Rattle.std.specs.List.{sum}
use Rattle.louds.proofs.checking.misfit.Given as goal

-- the root and the children so far are known, and each node so far is one of them
abbrev pub invariant-loop-i : goal.invariant-loop-i
invariant-loop-i l = record {
  known : l.known ≡ 1 + sum (take l.i l.degrees);
  bound : 0 < length l.degrees → l.known ≤ length l.degrees;
  parents : (v : ℕ) → v < l.i → v ≤ sum (take v l.degrees);
  few : (v : ℕ) → v < l.i → sum (take (v + 1) l.degrees) < length l.degrees;
}

-- A cursor that moves from one position of a list to a later one.
use Rattle.std.proofs.Common.{◌≡◌, ℕ, ◌+◌, ◌-◌, ◌<◌, ◌≤◌, List, length, get_or, drop, Some, None, sym, ap, ◌∙◌, arith, length-drop}
use Rattle.std.proofs.lemmas.List.{get_or-drop, drop-drop, drop_all}
use Rattle.std.specs.List.Sorted.{IsNonDecreasing}
use Rattle.postings.specs.Next.{IsNextAtLeast}

module _ (xs : List ℕ) (at to v : ℕ) (rising : IsNonDecreasing xs) (from : at ≤ to)
    (less : (j : ℕ) → at ≤ j → j < to → get_or xs j 0 < v) where
  rest : drop to xs ≡ drop (to - at) (drop at xs)
  rest = let e : at + (to - at) ≡ to = omega arith in sym (drop-drop (to - at) at xs ∙ ap (λ (k : ℕ). drop k xs) e)

  before : (j : ℕ) → j < to - at → get_or (drop at xs) j 0 < v
  before j l = omega (arith, less (at + j) (omega arith) (omega arith), get_or-drop at xs j 0)

  pub moved_some : to < length xs → v ≤ get_or xs to 0 → IsNextAtLeast (drop at xs) v (Some (get_or xs to 0)) (drop to xs)
  moved_some inside reached = record {
    passed = to - at;
    rest = rest;
    bound = omega (arith, length-drop at xs);
    less = before;
    answer = record {
      some = omega (arith, length-drop to xs);
      is = sym (get_or-drop to xs 0 0 ∙ ap (λ (k : ℕ). get_or xs k 0) (let e : to + 0 ≡ to = omega arith in e));
      at_least = reached;
      least = λ j l. omega (arith, get_or-drop to xs j 0, rising to (to + j) 0 (omega arith) (omega (arith, l, length-drop to xs)));
    };
  }

  pub moved_none : to ≡ length xs → IsNextAtLeast (drop at xs) v None (drop to xs)
  moved_none all = record {
    passed = to - at;
    rest = rest;
    bound = omega (arith, length-drop at xs);
    less = before;
    answer = drop_all to xs (omega arith);
  }

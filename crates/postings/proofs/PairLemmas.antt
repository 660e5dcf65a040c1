-- The union of two lists, each from a position on.
use Rattle.std.proofs.Common.{◌≡◌, ℕ, ◌+◌, ◌-◌, ◌^◌, ◌<◌, ◌≤◌, ◌⊎◌, List, length, get_or, set, drop, zero, suc, refl, sym, ap, ◌∙◌, subst, arith, ⊎_elim, length-drop}
use Rattle.std.proofs.lemmas.Bool.{cases_lt}
use Rattle.std.proofs.lemmas.List.{get_or-drop}
use Rattle.std.specs.List.Sorted.{IsNonDecreasing}
use Rattle.postings.specs.Shared.{list_at, IsNumberIn, KeepsFrom}
use Rattle.postings.specs.Joined.{AreJoined, IsInSome, IsJoining, IsLeastOf}
use Rattle.postings.specs.Pair.{pair_from, IsBlockOf}
use Rattle.postings.proofs.JoiningLemmas.{joined_ended, joined_none, turn_joined}
use Rattle.postings.proofs.SharingLemmas.{keeps_all, keeps_through}

-- ---- one list

-- a number from a position on stands there from an earlier position on
one_back : (xs : List ℕ) (p r x : ℕ) → p ≤ r → IsNumberIn (drop r xs) x → IsNumberIn (drop p xs) x
one_back xs p r x order c =
    let e : p + (r - p + c.0) ≡ r + c.0 = omega arith in (
      r - p + c.0,
      omega (arith, c.1, length-drop r xs, length-drop p xs),
      get_or-drop p xs (r - p + c.0) 0 ∙ (ap (λ (k : ℕ). get_or xs k 0) e ∙ (sym (get_or-drop r xs c.0 0) ∙ c.2)),
    )

-- and from a later position on, where those in between are less
one_kept : (xs : List ℕ) (p r v x : ℕ) → p ≤ r → ((k : ℕ) → p ≤ k → k < r → get_or xs k 0 < v) → v ≤ x
    → IsNumberIn (drop p xs) x → IsNumberIn (drop r xs) x
one_kept xs p r v x order less most c =
    let is : get_or xs (p + c.0) 0 ≡ x = sym (get_or-drop p xs c.0 0) ∙ c.2 in
    ⊎_elim
    (λ (before : p + c.0 < r). absurd (omega (arith, less (p + c.0) (omega arith) before, is, most)))
    (λ (past : r ≤ p + c.0).
    let e : r + (p + c.0 - r) ≡ p + c.0 = omega arith in (
      p + c.0 - r,
      omega (arith, c.1, length-drop r xs, length-drop p xs, past),
      get_or-drop r xs (p + c.0 - r) 0 ∙ (ap (λ (k : ℕ). get_or xs k 0) e ∙ is),
    ))
    (cases_lt (p + c.0) r)

-- h is the number at a position, or the greatest of 64 bits past the end
pub record IsHeadAt (xs : List ℕ) (p h : ℕ) : Type 0 where
  pub there : p < length xs → h ≡ get_or xs p 0
  pub none : length xs ≤ p → h ≡ 2 ^ 64 - 1

-- the number at a position of a block, which is at its end only where the list is
pub head_of_block : (xs block : List ℕ) (i n at h : ℕ) (Ends : Type 0) → IsBlockOf xs i n block → (Ends → length xs ≡ i + n) → (at < n) ⊎ Ends
    → (at < n → h ≡ get_or block at 0) → (n ≤ at → h ≡ 2 ^ 64 - 1) → IsHeadAt xs (i + at) h
head_of_block xs block i n at h Ends is end goes here none = record {
  there = λ l. ⊎_elim
      (λ (inside : at < n). here inside ∙ is.items at inside)
      (λ (past : n ≤ at). absurd (⊎_elim (λ (inside : at < n). let none : ⊥ = omega (arith, inside, past) in none) (λ (e : Ends). let none : ⊥ = omega (arith, end e, l, past) in none) goes))
      (cases_lt at n);
  none = λ l. none (omega (arith, l, is.within));
}

-- the same block under other names
pub same_block : (xs block other : List ℕ) (from n m : ℕ) → m ≡ n → other ≡ block → IsBlockOf xs from n block → IsBlockOf xs from m other
same_block xs block other from n m e is block_is =
    subst (λ (k : ℕ). IsBlockOf xs from k other) (sym e) (subst (λ (l : List ℕ). IsBlockOf xs from n l) (sym is) block_is)

module _ (xs : List ℕ) (p h : ℕ) (head : IsHeadAt xs p h) where
  -- it is no more than each from there on
  pub head_least : IsNonDecreasing xs → (y : ℕ) → IsNumberIn (drop p xs) y → h ≤ y
  head_least rising y c =
      let inside : p + c.0 < length xs = omega (arith, c.1, length-drop p xs) in
      omega (arith, head.there (omega (arith, inside)), rising p (p + c.0) 0 (omega arith) inside, get_or-drop p xs c.0 0, c.2)

  -- and one of these where it is not the greatest
  head_inside : h < 2 ^ 64 - 1 → p < length xs
  head_inside less = ⊎_elim (λ (l : p < length xs). l) (λ (past : length xs ≤ p). absurd (omega (arith, head.none past, less))) (cases_lt p (length xs))

  pub head_in : p < length xs → IsNumberIn (drop p xs) h
  head_in inside =
      let e : p + 0 ≡ p = omega arith in
      (0, omega (arith, inside, length-drop p xs), get_or-drop p xs 0 0 ∙ (ap (λ (k : ℕ). get_or xs k 0) e ∙ sym (head.there inside)))

-- the position is passed where the number there is no more than the least
pub head_passed : (xs : List ℕ) (i at to h least v : ℕ) → IsHeadAt xs (i + at) h → least < 2 ^ 64 - 1 → least < v → (h ≤ least → to ≡ at + 1) → (least < h → to ≡ at)
    → (i + at ≤ i + to) × ((k : ℕ) → i + at ≤ k → k < i + to → get_or xs k 0 < v)
head_passed xs i at to h least v head some below past same = ⊎_elim
    (λ (more : least < h). (omega (arith, same more), λ k from l. absurd (omega (arith, same more, from, l))))
    (λ (most : h ≤ least).
    let inside : i + at < length xs = head_inside xs (i + at) h head (omega (arith, most, some)) in (
      omega (arith, past most),
      λ k from l.
          let e : k ≡ i + at = omega (arith, past most, from, l) in
          omega (arith, ap (λ (m : ℕ). get_or xs m 0) e, head.there inside, most, below),
    ))
    (cases_lt least h)

-- and does not leave the block
pub passed_within : (n at to h least : ℕ) → at ≤ n → least < 2 ^ 64 - 1 → (n ≤ at → h ≡ 2 ^ 64 - 1) → (h ≤ least → to ≡ at + 1) → (least < h → to ≡ at) → to ≤ n
passed_within n at to h least order some none past same = ⊎_elim
    (λ (more : least < h). omega (arith, same more))
    (λ (most : h ≤ least). ⊎_elim
    (λ (inside : at < n). let le : to ≤ n = omega (arith, past most, inside) in le)
    (λ (end : n ≤ at). absurd (omega (arith, none end, most, some)))
    (cases_lt at n))
    (cases_lt least h)

-- ---- two lists

module _ (xs ys : List ℕ) (p r q s v : ℕ) (one : p ≤ r) (one_less : (k : ℕ) → p ≤ k → k < r → get_or xs k 0 < v)
    (other : q ≤ s) (other_less : (k : ℕ) → q ≤ k → k < s → get_or ys k 0 < v) where
  pair_back : (i x : ℕ) → IsNumberIn (list_at (pair_from xs r ys s) i) x → IsNumberIn (list_at (pair_from xs p ys q) i) x
  pair_back zero x c = one_back xs p r x one c
  pair_back (suc zero) x c = one_back ys q s x other c
  pair_back (suc (suc i)) x c = c

  pair_kept : (i x : ℕ) → v ≤ x → IsNumberIn (list_at (pair_from xs p ys q) i) x → IsNumberIn (list_at (pair_from xs r ys s) i) x
  pair_kept zero x most c = one_kept xs p r v x one one_less most c
  pair_kept (suc zero) x most c = one_kept ys q s v x other other_less most c
  pair_kept (suc (suc i)) x most c = c

  -- both moved on over lesser numbers
  pub pair_keeps : KeepsFrom (pair_from xs p ys q) (pair_from xs r ys s) v
  pair_keeps = record { count = refl; back = pair_back; kept = pair_kept }

module _ (xs ys : List ℕ) (p q a b : ℕ) (one_rising : IsNonDecreasing xs) (other_rising : IsNonDecreasing ys)
    (one : IsHeadAt xs p a) (other : IsHeadAt ys q b) where
  all_more : (x : ℕ) → x ≤ a → x ≤ b → (i y : ℕ) → i < 2 → IsNumberIn (list_at (pair_from xs p ys q) i) y → x ≤ y
  all_more x l m zero y inside c = omega (arith, l, head_least xs p a one one_rising y c)
  all_more x l m (suc zero) y inside c = omega (arith, m, head_least ys q b other other_rising y c)
  all_more x l m (suc (suc i)) y inside c = absurd (omega (arith, inside))

  least_in : (low x : ℕ) → x ≤ a → x ≤ b → IsInSome (pair_from xs p ys q) x → low ≤ x → IsLeastOf (pair_from xs p ys q) 2 low x
  least_in low x l m there from = record {
    from = from;
    there = there;
    least = λ y more c. all_more x l m c.0 y c.1 c.2;
  }

  -- the lesser of both heads is the least number
  pub pair_least : (low x : ℕ) → x ≤ a → x ≤ b → (x ≡ a) ⊎ (x ≡ b) → x < 2 ^ 64 - 1 → low ≤ x → IsLeastOf (pair_from xs p ys q) 2 low x
  pair_least low x l m which some from =
      least_in low x l m
      (⊎_elim
      (λ (e : x ≡ a). (0, omega arith, subst (IsNumberIn (drop p xs)) (sym e) (head_in xs p a one (head_inside xs p a one (omega (arith, e, some))))))
      (λ (e : x ≡ b). (1, omega arith, subst (IsNumberIn (drop q ys)) (sym e) (head_in ys q b other (head_inside ys q b other (omega (arith, e, some))))))
      which)
      from

  -- also where both are the greatest of 64 bits
  pub pair_greatest : (low : ℕ) → a ≡ 2 ^ 64 - 1 → b ≡ 2 ^ 64 - 1 → (p < length xs) ⊎ (q < length ys) → low ≤ 2 ^ 64 - 1
      → IsLeastOf (pair_from xs p ys q) 2 low (2 ^ 64 - 1)
  pair_greatest low e f which from =
      least_in low (2 ^ 64 - 1) (omega (arith, e)) (omega (arith, f))
      (⊎_elim
      (λ (l : p < length xs). (0, omega arith, subst (IsNumberIn (drop p xs)) e (head_in xs p a one l)))
      (λ (l : q < length ys). (1, omega arith, subst (IsNumberIn (drop q ys)) f (head_in ys q b other l)))
      which)
      from

-- the same positions under other names
pub pair_at : (old : List (List ℕ)) (xs ys : List ℕ) (p r q s from n low : ℕ) (out : List ℕ) → p ≡ r → q ≡ s
    → IsJoining old from n out (pair_from xs p ys q) low → IsJoining old from n out (pair_from xs r ys s) low
pair_at old xs ys p r q s from n low out e f was =
    subst (λ (k : ℕ). IsJoining old from n out (pair_from xs k ys s) low) e (subst (λ (k : ℕ). IsJoining old from n out (pair_from xs p ys k) low) f was)

-- lists that moved on over lesser numbers
pub joining_passed : (old now next : List (List ℕ)) (from n low : ℕ) (out : List ℕ) → IsJoining old from n out now low → KeepsFrom now next low
    → IsJoining old from n out next low
joining_passed old now next from n low out was moved = record {
  order = was.order;
  keeps = keeps_through old now next low was.keeps moved;
  rising = was.rising;
  from_there = was.from_there;
  below = was.below;
  in_some = was.in_some;
  found = was.found;
}

module _ (old : List (List ℕ)) (xs ys : List ℕ) (p q from n low room : ℕ) (out : List ℕ)
    (was : IsJoining old from n out (pair_from xs p ys q) low) where
  none_past : (i y : ℕ) → length xs ≤ p → length ys ≤ q → i < 2 → IsNumberIn (list_at (pair_from xs p ys q) i) y → ⊥
  none_past zero y l m inside c = omega (arith, c.1, length-drop p xs, l)
  none_past (suc zero) y l m inside c = omega (arith, c.1, length-drop q ys, m)
  none_past (suc (suc i)) y l m inside c = omega (arith, inside)

  -- neither list has more
  pub pair_ended : n ≤ room → length xs ≤ p → length ys ≤ q → AreJoined old from n room out
  pair_ended fits l m = joined_ended old (pair_from xs p ys q) from n low room out was fits (λ y more c. none_past c.0 y l m c.1 c.2)

  -- only the greatest number of 64 bits is left
  pub pair_last : n < room → n < length out → IsLeastOf (pair_from xs p ys q) 2 low (2 ^ 64 - 1)
      → AreJoined old from (n + 1) room (set out n (2 ^ 64 - 1))
  pair_last fits inside least =
      joined_none old (pair_from xs p ys q) from (n + 1) (2 ^ 64 - 1 + 1) room (set out n (2 ^ 64 - 1))
      (turn_joined old (pair_from xs p ys q) (pair_from xs p ys q) from n low (2 ^ 64 - 1) out was inside least (keeps_all (pair_from xs p ys q) low))
      (omega (arith, fits)) (λ x l s some. omega (arith, l, s))

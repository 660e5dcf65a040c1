-- The numbers so far that two ranges share.
use Rattle.std.proofs.Common.{◌≡◌, ℕ, ◌+◌, ◌^◌, ◌<◌, ◌≤◌, List, [], ◌∷◌, ◌++◌, length, take, set, All, Contains, refl, sym, ap, ◌∙◌, subst, inl, inr, slice_range, arith, ⊎_elim}
use Rattle.std.specs.Prelude.{Some}
use Rattle.std.proofs.lemmas.Bool.{cases_lt}
use Rattle.std.proofs.lemmas.List.{append_assoc, append-nil, length-take-le, take_all, take_at, take_more_set}
use Rattle.bitm_tables.specs.declared.answer.Answer.TheVariants.{Found, Absent}
use Rattle.levels_view.specs.Ranges.{IsNextOf}
use Rattle.matrix_levels.specs.Numbers.{count_less, IsNextItem}
use Rattle.matrix_levels.specs.SharedFrom.{shared_from}
use Rattle.matrix_block.specs.RangeLists.{AreRisingFrom}
use Rattle.matrix_levels.proofs.SharedFromLemmas.{less-grows, misses-after, misses-all, misses-below, not-first, not-second, shared-first, shared-none, shared-skip}

-- x is the least number of the list that is at least v
pub record IsNext (xs : List ℕ) (v x : ℕ) : Type 0 where
  pub there : Contains xs x
  pub order : v ≤ x
  pub next : All (λ y. v ≤ y → x ≤ y) xs

next-item : (xs : List ℕ) (v x : ℕ) → IsNextItem xs v (Some x) → IsNext xs v x
next-item xs v x (there, order, next) = record { there = there; order = order; next = next }

pub next-found : (xs : List ℕ) (s e v x : ℕ) → IsNextOf xs s e v (Found x) → IsNext (slice_range xs s e) v x
next-found xs s e v x (order, inside, is) = next-item (slice_range xs s e) v x is

pub next-absent : (xs : List ℕ) (s e v : ℕ) → s ≤ e → e ≤ length xs → IsNextOf xs s e v Absent → All (λ y. y < v) (slice_range xs s e)
next-absent xs s e v order inside (inl late) = absurd (omega (arith, order, late))
next-absent xs s e v order inside (inr (inl past)) = absurd (omega (arith, inside, past))
next-absent xs s e v order inside (inr (inr all)) = all

-- those that were written, and after them those from a bound on, are all; each turn passed an item of the first list
pub record AreSharedSoFar (xs ys : List ℕ) (n from bound turn k : ℕ) (numbers : List ℕ) : Type 0 where
  pub whole : take k numbers ++ shared_from xs ys n bound ≡ shared_from xs ys n from
  pub turns : turn ≤ count_less xs bound

pub shared-so-far-none : (xs ys : List ℕ) (n from : ℕ) (numbers : List ℕ) → AreSharedSoFar xs ys n from from 0 0 numbers
shared-so-far-none xs ys n from numbers = record { whole = refl; turns = omega arith }

module _ (xs ys : List ℕ) (n from bound turn k : ℕ) (numbers : List ℕ) (s : AreSharedSoFar xs ys n from bound turn k numbers) where
  -- there is no more room
  pub shared-full : k ≤ length numbers → length numbers ≤ k → take k numbers ≡ take (length numbers) (shared_from xs ys n from)
  shared-full inside full =
      sym (ap (take (length numbers)) (sym s.whole)
      ∙ take_at (take k numbers) (shared_from xs ys n bound) (length numbers) (omega (arith, length-take-le k numbers inside, inside, full)))

  shared-all : k ≤ length numbers → shared_from xs ys n bound ≡ [] → take k numbers ≡ take (length numbers) (shared_from xs ys n from)
  shared-all inside none =
      let all : take k numbers ≡ shared_from xs ys n from =
      sym (append-nil (take k numbers)) ∙ ap (λ l. take k numbers ++ l) (sym none) ∙ s.whole in
      all ∙ sym (take_all (length numbers) (shared_from xs ys n from) (omega (arith, ap length all, length-take-le k numbers inside, inside)))

  -- the first list has no more
  pub shared-past-first : k ≤ length numbers → All (λ y. y < bound) xs → take k numbers ≡ take (length numbers) (shared_from xs ys n from)
  shared-past-first inside past =
      shared-all inside (shared-none xs ys n bound (λ v g. not-first xs ys n v (misses-after xs bound v past g)))

  -- x is the next of the first list, and the second has none from there on
  pub shared-past-second : (x : ℕ) → k ≤ length numbers → All (λ y. bound ≤ y → x ≤ y) xs → All (λ y. y < x) ys
      → take k numbers ≡ take (length numbers) (shared_from xs ys n from)
  shared-past-second x inside next past =
      shared-all inside (shared-none xs ys n bound (λ v g.
      ⊎_elim
      (λ l. not-first xs ys n v (misses-below xs bound x v next g l))
      (λ h. not-second xs ys n v (misses-after ys x v past h))
      (cases_lt v x)))

  -- there were as many turns as the first list has items
  pub shared-turned : k ≤ length numbers → length xs ≤ turn → take k numbers ≡ take (length numbers) (shared_from xs ys n from)
  shared-turned inside all =
      shared-all inside
      (shared-none xs ys n bound (λ v g. not-first xs ys n v (misses-all xs bound v (omega (arith, all, s.turns)) g)))

  -- x is the next of the first list
  module _ (x : ℕ) (there : Contains xs x) (order : bound ≤ x) (next : All (λ y. bound ≤ y → x ≤ y) xs) where
    -- z is that of the second from there on
    pub shared-passed : (z : ℕ) → x < z → All (λ y. x ≤ y → z ≤ y) ys → AreSharedSoFar xs ys n from z (turn + 1) k numbers
    shared-passed z apart beyond = record {
      whole =
          ap (λ l. take k numbers ++ l)
          (sym (shared-skip xs ys n bound z (omega (arith, order, apart)) (λ v g h.
          ⊎_elim
          (λ l. not-first xs ys n v (misses-below xs bound x v next g l))
          (λ m. not-second xs ys n v (misses-below ys x z v beyond m h))
          (cases_lt v x))))
          ∙ s.whole;
      turns = omega (arith, s.turns, less-grows xs bound x z there order apart);
    }

    -- the second has it too
    pub shared-taken : x < n → Contains ys x → k < length numbers → AreSharedSoFar xs ys n from (x + 1) (turn + 1) (k + 1) (set numbers k x)
    shared-taken small both inside = record {
      whole =
          ap (λ l. l ++ shared_from xs ys n (x + 1)) (take_more_set numbers k x inside)
          ∙ append_assoc (take k numbers) (x ∷ []) (shared_from xs ys n (x + 1))
          ∙ ap (λ l. take k numbers ++ l)
          (sym (shared-first xs ys n bound x order small there both (λ v g h. not-first xs ys n v (misses-below xs bound x v next g h))))
          ∙ s.whole;
      turns = omega (arith, s.turns, less-grows xs bound x (x + 1) there order (omega arith));
    }

-- what holds after a turn, of the new bound, and of how many numbers were written
pub record IsTurned (w from : ℕ) (old : List ℕ) (holds : Type 0) (xs ys : List ℕ) (turn bound k : ℕ) (numbers : List ℕ) : Type 0 where
  pub from_on : from ≤ bound
  pub rising : AreRisingFrom w from k old numbers
  pub below : All (λ x. x < bound) (take k numbers)
  pub right : holds → AreSharedSoFar xs ys (2 ^ w) from bound turn k numbers

pub turned-along : (w from : ℕ) (old : List ℕ) (holds : Type 0) (xs ys : List ℕ) (turn turn' bound bound' k k' : ℕ) (numbers numbers' : List ℕ)
    → turn' ≡ turn → bound' ≡ bound → k' ≡ k → numbers' ≡ numbers → IsTurned w from old holds xs ys turn bound k numbers
    → IsTurned w from old holds xs ys turn' bound' k' numbers'
turned-along w from old holds xs ys turn turn' bound bound' k k' numbers numbers' a b c d t =
    subst (λ (n : ℕ). IsTurned w from old holds xs ys n bound' k' numbers') (sym a)
    (subst (λ (n : ℕ). IsTurned w from old holds xs ys turn n k' numbers') (sym b)
    (subst (λ (n : ℕ). IsTurned w from old holds xs ys turn bound n numbers') (sym c)
    (subst (λ (l : List ℕ). IsTurned w from old holds xs ys turn bound k l) (sym d) t)))

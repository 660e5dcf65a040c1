-- The intersection of two lists, each from a position on.
use Rattle.std.proofs.Common.{◌≡◌, ℕ, ◌+◌, ◌-◌, ◌^◌, ◌<◌, ◌≤◌, ◌⊎◌, List, length, set, drop, zero, suc, sym, subst, arith, ⊎_elim, length-drop}
use Rattle.std.specs.List.Sorted.{IsNonDecreasing}
use Rattle.postings.specs.Shared.{AreInAll, IsInAll, IsMeeting, IsNumberIn, KeepsFrom}
use Rattle.postings.specs.Pair.{pair_from}
use Rattle.postings.proofs.MeetingLemmas.{meeting_on, meeting_written, shared_none}
use Rattle.postings.proofs.PairLemmas.{head_in, head_least, IsHeadAt}
use Rattle.postings.proofs.SharingLemmas.{keeps_less, keeps_through}

module _ (xs ys : List ℕ) (p q a b : ℕ) (one_rising : IsNonDecreasing xs) (other_rising : IsNonDecreasing ys)
    (one : IsHeadAt xs p a) (other : IsHeadAt ys q b) where
  -- a number of both is no less than either head
  pub both_more : (x : ℕ) → IsInAll (pair_from xs p ys q) x → (a ≤ x) × (b ≤ x)
  both_more x all = (head_least xs p a one one_rising x (all 0 (omega arith)), head_least ys q b other other_rising x (all 1 (omega arith)))

  -- the head of both stands in both
  pub both_in : p < length xs → q < length ys → a ≡ b → IsInAll (pair_from xs p ys q) a
  both_in l m same zero inside = head_in xs p a one l
  both_in l m same (suc zero) inside = subst (IsNumberIn (drop q ys)) (sym same) (head_in ys q b other m)
  both_in l m same (suc (suc i)) inside = absurd (omega (arith, inside))

-- the same positions under other names
pub meeting_at : (old : List (List ℕ)) (xs ys : List ℕ) (p r q s from n low : ℕ) (out : List ℕ) → p ≡ r → q ≡ s
    → IsMeeting old from n out (pair_from xs p ys q) low → IsMeeting old from n out (pair_from xs r ys s) low
meeting_at old xs ys p r q s from n low out e f was =
    subst (λ (k : ℕ). IsMeeting old from n out (pair_from xs k ys s) low) e (subst (λ (k : ℕ). IsMeeting old from n out (pair_from xs p ys k) low) f was)

-- a number that all lists still have is one that all had
pub back_in_all : (old now : List (List ℕ)) (low x : ℕ) → KeepsFrom old now low → IsInAll now x → IsInAll old x
back_in_all old now low x keeps all i inside = keeps.back i x (all i (omega (arith, inside, keeps.count)))

pub kept_in_all : (old now : List (List ℕ)) (low x : ℕ) → KeepsFrom old now low → low ≤ x → IsInAll old x → IsInAll now x
kept_in_all old now low x keeps from all i inside = keeps.kept i x from (all i (omega (arith, inside, keeps.count)))

-- lists that moved on over lesser numbers
pub meeting_passed : (old now next : List (List ℕ)) (from n low : ℕ) (out : List ℕ) → IsMeeting old from n out now low → KeepsFrom now next low
    → IsMeeting old from n out next low
meeting_passed old now next from n low out was moved =
    meeting_on old now from n low out was next low (omega arith) (keeps_through old now next low was.keeps moved) (λ x l less all. omega (arith, l, less))

module _ (old : List (List ℕ)) (xs ys : List ℕ) (p q from n low room : ℕ) (out : List ℕ)
    (was : IsMeeting old from n out (pair_from xs p ys q) low) where
  -- one of the lists has no more
  pub meeting_ended : n ≤ room → (length xs ≤ p) ⊎ (length ys ≤ q) → AreInAll old from n room out
  meeting_ended fits end =
      shared_none old (pair_from xs p ys q) from n low out was room fits (λ x l s all.
      let here = kept_in_all old (pair_from xs p ys q) low x was.keeps l all in
      ⊎_elim
      (λ (e : length xs ≤ p). let c : IsNumberIn (drop p xs) x = here 0 (omega arith) in let none : ⊥ = omega (arith, c.1, length-drop p xs, e) in none)
      (λ (e : length ys ≤ q). let c : IsNumberIn (drop q ys) x = here 1 (omega arith) in let none : ⊥ = omega (arith, c.1, length-drop q ys, e) in none)
      end)

  -- the greatest number of 64 bits is next in both
  pub meeting_last : n < room → n < length out → low ≤ 2 ^ 64 - 1 → IsInAll (pair_from xs p ys q) (2 ^ 64 - 1)
      → ((x : ℕ) → IsInAll (pair_from xs p ys q) x → 2 ^ 64 - 1 ≤ x) → AreInAll old from (n + 1) room (set out n (2 ^ 64 - 1))
  meeting_last fits inside order here most =
      let now = pair_from xs p ys q in
      let at = meeting_on old now from n low out was now (2 ^ 64 - 1) order (keeps_less old now low (2 ^ 64 - 1) order was.keeps)
      (λ x l less all. omega (arith, most x (kept_in_all old now low x was.keeps l all), less)) in
      shared_none old now from (n + 1) (2 ^ 64 - 1 + 1) (set out n (2 ^ 64 - 1))
      (meeting_written old now from n (2 ^ 64 - 1) out at inside (back_in_all old now low (2 ^ 64 - 1) was.keeps here))
      room (omega (arith, fits)) (λ x l s all. omega (arith, l, s))

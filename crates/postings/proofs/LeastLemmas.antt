-- The least number of several lists, one list after another.
use Rattle.std.proofs.Common.{◌≡◌, ℕ, ◌+◌, ◌<◌, ◌≤◌, ◌⊎◌, inl, inr, List, Option, Some, None, refl, sym, subst, arith, ⊎_elim}
use Rattle.std.proofs.lemmas.Bool.{cases_lt}
use Rattle.std.specs.Prelude.{MatchOption}
use Rattle.postings.specs.Next.{IsNextAtLeast}
use Rattle.postings.specs.Shared.{list_at, IsNumberIn, KeepsFrom}
use Rattle.postings.specs.Joined.{IsInFirst, IsLeastFrom, IsLeastOf, IsLesser}
use Rattle.postings.proofs.SharingLemmas.{next_none, next_least, next_has, next_back}

-- the least number from v on in one list
record IsHead (xs : List ℕ) (v x : ℕ) : Type 0 where
  from : v ≤ x
  there : IsNumberIn xs x
  least : (y : ℕ) → v ≤ y → IsNumberIn xs y → x ≤ y

abbrev Head : List ℕ → ℕ → Option ℕ → Type 0
Head xs v o = MatchOption o ((y : ℕ) → v ≤ y → IsNumberIn xs y → ⊥) (IsHead xs v)

-- a list that was not asked from v on is what it was from there on
head_of : (old now : List (List ℕ)) (i v : ℕ) (o : Option ℕ) (new : List ℕ) → KeepsFrom old now v → IsNextAtLeast (list_at now i) v o new
    → Head (list_at old i) v o
head_of old now i v None new keeps next = λ y from c. next_none (list_at now i) v new y next from (keeps.kept i y from c)
head_of old now i v (Some x) new keeps next = record {
  from = next.answer.at_least;
  there = keeps.back i x (next_back (list_at now i) v (Some x) new x next (next_has (list_at now i) v x new next));
  least = λ y from c. next_least (list_at now i) v x new y next from (keeps.kept i y from c);
}

-- in one of the first i lists, or in the next
split : (xss : List (List ℕ)) (i y : ℕ) → IsInFirst xss (i + 1) y → IsInFirst xss i y ⊎ IsNumberIn (list_at xss i) y
split xss i y c = ⊎_elim
    (λ (l : c.0 < i). inl (c.0, l, c.2))
    (λ (past : i ≤ c.0). let e : c.0 ≡ i = omega (arith, past, c.1) in inr (subst (λ (j : ℕ). IsNumberIn (list_at xss j) y) e c.2))
    (cases_lt c.0 i)

more : (xss : List (List ℕ)) (i y : ℕ) → IsInFirst xss i y → IsInFirst xss (i + 1) y
more xss i y c = (c.0, omega (arith, c.1), c.2)

-- the least of the first i lists stays the least
first_stays : (xss : List (List ℕ)) (i v x : ℕ) → IsLeastOf xss i v x → ((y : ℕ) → v ≤ y → IsNumberIn (list_at xss i) y → x ≤ y) → IsLeastOf xss (i + 1) v x
first_stays xss i v x h other = record {
  from = h.from;
  there = more xss i x h.there;
  least = λ y from c. ⊎_elim (h.least y from) (other y from) (split xss i y c);
}

-- the head of the next list is the least
next_is : (xss : List (List ℕ)) (i v x : ℕ) → IsHead (list_at xss i) v x → ((y : ℕ) → v ≤ y → IsInFirst xss i y → x ≤ y) → IsLeastOf xss (i + 1) v x
next_is xss i v x h other = record {
  from = h.from;
  there = (i, omega arith, h.there);
  least = λ y from c. ⊎_elim (other y from) (h.least y from) (split xss i y c);
}

lesser : (xss : List (List ℕ)) (i v : ℕ) (o p q : Option ℕ) → IsLeastFrom xss i v o → Head (list_at xss i) v p → IsLesser o p q → IsLeastFrom xss (i + 1) v q
lesser xss i v None None q h k e =
    subst (IsLeastFrom xss (i + 1) v) (sym e) (λ y from c. ⊎_elim (h y from) (k y from) (split xss i y c))
lesser xss i v None (Some y) q h k e =
    subst (IsLeastFrom xss (i + 1) v) (sym e) (next_is xss i v y k (λ z from c. absurd (h z from c)))
lesser xss i v (Some x) None q h k e =
    subst (IsLeastFrom xss (i + 1) v) (sym e) (first_stays xss i v x h (λ z from c. absurd (k z from c)))
lesser xss i v (Some x) (Some y) q h k (inl e) =
    subst (IsLeastFrom xss (i + 1) v) (sym e.1) (first_stays xss i v x h (λ z from c. omega (arith, k.least z from c, e.0)))
lesser xss i v (Some x) (Some y) q h k (inr e) =
    subst (IsLeastFrom xss (i + 1) v) (sym e.1) (next_is xss i v y k (λ z from c. omega (arith, h.least z from c, e.0)))

pub least_with : (old now : List (List ℕ)) (i v : ℕ) (o p q : Option ℕ) (new : List ℕ) → KeepsFrom old now v → IsLeastFrom old i v o
    → IsNextAtLeast (list_at now i) v p new → IsLesser o p q → IsLeastFrom old (i + 1) v q
least_with old now i v o p q new keeps h next e = lesser old i v o p q h (head_of old now i v p new keeps next) e

-- no lists have no numbers
pub least_none : (xss : List (List ℕ)) (v : ℕ) → IsLeastFrom xss 0 v None
least_none xss v = λ y from c. absurd (let l : c.0 < 0 = c.1 in omega (arith, l))

-- of a number and none the lesser is the number
pub lesser_none : (o : Option ℕ) → IsLesser o None o
lesser_none None = refl
lesser_none (Some x) = refl

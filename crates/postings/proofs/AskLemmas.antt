-- One more list is asked for a number of the first.
use Rattle.std.proofs.Common.{◌≡◌, ◌≢◌, ℕ, ◌+◌, ◌<◌, ◌≤◌, List, Option, Some, None, length, get_or, set, map, subst, ◌∙◌, arith, ⊎_elim}
use Rattle.std.proofs.lemmas.Bool.{cases_lt}
use Rattle.std.proofs.lemmas.List.{length-map}
use Rattle.postings.specs.Next.{IsNextAtLeast}
use Rattle.postings.specs.Shared.{list_at, AskedAtMost, IsAgreed, IsAsked, IsAsking, IsNumberIn, KeepsFrom}
use Rattle.postings.specs.declared.sharing.Agreed.{Agreed}
use Rattle.postings.specs.declared.sharing.Agreed.TheVariants.{Next, Ended}
use Rattle.postings.proofs.SharingLemmas.{keeps_through, next_none, next_least, next_has, next_back}
use Rattle.postings.proofs.StepLemmas.{step_next, step_keeps, step_other, step_calls_other, step_asked}

module _ {C : Type 0} (L : C → List ℕ) (K : C → ℕ) (old lists : List C) (v i : ℕ) (was now : C)
    (from : 1 ≤ i) (inside : i < length lists) (count : length lists ≡ length old)
    (asking : IsAsking (map L old) (map K old) v i (map L lists) (map K lists))
    (counted : K now ≤ K (get_or lists i was) + 1) where
  zero : 0 ≢ i
  zero e = omega (arith, e, from)

  in_old : i < length (map L old)
  in_old = omega (arith, length-map old L, inside, count)

  at_most : AskedAtMost (map K old) (map K (set lists i now)) 1
  at_most = step_asked K lists i was now inside counted (map K old) 1 asking.at_most (omega (arith, asking.fresh i (omega arith)))

  module _ (o : Option ℕ) (next : IsNextAtLeast (L (get_or lists i was)) v o (L now)) where
    there : IsNextAtLeast (list_at (map L lists) i) v o (L now)
    there = step_next L lists i was now inside v o next

    keeps : KeepsFrom (map L old) (map L (set lists i now)) v
    keeps = keeps_through (map L old) (map L lists) (map L (set lists i now)) v asking.keeps (step_keeps L lists i was now inside v o next)

    asked_as : (a : Agreed) → IsAgreed (map L old) v a → IsAsked (map L old) (map K old) v a (map L (set lists i now)) (map K (set lists i now))
    asked_as a agreed = record {
      agreed = agreed;
      keeps = keeps;
      at_most = at_most;
      same = step_other L lists i was now inside v o next 0 zero ∙ asking.same;
      first = step_calls_other K lists i was now inside counted 0 zero ∙ asking.first;
    }

  pub ask_ended : IsNextAtLeast (L (get_or lists i was)) v None (L now)
      → IsAsked (map L old) (map K old) v Ended (map L (set lists i now)) (map K (set lists i now))
  ask_ended next = asked_as None next Ended
      (λ y least all. next_none (list_at (map L lists) i) v (L now) y (there None next) least (asking.keeps.kept i y least (all i in_old)))

  pub ask_passed : (x : ℕ) → x ≢ v → IsNextAtLeast (L (get_or lists i was)) v (Some x) (L now)
      → IsAsked (map L old) (map K old) v (Next x) (map L (set lists i now)) (map K (set lists i now))
  ask_passed x other next =
      let here = there (Some x) next in
      asked_as (Some x) next (Next x) (
        omega (arith, here.answer.at_least, other),
        λ y least less all.
            let first = next_least (list_at (map L lists) i) v x (L now) y here least (asking.keeps.kept i y least (all i in_old)) in
            absurd (omega (arith, first, less)),
      )

  pub ask_agreed : (x : ℕ) → x ≡ v → IsNextAtLeast (L (get_or lists i was)) v (Some x) (L now)
      → IsAsking (map L old) (map K old) v (i + 1) (map L (set lists i now)) (map K (set lists i now))
  ask_agreed x is next =
      let here = there (Some x) next in
      let has : IsNumberIn (list_at (map L lists) i) v =
      subst (λ (y : ℕ). IsNumberIn (list_at (map L lists) i) y) is
      (next_back (list_at (map L lists) i) v (Some x) (L now) x here (next_has (list_at (map L lists) i) v x (L now) here)) in
      record {
        agreed = λ j least less. ⊎_elim
            (λ (before : j < i). asking.agreed j least before)
            (λ (past : i ≤ j).
            let e : i ≡ j = omega (arith, less, past) in
            subst (λ (k : ℕ). IsNumberIn (list_at (map L old) k) v) e (asking.keeps.back i v has))
            (cases_lt j i);
        keeps = keeps (Some x) next;
        at_most = at_most;
        fresh = λ j past.
            let other : j ≢ i = λ e. omega (arith, e, past) in
            step_calls_other K lists i was now inside counted j other ∙ asking.fresh j (omega (arith, past));
        first = step_calls_other K lists i was now inside counted 0 zero ∙ asking.first;
        same = step_other L lists i was now inside v (Some x) next 0 zero ∙ asking.same;
      }

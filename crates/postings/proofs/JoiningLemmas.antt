-- One turn of the loop of a union: the least number from a number on is written.
use Rattle.std.proofs.Common.{◌≡◌, ◌≢◌, ℕ, ◌+◌, ◌^◌, ◌<◌, ◌≤◌, inl, inr, List, length, get_or, set, sym, ap, ◌∙◌, subst, arith, ⊎_elim}
use Rattle.std.proofs.lemmas.Bool.{cases_lt}
use Rattle.std.proofs.lemmas.List.{get_or-set_same, get_or-set_other}
use Rattle.postings.specs.Shared.{KeepsFrom}
use Rattle.postings.specs.Joined.{AreJoined, IsInSome, IsJoining, IsLeastOf}
use Rattle.postings.proofs.SharingLemmas.{keeps_all, keeps_less, keeps_through}

-- nothing is written yet
pub joining_none : (old : List (List ℕ)) (from : ℕ) (ys : List ℕ) → IsJoining old from 0 ys old from
joining_none old from ys = record {
  order = omega arith;
  keeps = keeps_all old from;
  rising = λ j k l m. absurd (omega arith);
  from_there = λ k l. absurd (omega arith);
  below = λ k l. absurd (omega arith);
  in_some = λ k l. absurd (omega arith);
  found = λ x l m. absurd (omega arith);
}

-- a number from low on stays in the list where it stands
pub kept_in_some : (old now : List (List ℕ)) (low x : ℕ) → KeepsFrom old now low → low ≤ x → IsInSome old x → IsInSome now x
kept_in_some old now low x keeps from c = (c.0, omega (arith, c.1, keeps.count), keeps.kept c.0 x from c.2)

back_in_some : (old now : List (List ℕ)) (low x : ℕ) → KeepsFrom old now low → IsInSome now x → IsInSome old x
back_in_some old now low x keeps c = (c.0, omega (arith, c.1, keeps.count), keeps.back c.0 x c.2)

module _ (old now : List (List ℕ)) (from n low room : ℕ) (ys : List ℕ)
    (was : IsJoining old from n ys now low) (fits : n ≤ room) where
  -- a number of a list that was not written is at least low
  not_written : (x : ℕ) → from ≤ x → IsInSome old x → ((k : ℕ) → k < n → get_or ys k 0 < x) → low ≤ x
  not_written x l some more = ⊎_elim
      (λ (less : x < low). let there = was.found x l less some in absurd (omega (arith, more there.0 there.1, there.2)))
      (λ (past : low ≤ x). past)
      (cases_lt x low)

  pub still_in_some : (next : List (List ℕ)) → KeepsFrom old next low → (x : ℕ) → from ≤ x → IsInSome old x → ((k : ℕ) → k < n → get_or ys k 0 < x) → IsInSome next x
  still_in_some next keeps x l some more = kept_in_some old next low x keeps (not_written x l some more) some

  joined : ((x : ℕ) → low ≤ x → x < 2 ^ 64 → IsInSome old x → (n ≡ room) × ((k : ℕ) → k < n → get_or ys k 0 < x)) → AreJoined old from n room ys
  joined rest = record {
    most = fits;
    rising = was.rising;
    from_there = was.from_there;
    in_some = was.in_some;
    all = λ x l s some. ⊎_elim
        (λ (less : x < low). inl (was.found x l less some))
        (λ (past : low ≤ x). inr (rest x past s some))
        (cases_lt x low);
  }

  pub joined_none : ((x : ℕ) → low ≤ x → x < 2 ^ 64 → IsInSome old x → ⊥) → AreJoined old from n room ys
  joined_none none = joined (λ x l s some. absurd (none x l s some))

  -- no list has more
  pub joined_ended : ((y : ℕ) → low ≤ y → IsInSome now y → ⊥) → AreJoined old from n room ys
  joined_ended none = joined_none (λ x l s some. none x l (kept_in_some old now low x was.keeps l some))

  pub joined_full : room ≤ n → AreJoined old from n room ys
  joined_full full = joined (λ x l s some. (omega (arith, full, fits), λ k less. omega (arith, was.below k less, l)))

module _ (old now next : List (List ℕ)) (from n low v : ℕ) (ys : List ℕ)
    (was : IsJoining old from n ys now low) (inside : n < length ys)
    (least : IsLeastOf now (length now) low v) (moved : KeepsFrom now next low) where
  kept : (k : ℕ) → k < n → get_or (set ys n v) k 0 ≡ get_or ys k 0
  kept k l = let d : k ≢ n = λ e. omega (arith, e, l) in get_or-set_other ys n k v 0 d

  last : get_or (set ys n v) n 0 ≡ v
  last = get_or-set_same ys n v 0 inside

  -- what holds of each written number and of v
  each : (P : ℕ → Type 0) → ((k : ℕ) → k < n → P (get_or ys k 0)) → P v → (k : ℕ) → k < n + 1 → P (get_or (set ys n v) k 0)
  each P before here k l = ⊎_elim
      (λ (less : k < n). subst P (sym (kept k less)) (before k less))
      (λ (past : n ≤ k).
      let e : n ≡ k = omega (arith, past, l) in
      subst (λ (m : ℕ). P (get_or (set ys n v) m 0)) e (subst P (sym last) here))
      (cases_lt k n)

  pub turn_joined : IsJoining old from (n + 1) (set ys n v) next (v + 1)
  turn_joined = record {
    order = omega (arith, was.order, least.from);
    keeps = keeps_less old next low (v + 1) (omega (arith, least.from)) (keeps_through old now next low was.keeps moved);
    rising = λ j k l m. ⊎_elim
        (λ (less : k < n). omega (arith, kept j (omega arith), kept k less, was.rising j k l less))
        (λ (past : n ≤ k).
        let e : n ≡ k = omega (arith, past, m) in
        omega (arith, kept j (omega arith), ap (λ (i : ℕ). get_or (set ys n v) i 0) e, last, was.below j (omega arith), least.from))
        (cases_lt k n);
    from_there = each (λ x. from ≤ x) was.from_there (omega (arith, was.order, least.from));
    below = each (λ x. x < v + 1) (λ k l. omega (arith, was.below k l, least.from)) (omega arith);
    in_some = each (IsInSome old) was.in_some (back_in_some old now low v was.keeps least.there);
    found = λ x l less some. ⊎_elim
        (λ (before : x < low).
        let there = was.found x l before some in
        (there.0, omega (arith, there.1), kept there.0 there.1 ∙ there.2))
        (λ (past : low ≤ x).
        let most : v ≤ x = least.least x past (kept_in_some old now low x was.keeps past some) in
        (n, omega arith, omega (arith, last, most, less)))
        (cases_lt x low);
  }

-- What several lists share, as it is written up to a number.
use Rattle.std.proofs.Common.{◌≡◌, ◌≢◌, ℕ, ◌+◌, ◌^◌, ◌<◌, ◌≤◌, inl, inr, List, length, get_or, set, ap, ◌∙◌, sym, subst, arith, ⊎_elim}
use Rattle.std.proofs.lemmas.Bool.{cases_lt}
use Rattle.std.proofs.lemmas.List.{get_or-set_same, get_or-set_other}
use Rattle.postings.specs.Shared.{AreInAll, IsInAll, IsMeeting, KeepsFrom}
use Rattle.postings.proofs.SharingLemmas.{keeps_all, keeps_less}

-- nothing is written yet
pub meeting_none : (old : List (List ℕ)) (from : ℕ) (ys : List ℕ) → IsMeeting old from 0 ys old from
meeting_none old from ys = record {
  order = omega arith;
  keeps = keeps_all old from;
  rising = λ j k l m. absurd (omega arith);
  from_there = λ k l. absurd (omega arith);
  below = λ k l. absurd (omega arith);
  in_all = λ k l. absurd (omega arith);
  found = λ x l m. absurd (omega arith);
}

module _ (old now : List (List ℕ)) (from n low : ℕ) (ys : List ℕ) (was : IsMeeting old from n ys now low) where
  -- a shared number that was not written is at least low
  pub not_written : (x : ℕ) → from ≤ x → IsInAll old x → ((k : ℕ) → k < n → get_or ys k 0 < x) → low ≤ x
  not_written x l all more = ⊎_elim
      (λ (less : x < low). let there = was.found x l less all in absurd (omega (arith, more there.0 there.1, there.2)))
      (λ (past : low ≤ x). past)
      (cases_lt x low)

  pub still_in_all : (next : List (List ℕ)) → KeepsFrom old next low → (x : ℕ) → from ≤ x → IsInAll old x → ((k : ℕ) → k < n → get_or ys k 0 < x) → IsInAll next x
  still_in_all next keeps x l all more i inside = keeps.kept i x (not_written x l all more) (all i (omega (arith, keeps.count)))

  -- no number up to v is shared but those that are written
  pub meeting_on : (next : List (List ℕ)) (v : ℕ) → low ≤ v → KeepsFrom old next v → ((x : ℕ) → low ≤ x → x < v → IsInAll old x → ⊥)
      → IsMeeting old from n ys next v
  meeting_on next v order keeps none = record {
    order = omega (arith, was.order, order);
    keeps = keeps;
    rising = was.rising;
    from_there = was.from_there;
    below = λ k l. omega (arith, was.below k l, order);
    in_all = was.in_all;
    found = λ x l less all. ⊎_elim
        (λ (before : x < low). was.found x l before all)
        (λ (past : low ≤ x). absurd (none x past less all))
        (cases_lt x low);
  }

  module _ (room : ℕ) (fits : n ≤ room) where
    shared : ((x : ℕ) → low ≤ x → x < 2 ^ 64 → IsInAll old x → (n ≡ room) × ((k : ℕ) → k < n → get_or ys k 0 < x)) → AreInAll old from n room ys
    shared rest = record {
      most = fits;
      rising = was.rising;
      from_there = was.from_there;
      in_all = was.in_all;
      all = λ x l s all. ⊎_elim
          (λ (less : x < low). inl (was.found x l less all))
          (λ (past : low ≤ x). inr (rest x past s all))
          (cases_lt x low);
    }

    pub shared_none : ((x : ℕ) → low ≤ x → x < 2 ^ 64 → IsInAll old x → ⊥) → AreInAll old from n room ys
    shared_none none = shared (λ x l s all. absurd (none x l s all))

    pub shared_full : room ≤ n → AreInAll old from n room ys
    shared_full full = shared (λ x l s all. (omega (arith, full, fits), λ k less. omega (arith, was.below k less, l)))

  -- the next number is shared
  module _ (inside : n < length ys) (here : IsInAll old low) where
    kept : (k : ℕ) → k < n → get_or (set ys n low) k 0 ≡ get_or ys k 0
    kept k l = let d : k ≢ n = λ e. omega (arith, e, l) in get_or-set_other ys n k low 0 d

    last : get_or (set ys n low) n 0 ≡ low
    last = get_or-set_same ys n low 0 inside

    -- what holds of each written number and of this one
    each : (P : ℕ → Type 0) → ((k : ℕ) → k < n → P (get_or ys k 0)) → P low → (k : ℕ) → k < n + 1 → P (get_or (set ys n low) k 0)
    each P before is k l = ⊎_elim
        (λ (less : k < n). subst P (sym (kept k less)) (before k less))
        (λ (past : n ≤ k).
        let e : n ≡ k = omega (arith, past, l) in
        subst (λ (m : ℕ). P (get_or (set ys n low) m 0)) e (subst P (sym last) is))
        (cases_lt k n)

    pub meeting_written : IsMeeting old from (n + 1) (set ys n low) now (low + 1)
    meeting_written = record {
      order = omega (arith, was.order);
      keeps = keeps_less old now low (low + 1) (omega arith) was.keeps;
      rising = λ j k l m. ⊎_elim
          (λ (less : k < n). omega (arith, kept j (omega arith), kept k less, was.rising j k l less))
          (λ (past : n ≤ k).
          let e : n ≡ k = omega (arith, past, m) in
          omega (arith, kept j (omega arith), ap (λ (i : ℕ). get_or (set ys n low) i 0) e, last, was.below j (omega arith)))
          (cases_lt k n);
      from_there = each (λ x. from ≤ x) was.from_there was.order;
      below = each (λ x. x < low + 1) (λ k l. omega (arith, was.below k l)) (omega arith);
      in_all = each (IsInAll old) was.in_all here;
      found = λ x l less all. ⊎_elim
          (λ (before : x < low).
          let there = was.found x l before all in
          (there.0, omega (arith, there.1), kept there.0 there.1 ∙ there.2))
          (λ (past : low ≤ x). (n, omega arith, omega (arith, last, past, less)))
          (cases_lt x low);
    }

-- One turn of the loop: the first list moves to a number v, and the others are asked for it.
use Rattle.std.proofs.Common.{◌≡◌, ℕ, ◌+◌, ◌<◌, ◌≤◌, inl, inr, List, length, get_or, set, Some, None, sym, ap, ◌∙◌, subst, arith, ⊎_elim, length-drop, drop}
use Rattle.std.proofs.lemmas.Bool.{cases_lt}
use Rattle.postings.specs.Next.{IsNextAtLeast}
use Rattle.postings.specs.Shared.{list_at, AreInAll, AskedAtMost, IsInAll, IsMeeting, IsNumberIn, IsSharing, KeepsFrom}
use Rattle.postings.proofs.MeetingLemmas.{meeting_none, meeting_on, meeting_written, shared_none}
use Rattle.postings.proofs.SharingLemmas.{next_back, next_none, next_least, next_has, keeps_less, keeps_through}

-- nothing is written yet
pub sharing_none : (old : List (List ℕ)) (calls : List ℕ) (from : ℕ) (ys : List ℕ) → IsSharing old calls from 0 ys old calls from
sharing_none old calls from ys = record {
  meeting = meeting_none old from ys;
  rounds = 0;
  at_most = λ i. omega arith;
  passed = omega arith;
  tight = inr (omega arith);
}

-- the first list has no more numbers
module _ (old now : List (List ℕ)) (asked calls : List ℕ) (from n low room : ℕ) (ys new : List ℕ)
    (was : IsSharing old asked from n ys now calls low) (fits : n ≤ room) (some : 0 < length old)
    (next : IsNextAtLeast (list_at now 0) low None new) where
  pub ended_first : AreInAll old from n room ys
  ended_first = shared_none old now from n low ys was.meeting room fits
      (λ x l s all. next_none (list_at now 0) low new x next l (was.meeting.keeps.kept 0 x l (all 0 some)))

module _ (old now mid after : List (List ℕ)) (asked calls later : List ℕ) (from n low v : ℕ) (ys : List ℕ)
    (was : IsSharing old asked from n ys now calls low) (some : 0 < length old)
    (next : IsNextAtLeast (list_at now 0) low (Some v) (list_at mid 0)) (moved : KeepsFrom now mid low)
    (keeps : KeepsFrom mid after v) (same : list_at after 0 ≡ list_at mid 0) (once : AskedAtMost calls later 1) where
  order : low ≤ v
  order = next.answer.at_least

  pub all_keep : KeepsFrom old after v
  all_keep = keeps_through old mid after v (keeps_less old mid low v order (keeps_through old now mid low was.meeting.keeps moved)) keeps

  -- no shared number is passed
  none_passed : (x : ℕ) → low ≤ x → x < v → IsInAll old x → ⊥
  none_passed x past l all = omega (arith, next_least (list_at now 0) low v (list_at mid 0) x next past (was.meeting.keeps.kept 0 x past (all 0 some)), l)

  at_v : IsMeeting old from n ys after v
  at_v = meeting_on old now from n low ys was.meeting after v order all_keep none_passed

  pub in_mid : (x : ℕ) → v ≤ x → IsInAll old x → IsInAll mid x
  in_mid x l all i inside = (keeps_through old now mid low was.meeting.keeps moved).kept i x (omega (arith, order)) (all i (omega (arith, moved.count, was.meeting.keeps.count)))

  asked_more : AskedAtMost asked later (was.rounds + 1)
  asked_more i = omega (arith, once i, was.at_most i)

  lengths : was.rounds + 1 + length (list_at after 0) ≤ length (list_at old 0) + 1
  lengths =
      let len : length (list_at mid 0) + next.passed ≡ length (list_at now 0) = omega (arith, ap length next.rest, length-drop next.passed (list_at now 0), next.bound) in
      let here = ap length same in
      ⊎_elim
      (λ (t : (0 < length (list_at now 0)) × (get_or (list_at now 0) 0 0 < low)).
      let one : 0 < next.passed = ⊎_elim
      (λ (none : next.passed < 1).
      let e : next.passed ≡ 0 = omega (arith, none) in
      let is : list_at mid 0 ≡ list_at now 0 = next.rest ∙ ap (λ (k : ℕ). drop k (list_at now 0)) e in
      absurd (omega (arith, t.1, ap (λ (l : List ℕ). get_or l 0 0) is, next.answer.is, order)))
      (λ (l : 1 ≤ next.passed). l)
      (cases_lt next.passed 1) in
      omega (arith, one, len, here, was.passed))
      (λ (t : was.rounds + length (list_at now 0) ≤ length (list_at old 0)). omega (arith, t, len, here))
      was.tight

  first_is : get_or (list_at after 0) 0 0 ≡ v
  first_is = ap (λ (l : List ℕ). get_or l 0 0) same ∙ sym next.answer.is

  not_empty : 0 < length (list_at after 0)
  not_empty = omega (arith, ap length same, next.answer.some)

  pub asked_in_all : AskedAtMost asked later (length (list_at old 0) + 1)
  asked_in_all i = omega (arith, asked_more i, lengths)

  -- some list has x next
  pub turn_next : (x : ℕ) → v < x → ((y : ℕ) → v ≤ y → y < x → IsInAll mid y → ⊥) → IsSharing old asked from n ys after later x
  turn_next x more none = record {
    meeting = meeting_on old after from n v ys at_v after x (omega (arith, more)) (keeps_less old after v x (omega (arith, more)) all_keep)
        (λ y past less all. none y past less (in_mid y past all));
    rounds = was.rounds + 1;
    at_most = asked_more;
    passed = lengths;
    tight = inl (not_empty, omega (arith, first_is, more));
  }

  -- all lists have v
  module _ (inside : n < length ys) (agreed : (i : ℕ) → 1 ≤ i → i < length mid → IsNumberIn (list_at mid i) v) where
    in_each : IsInAll old v
    in_each i l = ⊎_elim
        (λ (first : i < 1).
        let e : 0 ≡ i = omega (arith, first) in
        subst (λ (k : ℕ). IsNumberIn (list_at old k) v) e
        (was.meeting.keeps.back 0 v (next_back (list_at now 0) low (Some v) (list_at mid 0) v next (next_has (list_at now 0) low v (list_at mid 0) next))))
        (λ (other : 1 ≤ i). (keeps_through old now mid low was.meeting.keeps moved).back i v (agreed i other (omega (arith, l, moved.count, was.meeting.keeps.count))))
        (cases_lt i 1)

    pub turn_all : IsSharing old asked from (n + 1) (set ys n v) after later (v + 1)
    turn_all = record {
      meeting = meeting_written old after from n v ys at_v inside in_each;
      rounds = was.rounds + 1;
      at_most = asked_more;
      passed = lengths;
      tight = inl (not_empty, omega (arith, first_is));
    }

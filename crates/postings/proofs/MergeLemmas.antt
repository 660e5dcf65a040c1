-- One turn of an intersection of cursors.
use Rattle.std.proofs.Common.{◌≡◌, ℕ, ◌+◌, ◌<◌, ◌≤◌, List, Some, None, length, get_or, set, map, arith, ⊎_elim}
use Rattle.std.proofs.lemmas.Bool.{cases_lt}
use Rattle.std.proofs.lemmas.List.{length-map}
use Rattle.postings.specs.Next.{IsNextAtLeast}
use Rattle.postings.specs.Shared.{list_at, AreInAll, AskedAtMost, IsAsked, IsInAll, IsNumberIn, IsSharing, KeepsFrom}
use Rattle.postings.specs.declared.sharing.Agreed.{Agreed}
use Rattle.postings.proofs.SharingLemmas.{keeps_through, next_least}
use Rattle.postings.proofs.StepLemmas.{step_next, step_next_there, step_keeps, step_asked, step_once}
use Rattle.postings.proofs.MeetingLemmas.{not_written, still_in_all, shared_none}
use Rattle.postings.proofs.TurnLemmas.{ended_first, turn_next, turn_all, asked_in_all, in_mid}

module _ {C : Type 0} (L : C → List ℕ) (K : C → ℕ) (old lists : List C) (from n low room : ℕ) (ys : List ℕ) (was now : C)
    (sharing : IsSharing (map L old) (map K old) from n ys (map L lists) (map K lists) low) (fits : n ≤ room)
    (inside : 0 < length lists) (count : length lists ≡ length old)
    (counted : K now ≤ K (get_or lists 0 was) + 1) where
  some : 0 < length (map L old)
  some = omega (arith, length-map old L, inside, count)

  few : sharing.rounds ≤ length (list_at (map L old) 0)
  few = ⊎_elim
      (λ (t : (0 < length (list_at (map L lists) 0)) × (get_or (list_at (map L lists) 0) 0 0 < low)). omega (arith, t.0, sharing.passed))
      (λ (t : sharing.rounds + length (list_at (map L lists) 0) ≤ length (list_at (map L old) 0)). omega (arith, t))
      sharing.tight

  pub first_asked : AskedAtMost (map K old) (map K (set lists 0 now)) (length (list_at (map L old) 0) + 1)
  first_asked = step_asked K lists 0 was now inside counted (map K old) (length (list_at (map L old) 0) + 1)
      (λ j. omega (arith, sharing.at_most j, few)) (omega (arith, sharing.at_most 0, few))

  -- the first list has no more
  pub first_shared : IsNextAtLeast (L (get_or lists 0 was)) low None (L now) → AreInAll (map L old) from n room ys
  first_shared next =
      ended_first (map L old) (map L lists) (map K old) (map K lists) from n low room ys (L now) sharing fits some
      (step_next L lists 0 was now inside low None next)

  pub first_left : IsNextAtLeast (L (get_or lists 0 was)) low None (L now)
      → (x : ℕ) → from ≤ x → IsInAll (map L old) x → ((k : ℕ) → k < n → get_or ys k 0 < x) → IsInAll (map L (set lists 0 now)) x
  first_left next =
      still_in_all (map L old) (map L lists) from n low ys sharing.meeting (map L (set lists 0 now))
      (keeps_through (map L old) (map L lists) (map L (set lists 0 now)) low sharing.meeting.keeps (step_keeps L lists 0 was now inside low None next))

  -- it has v, and the others were asked
  module _ (v : ℕ) (next : IsNextAtLeast (L (get_or lists 0 was)) low (Some v) (L now)) (after : List C) (a : Agreed)
      (e : IsAsked (map L (set lists 0 now)) (map K (set lists 0 now)) v a (map L after) (map K after)) where
    there : IsNextAtLeast (list_at (map L lists) 0) low (Some v) (list_at (map L (set lists 0 now)) 0)
    there = step_next_there L lists 0 was now inside low (Some v) next

    moved : KeepsFrom (map L lists) (map L (set lists 0 now)) low
    moved = step_keeps L lists 0 was now inside low (Some v) next

    once : AskedAtMost (map K lists) (map K after) 1
    once = step_once K lists 0 was now inside counted (map K after) e.at_most e.first

    pub others_asked : AskedAtMost (map K old) (map K after) (length (list_at (map L old) 0) + 1)
    others_asked =
        asked_in_all (map L old) (map L lists) (map L (set lists 0 now)) (map L after) (map K old) (map K lists) (map K after) from n low v ys sharing some there moved e.keeps e.same once

    middle : (x : ℕ) → v ≤ x → IsInAll (map L old) x → IsInAll (map L (set lists 0 now)) x
    middle =
        in_mid (map L old) (map L lists) (map L (set lists 0 now)) (map L after) (map K old) (map K lists) (map K after) from n low v ys sharing some there moved e.keeps e.same once

    -- some list ended
    module _ (none : (y : ℕ) → v ≤ y → IsInAll (map L (set lists 0 now)) y → ⊥) where
      no_more : (x : ℕ) → low ≤ x → IsInAll (map L old) x → ⊥
      no_more x l all = ⊎_elim
          (λ (before : x < v). omega (arith, next_least (list_at (map L lists) 0) low v (list_at (map L (set lists 0 now)) 0) x there l (sharing.meeting.keeps.kept 0 x l (all 0 some)), before))
          (λ (past : v ≤ x). none x past (middle x past all))
          (cases_lt x v)

      pub others_ended : AreInAll (map L old) from n room ys
      others_ended = shared_none (map L old) (map L lists) from n low ys sharing.meeting room fits (λ x l s all. no_more x l all)

      pub none_left : (x : ℕ) → from ≤ x → IsInAll (map L old) x → ((k : ℕ) → k < n → get_or ys k 0 < x) → IsInAll (map L after) x
      none_left x l all more =
          absurd (no_more x (not_written (map L old) (map L lists) from n low ys sharing.meeting x l all more) all)

    pub turned_next : (x : ℕ) → v < x → ((y : ℕ) → v ≤ y → y < x → IsInAll (map L (set lists 0 now)) y → ⊥)
        → IsSharing (map L old) (map K old) from n ys (map L after) (map K after) x
    turned_next =
        turn_next (map L old) (map L lists) (map L (set lists 0 now)) (map L after) (map K old) (map K lists) (map K after) from n low v ys sharing some there moved e.keeps e.same once

    pub turned_all : n < length ys → ((i : ℕ) → 1 ≤ i → i < length (map L (set lists 0 now)) → IsNumberIn (list_at (map L (set lists 0 now)) i) v)
        → IsSharing (map L old) (map K old) from (n + 1) (set ys n v) (map L after) (map K after) (v + 1)
    turned_all =
        turn_all (map L old) (map L lists) (map L (set lists 0 now)) (map L after) (map K old) (map K lists) (map K after) from n low v ys sharing some there moved e.keeps e.same once

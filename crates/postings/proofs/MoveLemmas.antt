-- How a cursor moves over the items of a sequence.
use Rattle.std.proofs.Common.{◌≡◌, ℕ, ◌<◌, ◌≤◌, Bool, List, [], ◌∷◌, true, length, get_or, drop, Some, None, sym, ap, subst, arith, ⊎_elim}
use Rattle.std.proofs.lemmas.Bool.{cases_lt}
use Rattle.std.specs.List.{All}
use Rattle.std.specs.List.Sorted.{IsNonDecreasing}
use Rattle.bit_lists.proofs.BitLaws.{counts_grow}
use Rattle.bitm_tables.specs.declared.answer.Answer.TheVariants.{Found, Absent}
use Rattle.bit_lists.specs.Bits.{bits_of}
use Rattle.bit_lists.specs.Count.{Picks}
use Rattle.elias_fano.specs.Sequence.{Reaches}
use Rattle.postings.specs.Next.{IsNextAtLeast}
use Rattle.postings.specs.Moves.{IsHere, IsMove}
use Rattle.postings.specs.Spot.{IsSpot}
use Rattle.postings.specs.declared.spot.Spot.{Spot}
use Rattle.postings.proofs.NextLemmas.{moved_some, moved_none}

-- the one of a later item stands later
pub later_one : (b : List Bool) (i j p q : ℕ) → Picks b true i p → Picks b true j q → i < j → p < q
later_one b i j p q h k less = ⊎_elim
    (λ (l : p < q). l)
    (λ (past : q ≤ p). absurd (omega (arith, counts_grow b true q p past, h.before, k.before, less)))
    (cases_lt p q)

-- the first item that reaches v is later than one that is less
pub reached_later : (xs : List ℕ) (v i j : ℕ) → IsNonDecreasing xs → i < length xs → get_or xs i 0 < v → Reaches xs v j → i < j
reached_later xs v i j rising inside less reach = ⊎_elim
    (λ (l : i < j). l)
    (λ (past : j ≤ i). absurd (omega (arith, rising j i 0 past inside, less, reach.at_least)))
    (cases_lt i j)

-- so its one stands later
pub spot_later : (xs words : List ℕ) (v : ℕ) (old new : Spot) → IsNonDecreasing xs → IsSpot xs words old → old.number < v
    → IsSpot xs words new → Reaches xs v new.at → old.one < new.one
spot_later xs words v old new rising h less k reach =
    later_one (bits_of words) old.at new.at old.one new.one h.one k.one
    (reached_later xs v old.at new.at rising h.inside (omega (arith, h.number, less)) reach)

module _ (xs words : List ℕ) (n v : ℕ) (old : Spot) (rising : IsNonDecreasing xs) (count : n ≡ length xs) where
  pub move_stays : old.at < n → v ≤ old.number → IsMove xs words n v old (Found old.number) old
  move_stays inside more = record {
    next = λ h.
        let was = h.here inside in
        subst (λ (x : ℕ). IsNextAtLeast (drop old.at xs) v (Some x) (drop old.at xs)) (sym was.number)
        (moved_some xs old.at old.at v rising (omega arith) (λ j from l. absurd (omega (arith, from, l))) was.inside (omega (arith, more, was.number)));
    here = λ h. h;
  }

  pub move_found : (new : Spot) → old.at < n → old.number < v → (IsSpot xs words old → IsSpot xs words new × Reaches xs v new.at)
      → IsMove xs words n v old (Found new.number) new
  move_found new inside less found = record {
    next = λ h.
        let was = h.here inside in
        let is = found was in
        let order : old.at < new.at = reached_later xs v old.at new.at rising was.inside (omega (arith, was.number, less)) is.1 in
        subst (λ (x : ℕ). IsNextAtLeast (drop old.at xs) v (Some x) (drop new.at xs)) (sym is.0.number)
        (moved_some xs old.at new.at v rising (omega (arith, order)) (λ j from l. is.1.before j l) is.1.inside is.1.at_least);
    here = λ h.
        let is = found (h.here inside) in
        record { order = omega (arith, is.0.inside, count); here = λ l. is.0 };
  }

  pub move_ended : (new : Spot) → new.at ≡ n → old.at < n → (IsSpot xs words old → All (λ x. x < v) xs) → IsMove xs words n v old Absent new
  move_ended new end inside none = record {
    next = λ h.
        let all = none (h.here inside) in
        subst (λ (k : ℕ). IsNextAtLeast (drop old.at xs) v None (drop k xs)) (sym end)
        (moved_none xs old.at n v rising h.order (λ j from l. all j 0 (omega (arith, l, count))) count);
    here = λ h. record { order = omega (arith, end); here = λ l. absurd (omega (arith, end, l)) };
  }

-- ---- the first spot

pub started_found : (xs words : List ℕ) (n : ℕ) (spot : Spot) → n ≡ length xs → IsSpot xs words spot → Reaches xs 0 spot.at
    → IsHere xs words n spot × (drop spot.at xs ≡ xs)
started_found xs words n spot count h reach =
    let e : spot.at ≡ 0 = ⊎_elim
    (λ (none : spot.at < 1). omega (arith, none))
    (λ (some : 1 ≤ spot.at). absurd (omega (arith, reach.before 0 (omega (arith, some)))))
    (cases_lt spot.at 1) in
    (record { order = omega (arith, e); here = λ l. h }, ap (λ (k : ℕ). drop k xs) e)

pub started_none : (xs words : List ℕ) (n : ℕ) (spot : Spot) → n ≡ length xs → spot.at ≡ n → All (λ x. x < 0) xs
    → IsHere xs words n spot × (drop spot.at xs ≡ xs)
started_none [] words n spot count e all =
    let z : spot.at ≡ 0 = omega (arith, e, count) in
    (record { order = omega (arith, e); here = λ l. absurd (omega (arith, e, l)) }, ap (λ (k : ℕ). drop k []) z)
started_none (x ∷ xs) words n spot count e all = absurd (let l : x < 0 = all 0 0 (omega arith) in omega (arith, l))

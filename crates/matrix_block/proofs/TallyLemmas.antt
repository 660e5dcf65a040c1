-- What is written into the caller's memory, one item more: numbers with their counts.
use Rattle.std.proofs.Common.{◌≡◌, ℕ, ◌+◌, ◌-◌, ◌^◌, ◌<◌, ◌≤◌, List, [], ◌∷◌, ◌++◌, length, take, drop, set, get_or, All, refl, sym, ap, ◌∙◌, subst, arith, ⊎_elim}
use Rattle.std.proofs.lemmas.Bool.{cases_lt}
use Rattle.std.proofs.lemmas.List.{append_assoc, append-nil, drop-drop, drop-set-lt, get_or_append_left, get_or_push, length-set, length-take-le, length_push, take_all, take_at, take_more_set}
use Rattle.std.proofs.lemmas.List.Elements.{All-from_get_or, All-get_or, All-nil, All-push, All-same, All-weaker}
use Rattle.std.proofs.lemmas.List.Kept.{AllPairs-from_increasing}
use Rattle.std.proofs.lemmas.Slice.Zip.{length-zip}
use Rattle.std.specs.List.{zip}
use Rattle.std.specs.List.Sorted.{IsStrictlyIncreasing}
use Rattle.matrix_levels.specs.Distinct.{coming_tallies, tallies_from, StandsBetween}
use Rattle.matrix_levels.specs.Numbers.{count_equal, count_less, IsSmallest}
use Rattle.matrix_levels.proofs.DistinctLemmas.{after, coming-first, coming-from, coming-none, stands-after, stands-from}
use Rattle.matrix_levels.proofs.lemmas.OrderLemmas.{at_most-is, count_less-grows}
use Rattle.matrix_block.specs.RangeLists.{tallies_in, AreItemsWritten, AreRisingFrom, AreTallyCounts}

pub written-none : (xs : List ℕ) → AreItemsWritten 0 xs xs
written-none xs = record { room = omega arith; len = refl; behind = refl }

pub written-more : (k x : ℕ) (old now : List ℕ) → AreItemsWritten k old now → k < length old → AreItemsWritten (k + 1) old (set now k x)
written-more k x old now w inside = record {
  room = omega (arith, inside);
  len = length-set now k x ∙ w.len;
  behind =
      drop-set-lt (k + 1) now k x (omega arith) ∙ sym (drop-drop 1 k now) ∙ ap (drop 1) w.behind ∙ drop-drop 1 k old;
}

pub rising-push : (xs : List ℕ) (x : ℕ) → IsStrictlyIncreasing xs → All (λ y. y < x) xs → IsStrictlyIncreasing (xs ++ x ∷ [])
rising-push xs x rising less k inside =
    let P : ℕ → Type 0 = λ y. y < x in
    let here : k < length xs = omega (arith, inside, length_push xs x) in
    ⊎_elim
    (λ l. omega (arith, get_or_append_left xs (x ∷ []) 0 k here, get_or_append_left xs (x ∷ []) 0 (k + 1) l, rising k l))
    (λ g. omega (
      arith,
      get_or_append_left xs (x ∷ []) 0 k here,
      get_or_push xs x 0 (k + 1) (omega (arith, g, here)),
      All-get_or P xs k 0 here less,
    ))
    (cases_lt (k + 1) (length xs))

-- of numbers that rise, all are less than x where the last one is
pub last-decides : (xs : List ℕ) (x : ℕ) → IsStrictlyIncreasing xs → get_or xs (length xs - 1) 0 < x → All (λ y. y < x) xs
last-decides xs x rising below =
    let P : ℕ → Type 0 = λ y. y < x in
    All-from_get_or P xs 0 (λ i h.
    ⊎_elim
    (λ l. omega (arith, below, AllPairs-from_increasing xs rising i (length xs - 1) 0 l (omega (arith, h))))
    (λ g. let same : i ≡ length xs - 1 = omega (arith, g, h) in subst (λ j. get_or xs j 0 < x) (sym same) below)
    (cases_lt i (length xs - 1)))

-- the first items, with one more
pub front-more : (k x : ℕ) (old now : List ℕ) → AreItemsWritten k old now → k < length old → take (k + 1) (set now k x) ≡ take k now ++ x ∷ []
front-more k x old now w inside = take_more_set now k x (omega (arith, inside, w.len))

all-more : (P : ℕ → Type 0) (k x : ℕ) (old now : List ℕ) → AreItemsWritten k old now → k < length old → All P (take k now) → P x
    → All P (take (k + 1) (set now k x))
all-more P k x old now w inside all one =
    All-same P (take (k + 1) (set now k x)) (take k now ++ x ∷ []) (front-more k x old now w inside) (All-push P (take k now) x all one)

pub rising-none : (w from : ℕ) (xs : List ℕ) → AreRisingFrom w from 0 xs xs
rising-none w from xs = record {
  narrow = record { written = written-none xs; fit = All-nil (λ x. x < 2 ^ w) };
  rising = λ k h. absurd (omega arith);
  least = All-nil (λ x. from ≤ x);
}

pub rising-more : (w from k x : ℕ) (old now : List ℕ) → AreRisingFrom w from k old now → k < length old → from ≤ x → x < 2 ^ w
    → All (λ y. y < x) (take k now) → AreRisingFrom w from (k + 1) old (set now k x)
rising-more w from k x old now r inside least fit less =
    let R : List ℕ → Type 0 = IsStrictlyIncreasing in
    record {
      narrow = record {
        written = written-more k x old now r.narrow.written inside;
        fit = all-more (λ y. y < 2 ^ w) k x old now r.narrow.written inside r.narrow.fit fit;
      };
      rising = subst R (sym (front-more k x old now r.narrow.written inside)) (rising-push (take k now) x r.rising less);
      least = all-more (λ y. from ≤ y) k x old now r.narrow.written inside r.least least;
    }

pub counts-none : (most : ℕ) (xs : List ℕ) → AreTallyCounts most 0 xs xs
counts-none most xs = record { written = written-none xs; some = All-nil (λ c. 1 ≤ c); few = All-nil (λ c. c ≤ most) }

pub counts-more : (most k c : ℕ) (old now : List ℕ) → AreTallyCounts most k old now → k < length old → 1 ≤ c → c ≤ most
    → AreTallyCounts most (k + 1) old (set now k c)
counts-more most k c old now r inside some below = record {
  written = written-more k c old now r.written inside;
  some = all-more (λ d. 1 ≤ d) k c old now r.written inside r.some some;
  few = all-more (λ d. d ≤ most) k c old now r.written inside r.few below;
}

-- ---- pairs

pub zip-push : {A B : Type 0} (us : List A) (vs : List B) (a : A) (b : B) → length us ≡ length vs
    → zip (us ++ a ∷ []) (vs ++ b ∷ []) ≡ zip us vs ++ (a, b) ∷ []
zip-push [] [] a b e = refl
zip-push [] (y ∷ vs) a b e = absurd (omega (arith, e))
zip-push (x ∷ us) [] a b e = absurd (omega (arith, e))
zip-push (x ∷ us) (y ∷ vs) a b e = ap (λ l. (x, y) ∷ l) (zip-push us vs a b (omega (arith, e)))

pub length-tallies : (numbers counts : List ℕ) (k : ℕ) → k ≤ length numbers → length counts ≡ length numbers
    → length (tallies_in numbers counts k) ≡ k
length-tallies numbers counts k inside same =
    omega (
      arith,
      length-zip (take k numbers) (take k counts),
      length-take-le k numbers inside,
      length-take-le k counts (omega (arith, inside, same)),
    )

-- ---- the distinct numbers so far

-- those that were written, and after them those to come, are all from `from` on
pub record AreSoFar (xs : List ℕ) (n from less k : ℕ) (numbers counts : List ℕ) : Type 0 where
  pub stands : StandsBetween xs n less
  pub begun : count_less xs from ≤ less
  pub passed : All (λ x. count_less xs (x + 1) ≤ less) (take k numbers)
  pub whole : tallies_in numbers counts k ++ coming_tallies xs n less ≡ tallies_from xs n from

pub so-far-none : (xs : List ℕ) (n from : ℕ) (numbers counts : List ℕ) → All (λ x. x < n) xs
    → AreSoFar xs n from (count_less xs from) 0 numbers counts
so-far-none xs n from numbers counts fit = record {
  stands = stands-from xs n from fit;
  begun = omega arith;
  passed = All-nil (λ x. count_less xs (x + 1) ≤ count_less xs from);
  whole = coming-from xs n from;
}

-- the next number goes on them
module _ (xs : List ℕ) (n from less k x c : ℕ) (numbers counts : List ℕ) (s : AreSoFar xs n from less k numbers counts)
    (is : IsSmallest xs less x) where
  above : (y : ℕ) → count_less xs (y + 1) ≤ less → y < x
  above y passed =
      ⊎_elim
      (λ l. l)
      (λ g. absurd (omega (arith, passed, is.at_most, at_most-is xs x, count_less-grows xs (x + 1) (y + 1) (omega (arith, g)))))
      (cases_lt y x)

  pub next-above : All (λ y. y < x) (take k numbers)
  next-above = All-weaker (λ y. count_less xs (y + 1) ≤ less) (λ y. y < x) above (take k numbers) s.passed

  pub next-least : from ≤ x
  next-least =
      ⊎_elim
      (λ l. absurd (omega (arith, s.begun, is.at_most, at_most-is xs x, count_less-grows xs (x + 1) from (omega (arith, l)))))
      (λ g. g)
      (cases_lt x from)

  pub so-far-more : c ≡ count_equal xs x → k < length numbers → length counts ≡ length numbers
      → AreSoFar xs n from (less + c) (k + 1) (set numbers k x) (set counts k c)
  so-far-more count inside same =
      let P : ℕ → Type 0 = λ y. count_less xs (y + 1) ≤ less in
      let Q : ℕ → Type 0 = λ y. count_less xs (y + 1) ≤ less + c in
      let front : take (k + 1) (set numbers k x) ≡ take k numbers ++ x ∷ [] = take_more_set numbers k x inside in
      let front_counts : take (k + 1) (set counts k c) ≡ take k counts ++ c ∷ [] = take_more_set counts k c (omega (arith, inside, same)) in
      let along : length (take k numbers) ≡ length (take k counts) =
      omega (arith, length-take-le k numbers (omega (arith, inside)), length-take-le k counts (omega (arith, inside, same))) in
      let pairs : tallies_in (set numbers k x) (set counts k c) (k + 1) ≡ tallies_in numbers counts k ++ (x, c) ∷ [] =
      ap (λ l. zip l (take (k + 1) (set counts k c))) front ∙ ap (zip (take k numbers ++ x ∷ [])) front_counts
      ∙ zip-push (take k numbers) (take k counts) x c along in
      record {
        stands = stands-after xs n less x c s.stands is count;
        begun = omega (arith, s.begun);
        passed =
            All-same Q (take (k + 1) (set numbers k x)) (take k numbers ++ x ∷ []) front
            (All-push Q (take k numbers) x (All-weaker P Q (λ y h. omega (arith, h)) (take k numbers) s.passed)
            (omega (arith, after xs n less x c s.stands is count)));
        whole =
            ap (λ l. l ++ coming_tallies xs n (less + c)) pairs
            ∙ append_assoc (tallies_in numbers counts k) ((x, c) ∷ []) (coming_tallies xs n (less + c))
            ∙ ap (λ l. tallies_in numbers counts k ++ l) (sym (coming-first xs n less x c s.stands is count)) ∙ s.whole;
      }

-- none is to come, or there is no more room
module _ (xs : List ℕ) (n from less k : ℕ) (numbers counts : List ℕ) (s : AreSoFar xs n from less k numbers counts)
    (inside : k ≤ length numbers) (same : length counts ≡ length numbers) where
  pub so-far-all : length xs ≤ less → tallies_in numbers counts k ≡ take (length numbers) (tallies_from xs n from)
  so-far-all past =
      let all : tallies_in numbers counts k ≡ tallies_from xs n from =
      sym (append-nil (tallies_in numbers counts k)) ∙ ap (λ l. tallies_in numbers counts k ++ l) (sym (coming-none xs n less past)) ∙ s.whole in
      all ∙ sym (take_all (length numbers) (tallies_from xs n from)
      (omega (arith, ap length all, length-tallies numbers counts k inside same, inside)))

  pub so-far-full : length numbers ≤ k → tallies_in numbers counts k ≡ take (length numbers) (tallies_from xs n from)
  so-far-full full =
      sym (ap (take (length numbers)) (sym s.whole)
      ∙ take_at (tallies_in numbers counts k) (coming_tallies xs n less) (length numbers)
      (omega (arith, length-tallies numbers counts k inside same, inside, full)))

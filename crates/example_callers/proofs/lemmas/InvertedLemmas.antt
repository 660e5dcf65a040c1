-- The numbers that two lists share: one position further in the first.
use Rattle.std.proofs.Common.{◌≡◌, ℕ, ◌+◌, ◌<◌, ◌≤◌, List, [], ◌∷◌, ◌++◌, length, get_or, sym, ap, ◌∙◌, ⊎_elim, subst, arith}
use Rattle.std.proofs.lemmas.Bool.{cases_lt}
use Rattle.std.proofs.lemmas.List.{get_or_default}
use Rattle.std.proofs.lemmas.List.Elements.{Contains-append_left, Contains-append_right, Contains-append_cases}
use Rattle.std.specs.List.{Contains}
use Rattle.std.specs.List.Sorted.{IsNonDecreasing}
use Rattle.example_callers.specs.Inverted.{AreCommon, AreCommonTo}

-- an item stands in its list
pub stands : (xs : List ℕ) (k : ℕ) → k < length xs → Contains xs (get_or xs k 0)
stands xs k inside = (k, inside, get_or_default xs k (get_or xs k 0) 0 inside)

pub AreCommonTo-none : (xs ys : List ℕ) → AreCommonTo xs ys 0 []
AreCommonTo-none xs ys = record {
  bound = omega arith;
  both = λ x c. absurd (let l : c.0 < 0 = c.1 in omega arith);
  all = λ k less. absurd (omega arith);
}

pub AreCommonTo-all : (xs ys : List ℕ) (at : ℕ) (found : List ℕ) → AreCommonTo xs ys at found → length xs ≤ at → AreCommon xs ys found
AreCommonTo-all xs ys at found h past x = (h.both x, to)
  where
    to : Contains xs x × Contains ys x → Contains found x
    to c =
        let k = c.0.0 in
        let is : get_or xs k 0 ≡ x = sym (get_or_default xs k x 0 c.0.1) ∙ c.0.2 in
        let P : ℕ → Type 0 = Contains found in
        let Q : ℕ → Type 0 = Contains ys in
        let less : k < at = omega (arith, c.0.1) in
        subst P is (h.all k less (subst Q (sym is) c.1))

-- the next item stands in both
pub AreCommonTo-more : (xs ys : List ℕ) (at : ℕ) (found : List ℕ) → AreCommonTo xs ys at found → at < length xs
    → Contains ys (get_or xs at 0) → AreCommonTo xs ys (at + 1) (found ++ get_or xs at 0 ∷ [])
AreCommonTo-more xs ys at found h inside there = record {
  bound = omega arith;
  both = λ x c. ⊎_elim (h.both x) (λ last. same x last) (Contains-append_cases found (get_or xs at 0 ∷ []) x c);
  all = λ k less shared. ⊎_elim
      (λ before. Contains-append_left found (get_or xs at 0 ∷ []) (get_or xs k 0) (h.all k before shared))
      (λ from.
      let P : ℕ → Type 0 = λ j. Contains (found ++ get_or xs at 0 ∷ []) (get_or xs j 0) in
      let e : at ≡ k = omega arith in
      subst P e (Contains-append_right found (get_or xs at 0 ∷ []) (get_or xs at 0) (stands (get_or xs at 0 ∷ []) 0 (omega arith))))
      (cases_lt k at);
}
  where
    same : (x : ℕ) → Contains (get_or xs at 0 ∷ []) x → Contains xs x × Contains ys x
    same x c =
        let first : c.0 ≡ 0 = let l : c.0 < 1 = c.1 in omega arith in
        let is : get_or xs at 0 ≡ x = sym (ap (λ j. get_or (get_or xs at 0 ∷ []) j x) first) ∙ c.2 in
        let P : ℕ → Type 0 = λ y. Contains xs y × Contains ys y in
        subst P is (stands xs at inside, there)

-- the next items, up to a position, do not stand in ys
pub AreCommonTo-past : (xs ys : List ℕ) (at to : ℕ) (found : List ℕ) → AreCommonTo xs ys at found → to ≤ length xs
    → ((k : ℕ) → at ≤ k → k < to → Contains ys (get_or xs k 0) → ⊥) → AreCommonTo xs ys to found
AreCommonTo-past xs ys at to found h bound none = record {
  bound = bound;
  both = h.both;
  all = λ k less shared. ⊎_elim (λ before. h.all k before shared) (λ from. absurd (none k from less shared)) (cases_lt k at);
}

-- a number of ys below v stands before the position from which on they are at least v
pub none-between : (xs ys : List ℕ) (at there k : ℕ) → IsNonDecreasing xs → IsNonDecreasing ys → at ≤ k → k < length xs
    → ((j : ℕ) → j < there → get_or ys j 0 < get_or xs at 0) → (there < length ys → get_or xs k 0 < get_or ys there 0)
    → Contains ys (get_or xs k 0) → ⊥
none-between xs ys at there k xs_rise ys_rise from inside less next c =
    let is : get_or ys c.0 0 ≡ get_or xs k 0 = sym (get_or_default ys c.0 (get_or xs k 0) 0 c.1) ∙ c.2 in
    ⊎_elim
    (λ before. omega (arith, less c.0 before, is, xs_rise at k 0 from inside))
    (λ past.
    let within : there < length ys = omega (arith, c.1) in
    omega (arith, next within, is, ys_rise there c.0 0 past c.1))
    (cases_lt c.0 there)

-- ---- a turn of the loop, at the number v of xs, of which ys has the first that is no less at there

-- nothing is shared up to the position from which on numbers are at least the one there
pub passed-to : (xs ys found : List ℕ) (at there to v : ℕ) → IsNonDecreasing xs → IsNonDecreasing ys → AreCommonTo xs ys at found
    → v ≡ get_or xs at 0 → ((j : ℕ) → j < there → get_or ys j 0 < v) → to ≤ length xs
    → ((k : ℕ) → k < to → there < length ys → get_or xs k 0 < get_or ys there 0) → AreCommonTo xs ys to found
passed-to xs ys found at there to v xs_rise ys_rise was is less bound next =
    AreCommonTo-past xs ys at to found was bound
    (λ k from before. none-between xs ys at there k xs_rise ys_rise from (omega arith)
    (λ j l. let below : get_or ys j 0 < v = less j l in omega arith) (next k before))

-- the number stands in both
pub shared-at : (xs ys found more : List ℕ) (at there v : ℕ) → AreCommonTo xs ys at found → v ≡ get_or xs at 0 → at < length xs
    → there < length ys → get_or ys there 0 ≡ v → more ≡ found ++ v ∷ [] → AreCommonTo xs ys (at + 1) more
shared-at xs ys found more at there v was is inside within same pushed =
    let P : ℕ → Type 0 = Contains ys in
    let Q : List ℕ → Type 0 = λ l. AreCommonTo xs ys (at + 1) l in
    subst Q (sym (pushed ∙ ap (λ n. found ++ n ∷ []) is))
    (AreCommonTo-more xs ys at found was inside (subst P (same ∙ is) (stands ys there within)))

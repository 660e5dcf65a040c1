-- A key that is left after all levels fell together with another one at each.
use Rattle.std.proofs.Common.{◌≡◌, ℕ, zero, suc, ◌+◌, ◌*◌, ◌<◌, ◌≤◌, Bool, true, false, not, cond, List, [], ◌∷◌, length, Some, refl, subst, sym, ap, ◌∙◌, arith, eqb}
use Rattle.std.proofs.lemmas.Bool.{eq-eqb, not-true, eqb-false}
use Rattle.std.specs.List.{count_by, filter, slice_get, Contains}
use Rattle.std.proofs.lemmas.Option.{slice_get_within, get_or_from_slice_get, slice_get-get_or}
use Rattle.bit_lists.specs.Bits.{item, bits_of}
use Rattle.std.specs.Prelude.{Result, Ok, Err, IfErr}
use Rattle.perfect_hash.specs.Collisions.{CollideBySize, CollideOfSize}
use Rattle.perfect_hash.specs.Positions.{position_in}
use Rattle.perfect_hash.specs.declared.levels.error.BuildError.{BuildError}
use Rattle.perfect_hash.specs.declared.levels.error.BuildError.TheVariants.{KeysCollide, TooLarge, OutOfMemory}
use Rattle.perfect_hash.specs.Levels.{hits, AreSized, LeadTo, left_of, Leave, FallsTogether, Collide}
use Rattle.perfect_hash.proofs.lemmas.CountingLemmas.{count_by-cons, counted}
use Rattle.perfect_hash.proofs.lemmas.LevelLemmas.{FallsInside}

-- an item of a list
abbrev pub Has : {K : Type 0} → List K → K → Type 0
Has xs k = (j : ℕ) × (slice_get xs j ≡ Some k)

kept-step : {K : Type 0} (q : K → Bool) (x : K) (xs : List K) (k : K) (b : Bool) (j : ℕ) → q x ≡ b
    → slice_get (filter q (x ∷ xs)) j ≡ Some k
    → ((i : ℕ) → slice_get (filter q xs) i ≡ Some k → (q k ≡ true) × Has xs k) → (q k ≡ true) × Has (x ∷ xs) k
kept-step {K} q x xs k true zero e here rest =
    let all : filter q (x ∷ xs) ≡ x ∷ filter q xs = ap (λ (c : Bool). cond c (x ∷ filter q xs) (filter q xs)) e in
    let same : Some x ≡ Some k = ap (λ (ys : List K). slice_get ys 0) (sym all) ∙ here in
    let is : x ≡ k = cc in
    (ap q (sym is) ∙ e, (zero, same))
kept-step {K} q x xs k true (suc j) e here rest =
    let all : filter q (x ∷ xs) ≡ x ∷ filter q xs = ap (λ (c : Bool). cond c (x ∷ filter q xs) (filter q xs)) e in
    let later = rest j (ap (λ (ys : List K). slice_get ys (suc j)) (sym all) ∙ here) in
    (later.0, (suc later.1.0, later.1.1))
kept-step {K} q x xs k false j e here rest =
    let all : filter q (x ∷ xs) ≡ filter q xs = ap (λ (c : Bool). cond c (x ∷ filter q xs) (filter q xs)) e in
    let later = rest j (ap (λ (ys : List K). slice_get ys j) (sym all) ∙ here) in
    (later.0, (suc later.1.0, later.1.1))

-- an item that was kept passes, and stood in the list
pub in_filter : {K : Type 0} (q : K → Bool) (xs : List K) (k : K) (j : ℕ) → slice_get (filter q xs) j ≡ Some k → (q k ≡ true) × Has xs k
in_filter q [] k j here = cc
in_filter q (x ∷ xs) k j here = kept-step q x xs k (q x) j refl here (λ i h. in_filter q xs k i h)

-- no more items pass among those that were kept
fewer : {K : Type 0} (q t : K → Bool) (xs : List K) → count_by t (filter q xs) ≤ count_by t xs
fewer q t [] = omega arith
fewer q t (x ∷ xs) = step (q x) refl (fewer q t xs)
  where
    step : (b : Bool) → q x ≡ b → count_by t (filter q xs) ≤ count_by t xs → count_by t (filter q (x ∷ xs)) ≤ count_by t (x ∷ xs)
    step true e rest =
        let all : count_by t (filter q (x ∷ xs)) ≡ count_by t (x ∷ filter q xs) = ap (λ (c : Bool). count_by t (cond c (x ∷ filter q xs) (filter q xs))) e in
        omega (arith, all, rest, count_by-cons t x xs, count_by-cons t x (filter q xs))
    step false e rest =
        let all : count_by t (filter q (x ∷ xs)) ≡ count_by t (filter q xs) = ap (λ (c : Bool). count_by t (cond c (x ∷ filter q xs) (filter q xs))) e in
        omega (arith, all, rest, count_by-cons t x xs)

-- what is left was there
pub left_was_there : {K : Type 0} (fall : K → ℕ → ℕ → ℕ) (xs : List K) (b : List Bool) (level begin : ℕ) (sizes : List ℕ) (left : List K) (k : K)
    → LeadTo fall xs b level begin sizes left → Has left k → Has xs k
left_was_there {K} fall xs b level begin [] left k lead has = (has.0, ap (λ (ys : List K). slice_get ys has.0) lead ∙ has.1)
left_was_there fall xs b level begin (w ∷ sizes) left k lead has =
    let there = left_was_there fall (left_of fall xs b level begin w) b (level + 1) (begin + 64 * w) sizes left k lead.2 has in
    (in_filter (λ x. not (item b (begin + fall x level w))) xs k there.0 there.1).1

-- where a key is counted and not alone, there are two
two : (n : ℕ) → 1 ≤ n → eqb n 1 ≡ false → 2 ≤ n
two n some other = more n some (eqb-false n 1 other)
  where
    more : (m : ℕ) → 1 ≤ m → (m ≡ 1 → ⊥) → 2 ≤ m
    more m low apart = omega arith

pub falls_together : {K : Type 0} (fall : K → ℕ → ℕ → ℕ) (falls : FallsInside fall) (keys xs : List K) (b : List Bool) (level begin : ℕ) (sizes : List ℕ) (left : List K) (k : K)
    → ((t : K → Bool) → count_by t xs ≤ count_by t keys)
    → LeadTo fall xs b level begin sizes left → Has left k → FallsTogether fall keys level sizes k
falls_together fall falls keys xs b level begin [] left k few lead has = tt
falls_together {K} fall falls keys xs b level begin (w ∷ sizes) left k few lead has = (
  omega (arith, here, few (λ x. eqb (fall x level w) (fall k level w))),
  falls_together fall falls keys (left_of fall xs b level begin w) b (level + 1) (begin + 64 * w) sizes left k
      (λ t. omega (arith, fewer (λ x. not (item b (begin + fall x level w))) t xs, few t)) lead.2 has,
)
  where
    stays : (not (item b (begin + fall k level w)) ≡ true) × Has xs k
    stays =
        let there = left_was_there fall (left_of fall xs b level begin w) b (level + 1) (begin + 64 * w) sizes left k lead.2 has in
        in_filter (λ x. not (item b (begin + fall x level w))) xs k there.0 there.1

    here : 2 ≤ count_by (λ x. eqb (fall x level w) (fall k level w)) xs
    here =
        two (hits fall xs level w (fall k level w))
        (counted (λ x. eqb (fall x level w) (fall k level w)) xs stays.1.0 k stays.1.1
        (eq-eqb (fall k level w) (fall k level w) refl))
        (sym (lead.1 (fall k level w) (falls k level w lead.0))
        ∙ not-true (item b (begin + fall k level w)) stays.0)

-- where keys are left after all levels, they collide
pub collide : {K : Type 0} (fall : K → ℕ → ℕ → ℕ) (falls : FallsInside fall) (keys : List K) (sizes words : List ℕ) (left : List K)
    (count : ℕ) → Leave fall keys sizes words left → length sizes ≡ 256 → length left ≡ count → 0 < count → Collide fall keys count
collide {K} fall falls keys sizes words left count h levels counted some = record {
  sizes = sizes;
  words = words;
  left = left;
  levels = levels;
  leave = h;
  counted = counted;
  some = some;
  together = λ k in_left. one k (in_left.0, slice_get-get_or left in_left.0 k in_left.1 ∙ ap Some in_left.2);
}
  where
    one : (k : K) → Has left k → Contains keys k × FallsTogether fall keys 0 sizes k
    one k has =
        let was = left_was_there fall keys (bits_of words) 0 0 sizes left k h.lead has in (
          (was.0, slice_get_within keys was.0 k was.1, get_or_from_slice_get keys was.0 k k was.1),
          falls_together fall falls keys keys (bits_of words) 0 0 sizes left k (λ t. omega arith) h.lead has,
        )

-- and what holds of the levels' words holds of those that they collide in
pub collide_with : {K : Type 0} (H : List ℕ → Type 0) (fall : K → ℕ → ℕ → ℕ) (falls : FallsInside fall) (keys : List K) (sizes words : List ℕ) (left : List K)
    (count : ℕ) → Leave fall keys sizes words left → length sizes ≡ 256 → length left ≡ count → 0 < count → H words
    → (c : Collide fall keys count) × (c.sizes ≡ sizes) × H c.words
unfolding collide
collide_with H fall falls keys sizes words left count h levels some_left some holds =
    (collide fall falls keys sizes words left count h levels some_left some, refl, holds)

-- where hashes alone say where they fall, nothing else does
error_by_hash : (P : Type 0) (taken : ℕ → ℕ) (error : BuildError) (hashes : List ℕ) → CollideBySize {P = P} taken (λ _ _. position_in) error hashes
    → CollideOfSize taken error hashes
error_by_hash P taken (KeysCollide count) hashes (p, sizes, c, same, sized) =
    let S : List ℕ → Type 0 = λ s. AreSized taken position_in hashes (bits_of c.words) 0 0 s in
    (c, subst S (sym same) sized)
error_by_hash P taken TooLarge hashes h = tt
error_by_hash P taken OutOfMemory hashes h = tt

pub collides_by_hash : {A E : Type 0} (P : Type 0) (error_of : E → BuildError) (taken : ℕ → ℕ) (result : Result A E) (hashes : List ℕ)
    → IfErr result (λ e. CollideBySize {P = P} taken (λ _ _. position_in) (error_of e) hashes)
    → IfErr result (λ e. CollideOfSize taken (error_of e) hashes)
collides_by_hash P error_of taken (Ok made) hashes h = tt
collides_by_hash P error_of taken (Err e) hashes h = error_by_hash P taken (error_of e) hashes h

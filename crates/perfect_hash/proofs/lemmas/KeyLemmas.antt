-- What is said of hashes, said of keys.
use Rattle.std.proofs.Common.{◌≡◌, ℕ, zero, suc, ◌<◌, ◌≤◌, List, [], ◌∷◌, length, Option, Some, refl, sym, ap, ◌∙◌, subst, arith}
use Rattle.std.proofs.lemmas.List.{length-map, get_or-map}
use Rattle.std.proofs.lemmas.Option.{slice_get-map, slice_get_within}
use Rattle.std.specs.List.{slice_get}
use Rattle.std.specs.Option.{IfSome, IsSome, option_map}
use Rattle.std.specs.Prelude.{map}
use Rattle.bit_lists.specs.Bits.{bits_of, IsShort}
use Rattle.perfect_hash.specs.Levels.{Leave}
use Rattle.perfect_hash.specs.Numbers.{AreLevels, number_in}
use Rattle.perfect_hash.specs.Perfect.{IsMinimalPerfect}
use Rattle.perfect_hash.proofs.lemmas.BuildLemmas.{are_sizes, perfect}
use Rattle.perfect_hash.proofs.lemmas.LevelLemmas.{FallsInside}

-- a key at a position that is inside
pub some_at : {K : Type 0} (keys : List K) (i : ℕ) → i < length keys → (k : K) × (slice_get keys i ≡ Some k)
some_at [] i inside = absurd (omega (arith, inside))
some_at (x ∷ xs) zero inside = (x, refl)
some_at (x ∷ xs) (suc i) inside = some_at xs i (omega (arith, inside))

-- the hash of a key that stands somewhere
pub mapped : {K : Type 0} (hash : K → ℕ) (keys : List K) (i : ℕ) (k : K) → slice_get keys i ≡ Some k
    → slice_get (map hash keys) i ≡ Some (hash k)
mapped hash keys i k here = slice_get-map hash keys i ∙ ap (option_map hash) here

-- a numbering of the hashes is one of the keys
pub perfect_keys : {K : Type 0} (hash : K → ℕ) (number : ℕ → Option ℕ) (keys : List K) → IsMinimalPerfect number (map hash keys)
    → IsMinimalPerfect (λ k. number (hash k)) keys
perfect_keys {K} hash number keys h = record {
  below = λ k. subst (λ (n : ℕ). IfSome (number (hash k)) (λ v. v < n)) (length-map keys hash) (h.below (hash k));
  some = λ i d inside.
      subst (λ (x : ℕ). IsSome (number x)) (get_or-map hash keys i d (hash d) inside)
      (h.some i (hash d) (omega (arith, inside, length-map keys hash)));
  apart = λ i j k l at_i at_j same. h.apart i j (hash k) (hash l) (mapped hash keys i k at_i) (mapped hash keys j l at_j) same;
  onto = λ v less. of_key v (h.onto v (omega (arith, less, length-map keys hash)));
}
  where
    of_key : (v : ℕ) → (i : ℕ) × (x : ℕ) × (slice_get (map hash keys) i ≡ Some x) × (number x ≡ Some v)
        → (i : ℕ) × (k : K) × (slice_get keys i ≡ Some k) × (number (hash k) ≡ Some v)
    of_key v found =
        let i = found.0 in
        let x = found.1 in
        let k = some_at keys i (omega (arith, slice_get_within (map hash keys) i x found.2, length-map keys hash)) in
        let same : Some (hash k.0) ≡ Some x = sym (mapped hash keys i k.0 k.1) ∙ found.2 in
        let is : hash k.0 ≡ x = cc in
        (i, k.0, k.1, ap number is ∙ found.3)

-- levels that leave no hash of the keys number these
pub are_levels : {K : Type 0} (fall : ℕ → ℕ → ℕ → ℕ) → FallsInside fall → (hash : K → ℕ) (keys : List K) (hashes sizes words : List ℕ) → hashes ≡ map hash keys
    → Leave fall hashes sizes words [] → length sizes ≤ 256 → IsShort words → AreLevels fall hash keys sizes words
are_levels {K} fall falls hash keys hashes sizes words is leave few short = record {
  perfect = perfect_keys hash (number_in fall sizes (bits_of words)) keys
      (subst (λ (hs : List ℕ). IsMinimalPerfect (number_in fall sizes (bits_of words)) hs) is (perfect fall falls hashes sizes words leave));
  sizes_are = are_sizes fall hashes sizes words leave few short;
  short = short;
}

-- Keys that stand at their numbers have a number of their own each.
use Rattle.std.proofs.Common.{◌≡◌, ℕ, ◌+◌, ◌*◌, ◌<◌, Bool, true, false, cond, List, [], ◌∷◌, length, get_or, Option, Some, None, refl, sym, ap, ◌∙◌, subst, arith}
use Rattle.std.proofs.lemmas.Option.{slice_get_within, slice_get-get_or, get_or_from_slice_get}
use Rattle.std.specs.List.{slice_get, slice_index}
use Rattle.std.specs.Option.{option_map, IfSome, IsSome}
use Rattle.bit_lists.specs.Bits.{bits_of, item}
use Rattle.bit_lists.specs.Count.{ones_before, ones_of}
use Rattle.perfect_hash.specs.Levels.{position_from}
use Rattle.perfect_hash.proofs.lemmas.GetLemmas.{one_counted}
use Rattle.perfect_hash.specs.Numbers.{number_by}
use Rattle.perfect_hash.specs.Perfect.{IsMinimalPerfect}
use Rattle.perfect_hash.specs.Positions.{position_in}
use Rattle.hash_block.specs.Dictionary.{added, number_of_key, DictionaryParts, IsDictionaryIn}
use Rattle.hash_block.specs.Numbered.{NumberKeys}

-- a hash falls on a one, where it falls on any
one_here : (b : List Bool) (x : Bool) (at : ℕ) (later : Option ℕ) → item b at ≡ x → IfSome later (λ p. item b p ≡ true)
    → IfSome (cond x (Some at) later) (λ p. item b p ≡ true)
one_here b true at later one h = one
one_here b false at later one h = h

position_one : (fall : ℕ → ℕ → ℕ) (b : List Bool) (level begin : ℕ) (sizes : List ℕ)
    → IfSome (position_from fall b level begin sizes) (λ p. item b p ≡ true)
position_one fall b level begin [] = tt
position_one fall b level begin (w ∷ sizes) =
    one_here b (item b (begin + fall level w)) (begin + fall level w) (position_from fall b (level + 1) (begin + 64 * w) sizes) refl
    (position_one fall b (level + 1) (begin + 64 * w) sizes)

counted : (b : List Bool) (o : Option ℕ) → IfSome o (λ p. item b p ≡ true) → IfSome (option_map (ones_before b) o) (λ v. v < ones_of b)
counted b None h = tt
counted b (Some p) h = one_counted b p h

-- a number is below the count of ones
pub number_below : (sizes : List ℕ) (b : List Bool) (hash : ℕ) → IfSome (number_by sizes b hash) (λ v. v < ones_of b)
number_below sizes b hash = counted b (position_from (position_in hash) b 0 0 sizes) (position_one (position_in hash) b 0 0 sizes)

-- where each key stands at its number, each has one of its own
pub own_perfect : (number : ℕ → Option ℕ) (keys : List ℕ) → ((k : ℕ) → IfSome (number k) (λ v. v < length keys))
    → ((i : ℕ) → i < length keys → number (slice_index keys i) ≡ Some i) → IsMinimalPerfect number keys
own_perfect number keys bounded own = record {
  below = bounded;
  some = λ i d inside. subst (λ (o : Option ℕ). IsSome o) (sym (ap number (d_is i d inside) ∙ own i inside)) refl;
  apart = λ i j k l at_i at_j same. one_number i j (sym (number_at i k at_i) ∙ same ∙ number_at j l at_j);
  onto = λ v inside. (v, slice_index keys v, slice_get-get_or keys v 0 inside, own v inside);
}
  where
    d_is : (i d : ℕ) → i < length keys → get_or keys i d ≡ slice_index keys i
    d_is i d inside = sym (get_or_from_slice_get keys i (get_or keys i d) 0 (slice_get-get_or keys i d inside))

    number_at : (i k : ℕ) → slice_get keys i ≡ Some k → number k ≡ Some i
    number_at i k at = ap number (sym (get_or_from_slice_get keys i k 0 at)) ∙ own i (slice_get_within keys i k at)

    one_number : (v w : ℕ) → Some v ≡ Some w → v ≡ w
    one_number v w same = cc

-- the parts of a dictionary number its keys
pub numbers_keys : (parts : DictionaryParts) → length parts.keys ≡ parts.hash.keys → IsDictionaryIn parts
    → NumberKeys parts.hash.lists.words parts.hash.sizes parts.hash.seed parts.keys
numbers_keys parts len is = record {
  perfect = own_perfect (number_of_key parts.hash) parts.keys (λ k. bounded (number_of_key parts.hash k)
      (number_below parts.hash.sizes (bits_of parts.hash.lists.words) (added parts.hash.seed k))) is.own;
  ones = is.hash.ones ∙ sym len;
}
  where
    bounded : (o : Option ℕ) → IfSome o (λ v. v < ones_of (bits_of parts.hash.lists.words)) → IfSome o (λ v. v < length parts.keys)
    bounded None h = tt
    bounded (Some v) h = omega (arith, h, is.hash.ones, len)

-- what holds of the parts of a hash and keys holds of equal ones
pub moved : (P : List ℕ → List ℕ → ℕ → List ℕ → Type 0) (words words' sizes sizes' : List ℕ) (seed seed' : ℕ) (keys keys' : List ℕ) → words ≡ words'
    → sizes ≡ sizes' → seed ≡ seed' → keys ≡ keys' → P words sizes seed keys → P words' sizes' seed' keys'
moved P words words' sizes sizes' seed seed' keys keys' w s e k is =
    subst (λ (x : List ℕ). P words' sizes' seed' x) k
    (subst (λ (x : ℕ). P words' sizes' x keys) e
    (subst (λ (x : List ℕ). P words' x seed keys) s
    (subst (λ (x : List ℕ). P x sizes seed keys) w is)))

-- numbers by equal bits, sizes and hashers
pub renumbered : (P : (ℕ → Option ℕ) → Type 0) (bits bits' : List Bool) (sizes sizes' : List ℕ) (seed seed' : ℕ) → bits ≡ bits' → sizes ≡ sizes'
    → seed ≡ seed' → P (λ key. number_by sizes bits (added seed key)) → P (λ key. number_by sizes' bits' (added seed' key))
renumbered P bits bits' sizes sizes' seed seed' b s e is =
    subst (λ (x : ℕ). P (λ key. number_by sizes' bits' (added x key))) e
    (subst (λ (x : List ℕ). P (λ key. number_by x bits' (added seed key))) s
    (subst (λ (x : List Bool). P (λ key. number_by sizes x (added seed key))) b is))

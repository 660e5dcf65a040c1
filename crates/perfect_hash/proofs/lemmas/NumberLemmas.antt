-- All levels: each number below the count of keys is that of one key.
use Rattle.std.proofs.Common.{◌≡◌, ℕ, ◌+◌, ◌*◌, ◌<◌, ◌≤◌, Bool, true, false, not, ◌&&◌, cond, List, [], ◌∷◌, length, Option, Some, None, refl, sym, ap, ◌∙◌, ⊎_elim, arith, eqb}
use Rattle.std.proofs.lemmas.Bool.{cases_lt, ne_eqb}
use Rattle.std.proofs.lemmas.List.Sums.{sum_by-cons}
use Rattle.std.proofs.lemmas.List.Elements.{All-head, All-tail}
use Rattle.std.specs.List.{All, count_by, sum}
use Rattle.std.specs.Option.{option_map, IfSome}
use Rattle.bit_lists.specs.Bits.{item}
use Rattle.bit_lists.specs.Count.{ones_before}
use Rattle.bit_lists.proofs.BitLaws.{counts_grow}
use Rattle.perfect_hash.specs.Levels.{IsLevel, LeadTo, left_of, position_from}
use Rattle.perfect_hash.specs.Perfect.{is_number}
use Rattle.perfect_hash.proofs.lemmas.CountingLemmas.{count_by-agree, count_by-filter}
use Rattle.perfect_hash.proofs.lemmas.LevelLemmas.{FallsInside, one_more_after, level_once, level_left}

-- the first word and those of the other levels
pub sum-first : (w : ℕ) (sizes : List ℕ) → sum (w ∷ sizes) ≡ w + sum sizes
sum-first w sizes = sum_by-cons (λ x. x) w sizes

-- a position that is not before a later level is not before this one
no_less : (low high : ℕ) (o : Option ℕ) → low ≤ high → IfSome o (λ p. high ≤ p) → IfSome o (λ p. low ≤ p)
no_less low high None order h = tt
no_less low high (Some p) order h = omega arith

first_or_later : (x : Bool) (begin at high : ℕ) (later : Option ℕ) → begin ≤ at → begin ≤ high → IfSome later (λ p. high ≤ p)
    → IfSome (cond x (Some at) later) (λ p. begin ≤ p)
first_or_later true begin at high later here order h = here
first_or_later false begin at high later here order h = no_less begin high later order h

-- a key's position is not before the levels
pub position_from-ge : (fall : ℕ → ℕ → ℕ) (b : List Bool) (level begin : ℕ) (sizes : List ℕ)
    → IfSome (position_from fall b level begin sizes) (λ p. begin ≤ p)
position_from-ge fall b level begin [] = tt
position_from-ge fall b level begin (w ∷ sizes) =
    first_or_later (item b (begin + fall level w)) begin (begin + fall level w) (begin + 64 * w)
    (position_from fall b (level + 1) (begin + 64 * w) sizes) (omega arith) (omega arith)
    (position_from-ge fall b (level + 1) (begin + 64 * w) sizes)

-- p is that of a one before the end
abbrev pub IsOneBefore : List Bool → ℕ → ℕ → Type 0
IsOneBefore b end p = (item b p ≡ true) × (p < end)

first_one : (b : List Bool) (x : Bool) (at end : ℕ) (later : Option ℕ) → item b at ≡ x → at < end → IfSome later (IsOneBefore b end)
    → IfSome (cond x (Some at) later) (IsOneBefore b end)
first_one b true at end later one within h = (one, within)
first_one b false at end later one within h = h

-- a key's position is that of a one of the levels
pub position_from-one : (fall : ℕ → ℕ → ℕ) (falls : (level words : ℕ) → 0 < words → fall level words < 64 * words) (b : List Bool) (level begin end : ℕ) (sizes : List ℕ) → begin + 64 * sum sizes ≡ end
    → All (λ size. 0 < size) sizes → IfSome (position_from fall b level begin sizes) (IsOneBefore b end)
position_from-one fall falls b level begin end [] is some = tt
position_from-one fall falls b level begin end (w ∷ sizes) is some =
    first_one b (item b (begin + fall level w)) (begin + fall level w) end
    (position_from fall b (level + 1) (begin + 64 * w) sizes) refl
    (omega (arith, sum-first w sizes, falls level w (All-head (λ size. 0 < size) w sizes some)))
    (position_from-one fall falls b (level + 1) (begin + 64 * w) end sizes (omega (arith, sum-first w sizes))
    (All-tail (λ size. 0 < size) w sizes some))

-- a number that no later level gives
taken_here : (f : ℕ → ℕ) (x : Bool) (p v : ℕ) (later : Option ℕ) → (x ≡ false → is_number v (option_map f later) ≡ false)
    → is_number v (option_map f (cond x (Some p) later)) ≡ (x && eqb (f p) v)
taken_here f true p v later h = refl
taken_here f false p v later h = h refl

-- a number that this level does not give
taken_later : (f : ℕ → ℕ) (x : Bool) (p v : ℕ) (later : Option ℕ) → (x ≡ true → eqb (f p) v ≡ false)
    → is_number v (option_map f (cond x (Some p) later)) ≡ (not x && is_number v (option_map f later))
taken_later f true p v later h = h refl
taken_later f false p v later h = refl

-- the ones of the levels are as many as the keys, and each is that of one key
pub record IsNumbered {K : Type 0} (fall : K → ℕ → ℕ → ℕ) (keys : List K) (b : List Bool) (level begin : ℕ) (sizes : List ℕ) : Type 0 where
  pub total : ones_before b (begin + 64 * sum sizes) ≡ ones_before b begin + length keys
  pub once : (v : ℕ) → ones_before b begin ≤ v → v < ones_before b begin + length keys
      → count_by (λ k. is_number v (option_map (ones_before b) (position_from (fall k) b level begin sizes))) keys ≡ 1

-- one level before levels that are numbered
numbered_more : {K : Type 0} (fall : K → ℕ → ℕ → ℕ) (falls : FallsInside fall) (keys : List K) (b : List Bool) (level begin w : ℕ) (sizes : List ℕ)
    → begin + 64 * sum (w ∷ sizes) ≤ length b → 0 < w → IsLevel fall keys b level begin w
    → IsNumbered fall (left_of fall keys b level begin w) b (level + 1) (begin + 64 * w) sizes
    → IsNumbered fall keys b level begin (w ∷ sizes)
numbered_more {K} fall falls keys b level begin w sizes inside some is after = record {
  total = omega (arith, ap (ones_before b) end, after.total, level_left fall falls b level begin w keys here some is);
  once = λ v low high.
      ⊎_elim
      (λ less. count_by-agree (number v) (λ k. item b (position k) && eqb (ones_before b (position k)) v)
      (λ k. taken_here (ones_before b) (item b (position k)) (position k) v (later k)
      (λ _. not_later v less (later k) (position_from-ge (fall k) b (level + 1) (begin + 64 * w) sizes)))
      keys ∙ level_once fall falls b level begin w keys v here is low less some)
      (λ more. count_by-agree (number v) (λ k. not (item b (position k)) && is_number v (option_map (ones_before b) (later k)))
      (λ k. taken_later (ones_before b) (item b (position k)) (position k) v (later k)
      (λ one. ne_eqb (ones_before b (position k)) v (λ same. omega (arith, before k one))))
      keys
      ∙ sym (count_by-filter (λ k. is_number v (option_map (ones_before b) (later k))) (λ k. not (item b (position k))) keys)
      ∙ after.once v more (omega (arith, level_left fall falls b level begin w keys here some is)))
      (cases_lt v (ones_before b (begin + 64 * w)));
}
  where
    here : begin + 64 * w ≤ length b
    here = omega (arith, sum-first w sizes)

    end : begin + 64 * sum (w ∷ sizes) ≡ begin + 64 * w + 64 * sum sizes
    end = omega (arith, sum-first w sizes)

    position : K → ℕ
    position k = begin + fall k level w

    later : K → Option ℕ
    later k = position_from (fall k) b (level + 1) (begin + 64 * w) sizes

    number : ℕ → K → Bool
    number v k = is_number v (option_map (ones_before b) (position_from (fall k) b level begin (w ∷ sizes)))

    before : (k : K) → item b (begin + fall k level w) ≡ true
        → ones_before b (begin + fall k level w) < ones_before b (begin + 64 * w)
    before k one =
        let p = begin + fall k level w in
        let within : p < begin + 64 * w = omega (arith, falls k level w some) in
        omega (arith, one_more_after b p (omega (arith, here)) one, counts_grow b true (p + 1) (begin + 64 * w) (omega arith))

    not_later : (v : ℕ) → v < ones_before b (begin + 64 * w) → (o : Option ℕ) → IfSome o (λ p. begin + 64 * w ≤ p)
        → is_number v (option_map (ones_before b) o) ≡ false
    not_later v less None h = refl
    not_later v less (Some p) h = ne_eqb (ones_before b p) v (λ same. omega (arith, counts_grow b true (begin + 64 * w) p h))

pub numbered : {K : Type 0} (fall : K → ℕ → ℕ → ℕ) (falls : FallsInside fall) (keys : List K) (b : List Bool) (level begin : ℕ) (sizes : List ℕ)
    → begin + 64 * sum sizes ≤ length b → LeadTo fall keys b level begin sizes [] → IsNumbered fall keys b level begin sizes
numbered fall falls keys b level begin [] inside none =
    let end : begin + 64 * sum [] ≡ begin = omega arith in
    record {
      total = omega (arith, ap (ones_before b) end, ap length none);
      once = λ v low high. absurd (omega (arith, ap length none));
    }
numbered fall falls keys b level begin (w ∷ sizes) inside lead =
    numbered_more fall falls keys b level begin w sizes inside lead.0 lead.1
    (numbered fall falls (left_of fall keys b level begin w) b (level + 1) (begin + 64 * w) sizes (omega (arith, sum-first w sizes)) lead.2)

-- any number that is given is below the count of ones
pub number_below : (b : List Bool) (end n : ℕ) (o : Option ℕ) → end ≤ length b → ones_before b end ≡ n → IfSome o (IsOneBefore b end)
    → IfSome (option_map (ones_before b) o) (λ v. v < n)
number_below b end n None inside total h = tt
number_below b end n (Some p) inside total h =
    omega (arith, total, one_more_after b p (omega (arith, h.1)) h.0, counts_grow b true (p + 1) end (omega (arith, h.1)))

-- How many fragments of low digits are read: a search among those of a bucket reads no more than its size has digits.
use Rattle.std.proofs.Common.{◌≡◌, ℕ, zero, suc, ◌-◌, ◌*◌, ◌/◌, ◌^◌, ◌<◌, ◌≤◌, cond, eqb, Bool, true, List, [], ◌∷◌, length, get_or, ap, sym, ◌∙◌, subst, arith}
use Rattle.std.proofs.lemmas.Bool.{eq-eqb}
use Rattle.std.proofs.lemmas.List.Sums.{sum_by-cons}
use Rattle.std.specs.List.{count_by}
use Rattle.bit_lists.specs.Bits.{bits_of}
use Rattle.bit_lists.specs.Number.{number_at}
use Rattle.bitm_tables.specs.Tables.{Lists}
use Rattle.elias_fano.specs.Buckets.{CountsTo, CountsBelow}
use Rattle.elias_fano.specs.SequenceParts.{parts_of, parts_with, Holds}
use Rattle.elias_fano.specs.Low.{fragment, joined_item, sharing, Lows, ReadsFragments}

-- the same digits have the same fragments, and make the same items
pub fragment-same : (old new : Lows) (k : ℕ) → new.words ≡ old.words → new.width ≡ old.width → fragment new k ≡ fragment old k
fragment-same old new k words width =
    ap (λ (ws : List ℕ). number_at (bits_of ws) (k * new.width) new.width) words
    ∙ ap (λ w. number_at (bits_of old.words) (k * w) w) width

pub joined-same : (above : ℕ) (old new : Lows) (k : ℕ) → new.words ≡ old.words → new.width ≡ old.width
    → joined_item above new k ≡ joined_item above old k
joined-same above old new k words width =
    omega (arith, ap (λ w. above * 2 ^ w) width, fragment-same old new k words width)

-- so many positions with items that pass a test
range-counted : (p : ℕ → Bool) (xs : List ℕ) (first end : ℕ) → end ≤ length xs
    → ((j : ℕ) → first ≤ j → j < end → p (get_or xs j 0) ≡ true) → end - first ≤ count_by p xs
range-counted p [] first end inside has = omega arith
range-counted p (x ∷ xs) first zero inside has = omega arith
range-counted p (x ∷ xs) zero (suc e) inside has =
    let rest = range-counted p xs 0 e (omega arith) (λ j from less. has (suc j) (omega arith) (omega arith)) in
    let one : Bool → ℕ = λ b. cond b 1 0 in
    let here = ap one (has 0 (omega arith) (omega arith)) in
    omega (arith, rest, here, sum_by-cons (λ y. cond (p y) 1 0) x xs)
range-counted p (x ∷ xs) (suc f) (suc e) inside has =
    let rest = range-counted p xs f e (omega arith) (λ j from less. has (suc j) (omega arith) (omega arith)) in
    omega (arith, rest, sum_by-cons (λ y. cond (p y) 1 0) x xs)

-- the items of a bucket share the upper digits of the value
pub bucket-shared : (xs : List ℕ) (l v first end : ℕ) → CountsBelow xs l (v / 2 ^ l) first → CountsTo xs l (v / 2 ^ l) end
    → end - first ≤ sharing xs l v
bucket-shared xs l v first end before to =
    range-counted (λ x. eqb (x / 2 ^ l) (v / 2 ^ l)) xs first end to.bound
    (λ j from less. eq-eqb _ _ (omega (arith, before.above j from (omega (arith, to.bound)), to.below j less)))

-- a call that reads few reads no more than a greater number
pub fragments-more : (old new : Lows) (few many : ℕ) → ReadsFragments old new few → few ≤ many → ReadsFragments old new many
fragments-more old new few many h order = record { at_most = omega (arith, h.at_most); words = h.words; width = h.width }

-- and one that leaves the source as it was reads none
pub fragments-none : (old new : Lows) (many : ℕ) → new ≡ old → ReadsFragments old new many
fragments-none old new many same = record {
  at_most = omega (arith, ap (λ (low : Lows). low.read) same);
  words = ap (λ (low : Lows). low.words) same;
  width = ap (λ (low : Lows). low.width) same;
}

-- the parts hold the same after calls that only read
pub holds-kept : (xs : List ℕ) (n : ℕ) (old new : Lows) (early late : Lists) (many : ℕ) → ReadsFragments old new many → late ≡ early
    → Holds xs (parts_with n old early) → Holds xs (parts_with n new late)
holds-kept xs n old new early late many reads same h =
    let U : Lists → Type 0 = λ lists. Holds xs (parts_of n old.width old.words lists) in
    let W : ℕ → Type 0 = λ w. Holds xs (parts_of n w old.words late) in
    let L : List ℕ → Type 0 = λ words. Holds xs (parts_of n new.width words late) in
    subst L (sym reads.words) (subst W (sym reads.width) (subst U (sym same) h))

-- Bits of words that stand one behind another.
use Rattle.std.proofs.Common.{◌≡◌, ℕ, ◌+◌, ◌-◌, ◌*◌, ◌/◌, ◌%◌, ◌<◌, ◌≤◌, Bool, false, List, [], ◌∷◌, ◌++◌, length, slice_index, take, drop, sym, ap, ◌∙◌, rules, arith}
use Rattle.std.proofs.lemmas.List.{get_or_append_left, get_or-append_right, places}
use Rattle.bit_lists.specs.Bits.{bits_of, digit, item}
use Rattle.bit_lists.proofs.lemmas.BitsLemmas.{item-bits_of}
use Rattle.bit_lists.proofs.BitLaws.{bits_are_counted, bits_are_joined}

-- the bits before those that are added
pub item-first : (old new : List ℕ) (i : ℕ) → i < 64 * length old → item (bits_of (old ++ new)) i ≡ item (bits_of old) i
item-first old new i inside =
    ap (λ (b : List Bool). item b i) (bits_are_joined old new)
    ∙ get_or_append_left (bits_of old) (bits_of new) false i (omega (arith, bits_are_counted old))

-- the bits that are added
pub item-added : (old new : List ℕ) (i : ℕ) → item (bits_of (old ++ new)) (64 * length old + i) ≡ item (bits_of new) i
item-added old new i =
    let at = 64 * length old + i in
    ap (λ (b : List Bool). item b at) (bits_are_joined old new)
    ∙ get_or-append_right (bits_of old) (bits_of new) (64 * length old) at false (bits_are_counted old) (omega arith)
    ∙ ap (λ (q : ℕ). item (bits_of new) q) (let e : 64 * length old + i - 64 * length old ≡ i = omega arith in e)

-- the first items of those that are written back
pub front : (n len : ℕ) (new old : List ℕ) → length new ≡ length old → length old ≡ len → n ≤ length old
    → take n (take len (new ++ drop (length new) old)) ≡ take n new
front n len new old same long few = search (rules, places)

-- and all of them
pub whole : (len : ℕ) (new old : List ℕ) → length new ≡ length old → length old ≡ len → take len (new ++ drop (length new) old) ≡ new
whole len new old same long = search (rules, places)

-- a bit of a word alone is that of the content
pub bit_alone : (words : List ℕ) (w i : ℕ) → i < 64 * length words → w ≡ slice_index words (i / 64) → item (bits_of (w ∷ [])) (i % 64) ≡ item (bits_of words) i
bit_alone words w i inside is =
    let j = i % 64 in
    let here : j / 64 ≡ 0 = omega arith in
    let same : j % 64 ≡ j = omega arith in
    item-bits_of (w ∷ []) j (omega arith)
    ∙ ap (λ (k : ℕ). digit (slice_index (w ∷ []) k) (j % 64)) here
    ∙ ap (digit w) same
    ∙ ap (λ (x : ℕ). digit x j) is
    ∙ sym (item-bits_of words i inside)

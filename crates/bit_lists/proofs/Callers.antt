-- What callers name in an attribute, as `#[tactic(auto, using(bitm::proofs::Callers::after_writes))]`:
-- lemmas whose names Rust can write, and sets of them. The lemmas that are handed on here with a hyphen in
-- their names are for answers.
use Rattle.std.proofs.Common.{◌≡◌, ℕ, ◌+◌, ◌*◌, ◌<◌, ◌≤◌, Bool, true, false, if◌then◌else◌, List, [], ◌∷◌, length, Option, ap, sym, ◌∙◌, arith}
use Rattle.bit_lists.specs.Bits.{bits_of, digit, item}
use Rattle.bit_lists.specs.Coming.{all_bits_left, bits_left}
use Rattle.bit_lists.specs.Count.{ones_before, zeros_before, ones_of, zeros_of, Picks, IsSelect, IsSelectFrom, IsLastTo, MatchesFirstZero, bit_positions}
use Rattle.bit_lists.specs.Number.{with_number}
pub use Rattle.bit_lists.proofs.lemmas.BesideLemmas.{item-with_number_beside}
pub use Rattle.bit_lists.proofs.lemmas.BitsLemmas.{bits_of-nil, item-bits_of, length-bits_of}
use Rattle.bit_lists.proofs.lemmas.ComingLemmas.{bits_coming_all}
pub use Rattle.bit_lists.proofs.lemmas.CountLemmas.{few_ones, ones_before-add-zeros_before}
use Rattle.bit_lists.proofs.lemmas.CountLemmas.{count_before-none, count_before-le}
pub use Rattle.bit_lists.proofs.lemmas.NumberLemmas.{length-with_number, number_at-lt, with_number-one}
use Rattle.bit_lists.proofs.lemmas.NumberLemmas.{item-with_number_below, item-with_number_inside, item-with_number_above, number_at-with_number}
pub use Rattle.bit_lists.proofs.lemmas.PickLemmas.{Picks-positions, length-positions, rank_below}
use Rattle.bit_lists.proofs.lemmas.PickLemmas.{count_before_after, Picks-rank, MatchesFirstZero-selected, IsLastTo-Picks, none_to, IsSelectFrom-selected}

-- a rank that picked a one is below the number of ones: the condition of `select` after an answer of `try_select`
pub one_below : (b : List Bool) (r p : ℕ) → Picks b true r p → r < ones_of b
one_below b = rank_below b true

-- and so for zeros
pub zero_below : (b : List Bool) (r p : ℕ) → Picks b false r p → r < zeros_of b
zero_below b = rank_below b false

-- the bit that was written
pub bit_written : (b : List Bool) (i v : ℕ) → i + 1 ≤ length b → item (with_number b i 1 v) i ≡ digit v 0
bit_written b i v h =
    let e : i + 0 ≡ i = omega arith in
    ap (λ k. item (with_number b i 1 v) k) (sym e) ∙ item-with_number_inside b i 1 v 0 h (omega arith)

-- a one is picked by its rank
pub picked_by_its_rank : (b : List Bool) (p : ℕ) → p < length b → item b p ≡ true → Picks b true (ones_before b p) p
picked_by_its_rank b = Picks-rank b true

-- and so is a zero
pub zero_picked_by_its_rank : (b : List Bool) (p : ℕ) → p < length b → item b p ≡ false → Picks b false (zeros_before b p) p
zero_picked_by_its_rank b p = Picks-rank b false p

-- there are as many positions of ones as ones
pub positions_counted : (b : List Bool) → length (bit_positions true 0 b) ≡ ones_of b
positions_counted b = length-positions true 0 b

-- and the first zero
pub next_zero : (b : List Bool) (s : ℕ) (o : Option ℕ) → IsSelect b false (zeros_before b s) o → MatchesFirstZero b s o
next_zero = MatchesFirstZero-selected

-- one less than the rank after a position picks the last one up to it
pub last_one : (b : List Bool) (s r p : ℕ) → s < length b → ones_before b (s + 1) ≡ r + 1 → Picks b true r p → IsLastTo b true s p
last_one b = IsLastTo-Picks b true

-- and so of zeros
pub last_zero : (b : List Bool) (s r p : ℕ) → s < length b → zeros_before b (s + 1) ≡ r + 1 → Picks b false r p → IsLastTo b false s p
last_zero b = IsLastTo-Picks b false

-- no ones before the next position: none up to this one
pub no_one_to : (b : List Bool) (s i : ℕ) → s < length b → ones_before b (s + 1) ≡ 0 → i ≤ s → item b i ≡ false
no_one_to b = none_to b true

-- and so of zeros
pub no_zero_to : (b : List Bool) (s i : ℕ) → s < length b → zeros_before b (s + 1) ≡ 0 → i ≤ s → item b i ≡ true
no_zero_to b = none_to b false

-- the rank of a position and k more select the one with k between
pub one_from : (b : List Bool) (s k : ℕ) (o : Option ℕ) → IsSelect b true (ones_before b s + k) o → IsSelectFrom b true s k o
one_from b = IsSelectFrom-selected b true

-- and so of zeros
pub zero_from : (b : List Bool) (s k : ℕ) (o : Option ℕ) → IsSelect b false (zeros_before b s + k) o → IsSelectFrom b false s k o
zero_from b = IsSelectFrom-selected b false

-- no fewer ones stand before a later position
pub ones_grow : (b : List Bool) (i j : ℕ) → i ≤ j → ones_before b i ≤ ones_before b j
ones_grow b = count_before-le b true

-- and no fewer zeros
pub zeros_grow : (b : List Bool) (i j : ℕ) → i ≤ j → zeros_before b i ≤ zeros_before b j
zeros_grow b = count_before-le b false

-- no more ones than bits
pub ones_are_bits : (b : List Bool) → ones_of b ≤ length b
ones_are_bits b = omega (arith, ones_before-add-zeros_before b (length b) (omega arith))

-- and no more zeros
pub zeros_are_bits : (b : List Bool) → zeros_of b ≤ length b
zeros_are_bits b = omega (arith, ones_before-add-zeros_before b (length b) (omega arith))

-- one more where the first item is true
pub ones_of_first : (x : Bool) (b : List Bool) → ones_of (x ∷ b) ≡ (if x then 1 else 0) + ones_of b
ones_of_first x b = count_before_after true x b (length b)

-- none where there are no items
pub ones_of_nothing : ones_of [] ≡ 0
ones_of_nothing = count_before-none [] true

-- all bits are left at first
pub all_bits_come : (words : List ℕ) → bits_left (all_bits_left words) ≡ bits_of words
all_bits_come = bits_coming_all

-- what is read after a write, and what is left beside it
pub ruleset after_writes =
    (length-bits_of, length-with_number, item-with_number_below, item-with_number_above, bit_written, number_at-with_number)

-- how many positions or ones there are, and that these are no more than bits
pub ruleset counts = (positions_counted, few_ones)

-- going over all bits one by one
pub ruleset bit_by_bit = (ones_of_first, ones_of_nothing, all_bits_come, few_ones)

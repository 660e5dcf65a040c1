-- How long the two vectors are: what the width is chosen for.
use Rattle.std.proofs.Common.{◌≡◌, ℕ, zero, suc, ◌+◌, ◌-◌, ◌*◌, ◌/◌, ◌%◌, ◌^◌, ◌<◌, ◌≤◌, min, List, [], ◌∷◌, length, pow-suc, ap, ◌∙◌, arith}
use Rattle.std.proofs.Math.Nat.{lt-mul-div-succ, mul-le-mul_left, div-le_self}
use Rattle.std.proofs.lemmas.Nat.{pow_pos, div_below}
use Rattle.std.specs.List.{All}
use Rattle.bit_lists.proofs.BitLaws.{digits_bound_powers}
use Rattle.bit_lists.specs.Bits.{digit_count}
use Rattle.elias_fano.specs.Parts.{width_of, low_words_of, upper_words_of}
use Rattle.elias_fano.specs.Sequence.{largest}

-- twice the power before
double : (d : ℕ) → 2 ^ d ≤ 2 * 2 ^ (d - 1)
double zero = omega arith
double (suc k) = let e : suc k - 1 ≡ k = omega arith in omega (arith, pow-suc 2 k, ap (λ n. 2 ^ n) e)

pub largest-small : (xs : List ℕ) → All (λ x. x < 2 ^ 64) xs → largest xs < 2 ^ 64
largest-small [] small = omega arith
largest-small (x ∷ xs) small = small (length (x ∷ xs) - 1) 0 (omega arith)

-- a number is below the power of two of its digits
below_power : (n : ℕ) → n < 2 ^ digit_count n
below_power n = (digits_bound_powers n (digit_count n)).0 (let e : digit_count n ≤ digit_count n = omega arith in e)

-- half of a number has a digit less
pub digit_count-half : (n : ℕ) → 0 < n → digit_count (n / 2) + 1 ≤ digit_count n
digit_count-half n some = less (digit_count n) (below_power n)
  where
    less : (k : ℕ) → n < 2 ^ k → digit_count (n / 2) + 1 ≤ k
    less zero below = absurd (omega arith)
    less (suc k) below =
        let half : n / 2 < 2 ^ k = omega (arith, pow-suc 2 k) in
        omega (arith, (digits_bound_powers (n / 2) k).1 half)

-- a greater number has no fewer digits
pub digits-grow : (a b : ℕ) → a ≤ b → digit_count a ≤ digit_count b
digits-grow a b order = (digits_bound_powers a (digit_count b)).1 (omega (arith, below_power b))

-- the largest item without its low digits is less than twice the number of items
pub few_of_some : (u n : ℕ) → 0 < n → u / 2 ^ (digit_count (u / n) - 1) < 2 * n
few_of_some u n some =
    let q = u / n in
    let d = digit_count q in
    let below : u < n * (q + 1) = lt-mul-div-succ u some in
    let power : q + 1 ≤ 2 * 2 ^ (d - 1) = omega (arith, below_power q, double d) in
    let times : n * (q + 1) ≤ n * (2 * 2 ^ (d - 1)) = mul-le-mul_left n power in
    let room : u < 2 * n * 2 ^ (d - 1) = omega arith in
    div_below u (2 ^ (d - 1)) (2 * n) (pow_pos (d - 1)) room

-- so there are few bits in the upper vector
pub upper_few : (xs : List ℕ) → length xs + largest xs / 2 ^ width_of xs + 1 ≤ 3 * length xs + 1
upper_few [] = omega (arith, div-le_self 0 (2 ^ width_of []))
upper_few (x ∷ xs) = omega (arith, few_of_some (largest (x ∷ xs)) (length (x ∷ xs)) (omega arith))

-- the same of the width and the largest item by other names
pub upper_few_at : (xs : List ℕ) (l u : ℕ) → l ≡ width_of xs → u ≡ largest xs → length xs + u / 2 ^ l + 1 ≤ 3 * length xs + 1
upper_few_at xs l u width last =
    let same : u / 2 ^ l ≡ largest xs / 2 ^ width_of xs = ap (λ n. n / 2 ^ l) last ∙ ap (λ k. largest xs / 2 ^ k) width in
    omega (arith, upper_few xs)

-- and few words in both, three bits for an item beside its low digits
pub words_few : (xs : List ℕ)
    → 64 * (low_words_of xs (width_of xs) + upper_words_of xs (width_of xs)) ≤ length xs * (width_of xs + 3) + 126
words_few [] = omega (arith, div-le_self 0 (2 ^ width_of []))
words_few (x ∷ xs) = small (length (x ∷ xs)) (width_of (x ∷ xs)) _ (omega arith) (few_of_some (largest (x ∷ xs)) (length (x ∷ xs)) (omega arith))
  where
    small : (n l h : ℕ) → 0 < n → h < 2 * n
        → 64 * ((n * l / 64 + min 1 (n * l % 64)) + ((n + h + 1) / 64 + min 1 ((n + h + 1) % 64))) ≤ n * (l + 3) + 126
    small n l h some few = omega arith

-- a number has at most 63 low digits
pub width-small : (xs : List ℕ) → All (λ x. x < 2 ^ 64) xs → width_of xs ≤ 63
width-small xs small =
    let quotient : largest xs / length xs < 2 ^ 64 = omega (arith, largest-small xs small, div-le_self (largest xs) (length xs)) in
    omega (arith, (digits_bound_powers (largest xs / length xs) 64).1 quotient)

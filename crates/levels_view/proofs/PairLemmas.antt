-- A number and its rank, by the walks of the number and of its first position.
use Rattle.std.proofs.Common.{◌≡◌, ℕ, ◌+◌, ◌-◌, ◌^◌, ◌<◌, ◌≤◌, ◌==◌, Bool, List, length, take, get_or, All, refl, ap, ◌∙◌, arith}
use Rattle.std.proofs.lemmas.List.{length-take-le}
use Rattle.std.proofs.lemmas.List.Sums.{count_by-le-length}
use Rattle.bit_lists.specs.Bits.{digit}
use Rattle.matrix_levels.specs.Levels.{level, level_position}
use Rattle.matrix_levels.specs.Numbers.{occurrences_before}
use Rattle.matrix_levels.proofs.lemmas.ManyLemmas.{IsAtLevel}
use Rattle.matrix_levels.proofs.lemmas.WalkLemmas.{level_position-item, rank-is, rank-order}

-- the bit at the position of item i is that of the item
pub own-digit : (xs : List ℕ) (w i d p n : ℕ) (v : Bool) (ys : List ℕ) → i < length xs → ys ≡ level xs w d → IsAtLevel xs w d i p n
    → v ≡ digit (get_or ys p 0) (w - 1 - d) → v ≡ digit (get_or xs i 0) (w - 1 - d)
own-digit xs w i d p n v ys inside same at is =
    is
    ∙ ap (λ m. digit (get_or m p 0) (w - 1 - d)) same
    ∙ ap (λ q. digit (get_or (level xs w d) q 0) (w - 1 - d)) at.position
    ∙ ap (λ y. digit y (w - 1 - d)) (level_position-item xs w (get_or xs i 0) d i inside refl).1

-- no more of the first i numbers are a number than there are
pub few-before : (xs : List ℕ) (x i : ℕ) → i ≤ length xs → occurrences_before xs x i ≤ i
few-before xs x i inside = omega (arith, count_by-le-length (λ y. y == x) (take i xs), length-take-le i xs inside)

-- as many of a number stand before an index as there are between its first position after the last level and that of the index
pub rank-between : (xs : List ℕ) (w x i first last : ℕ) → All (λ y. y < 2 ^ w) xs → x < 2 ^ w → i ≤ length xs → first ≡ level_position xs w x w 0
    → last ≡ level_position xs w x w i → first + occurrences_before xs x i ≡ last
rank-between xs w x i first last all fit inside f l = omega (arith, f, l, rank-order xs w x all fit i inside, rank-is xs w x all fit i inside)

-- The index from which on numbers reach a value.
use Rattle.std.proofs.Common.{◌≡◌, ℕ, ◌<◌, ◌≤◌, ◌↔◌, List, All, length, slice_index, arith}
use Rattle.elias_fano.specs.Laws.{ReachedFromThere}
use Rattle.elias_fano.specs.Sequence.{IsSequence, Reaches}

-- where no number reaches it, none does from their number on
pub reached-none : (xs : List ℕ) (v n : ℕ) → n ≡ length xs → All (λ x. x < v) xs
    → (k : ℕ) → k < length xs → (n ≤ k) ↔ (v ≤ slice_index xs k)
reached-none xs v n count less k inside =
    (λ past. absurd (omega (arith, past, count, inside)), λ reached. absurd (omega (arith, reached, less k 0 inside)))

-- else each does from the first one on
pub reached-first : (xs : List ℕ) (v i : ℕ) → ReachedFromThere → IsSequence xs → Reaches xs v i
    → (k : ℕ) → k < length xs → (i ≤ k) ↔ (v ≤ slice_index xs k)
reached-first xs v i law are first k inside = let both = law xs v i k are.rising first inside in (both.1, both.0)

-- What the parts of a sequence hold.
use Rattle.std.proofs.Common.{ℕ, ◌-◌, ◌*◌, ◌/◌, ◌^◌, ◌<◌, ◌≤◌, List, [], ◌∷◌, length, ap, sym, ◌∙◌, arith}
use Rattle.std.proofs.Math.Nat.{div-le_self}
use Rattle.std.specs.Int.{div_ceil}
use Rattle.std.specs.List.{All}
use Rattle.bit_lists.proofs.BitLaws.{digits_bound_powers}
use Rattle.elias_fano.specs.SequenceParts.{HaveLengths}
use Rattle.elias_fano.specs.Parts.{width_of, ArePartsOf}
use Rattle.elias_fano.specs.Sequence.{largest}

largest_small : (xs : List ℕ) → All (λ x. x < 2 ^ 64) xs → largest xs < 2 ^ 64
largest_small [] small = omega arith
largest_small (x ∷ xs) small = small (length (x ∷ xs) - 1) 0 (omega arith)

width_small : (xs : List ℕ) → All (λ x. x < 2 ^ 64) xs → width_of xs ≤ 63
width_small xs small =
    let quotient : largest xs / length xs < 2 ^ 64 = omega (arith, largest_small xs small, div-le_self (largest xs) (length xs)) in
    omega (arith, (digits_bound_powers (largest xs / length xs) 64).1 quotient)

pub has_lengths : (xs : List ℕ) (n w : ℕ) (low words : List ℕ) → ArePartsOf xs n w low words → HaveLengths n w low words []
has_lengths xs n w low words h = record {
  short = omega (arith, h.count, h.sequence.short);
  width = omega (arith, h.width, width_small xs h.sequence.small);
  low = h.low_is.words ∙ ap (λ (k : ℕ). div_ceil (k * w) 64) (sym h.count);
  hints = λ some. absurd (omega (arith, some));
}

-- What callers see of sparse bits, from the positions that they hold.
use Rattle.std.proofs.Common.{◌≡◌, ℕ, ◌+◌, Bool, true, List, length, sym, ap, ◌∙◌, subst}
use Rattle.bit_lists.specs.Count.{ones_of, zeros_of, bit_positions}
use Rattle.sparse_bits.specs.Positions.{bits_at, AreBitPositions}
use Rattle.sparse_bits.specs.Value.{SparseValue, bytes_taken}
use Rattle.sparse_bits.proofs.lemmas.PositionLemmas.{bits_at-positions, bits_at-length, ones_count, zeros_count}

module _ {S S0 : Type 0} (n : ℕ) (xs : List ℕ) (u v : SparseValue S S0) (e : u ≡ v) (h : u.bits ≡ bits_at n 0 xs) (p : AreBitPositions n 0 xs) where
  pub bits_are : v.bits ≡ bits_at n 0 xs
  bits_are = ap (λ (w : SparseValue S S0). w.bits) (sym e) ∙ h

  pub positions_are : bit_positions true 0 v.bits ≡ xs
  positions_are = ap (bit_positions true 0) bits_are ∙ bits_at-positions n 0 xs p

  pub length_is : length v.bits ≡ n
  length_is = ap (λ (b : List Bool). length b) bits_are ∙ bits_at-length n 0 xs

  pub ones_are : ones_of v.bits ≡ length xs
  ones_are = ap (λ (b : List Bool). ones_of b) bits_are ∙ ones_count n xs p

  pub zeros_are : zeros_of v.bits + length xs ≡ n
  zeros_are = ap (λ (b : List Bool). zeros_of b + length xs) bits_are ∙ zeros_count n xs p

  pub size_is : (f : S → ℕ) (f0 : S0 → ℕ) → bytes_taken xs (f u.select) (f0 u.select0) ≡ bytes_taken (bit_positions true 0 v.bits) (f v.select) (f0 v.select0)
  size_is f f0 =
      subst (λ (w : SparseValue S S0). bytes_taken xs (f u.select) (f0 u.select0) ≡ bytes_taken (bit_positions true 0 v.bits) (f w.select) (f0 w.select0)) e
      (ap (λ (ys : List ℕ). bytes_taken ys (f u.select) (f0 u.select0)) (sym positions_are))

-- The positions of the 1 bits of words are never refused as positions.
use Rattle.std.proofs.Common.{◌≡◌, ℕ, ◌+◌, ◌*◌, ◌^◌, ◌<◌, ◌⊎◌, inl, inr, Bool, true, List, length, refl, sym, ◌∙◌, subst, arith}
use Rattle.std.specs.Prelude.{Result, Ok, Err, IfErr, IfOk, IsErrOf}
use Rattle.bit_lists.specs.Bits.{bits_of}
use Rattle.bit_lists.specs.Count.{bit_positions}
use Rattle.bit_lists.proofs.BitLaws.{bits_are_counted}
use Rattle.sparse_bits.specs.Positions.{AreBitPositions, HasNoRise, HasPast, Rises}
use Rattle.sparse_bits.specs.Value.{SparseValue}
use Rattle.sparse_bits.specs.declared.error.SparseError.{SparseError}
use Rattle.sparse_bits.specs.declared.error.SparseError.TheVariants.{TooLong, NotRising, PastEnd, OutOfMemory}
use Rattle.sparse_bits.proofs.lemmas.PositionLemmas.{are_positions, same_bits}

no_fall : (n : ℕ) (xs : List ℕ) → AreBitPositions n 0 xs → HasNoRise xs → ⊥
no_fall n xs h f = absurd (omega (arith, h.rising f.0 (f.0 + 1) (omega arith) f.1, f.2))

none_past : (n : ℕ) (xs : List ℕ) → AreBitPositions n 0 xs → HasPast xs n → ⊥
none_past n xs h f = absurd (omega (arith, h.below f.0 f.1, f.2))

pub refused : {V : Type 0} (r : Result V SparseError) (n : ℕ) (xs : List ℕ) → AreBitPositions n 0 xs
    → (IsErrOf r NotRising → (length xs < 2 ^ 56) × HasNoRise xs)
    → (IsErrOf r PastEnd → (length xs < 2 ^ 56) × Rises xs × HasPast xs n)
    → IfErr r (λ e. (e ≡ TooLong) ⊎ (e ≡ OutOfMemory))
refused (Ok v) n xs h falls past = tt
refused (Err TooLong) n xs h falls past = inl refl
refused (Err OutOfMemory) n xs h falls past = inr refl
refused (Err NotRising) n xs h falls past = absurd (no_fall n xs h (falls refl).1)
refused (Err PastEnd) n xs h falls past = absurd (none_past n xs h (past refl).2)

-- the positions of words
pub are_positions_of_words : (words : List ℕ) → AreBitPositions (64 * length words) 0 (bit_positions true 0 (bits_of words))
are_positions_of_words words =
    subst (λ (n : ℕ). AreBitPositions n 0 (bit_positions true 0 (bits_of words))) (bits_are_counted words) (are_positions (bits_of words))

-- bits of as many positions as words have, with the same 1 bits, are those of the words
pub bits_of_words : (b : List Bool) (words : List ℕ) → length b ≡ 64 * length words → bit_positions true 0 b ≡ bit_positions true 0 (bits_of words) → b ≡ bits_of words
bits_of_words b words len is = same_bits b (bits_of words) (len ∙ sym (bits_are_counted words)) is

pub built_of_words : {S S0 : Type 0} (words xs : List ℕ) (r : Result (SparseValue S S0) SparseError) → xs ≡ bit_positions true 0 (bits_of words)
    → IfOk r (λ made. bit_positions true 0 made.bits ≡ xs) → IfOk r (λ made. length made.bits ≡ 64 * length words)
    → IfOk r (λ made. made.bits ≡ bits_of words)
built_of_words words xs (Ok made) is ones len = bits_of_words made.bits words len (ones ∙ is)
built_of_words words xs (Err e) is ones len = tt

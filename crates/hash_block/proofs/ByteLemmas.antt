-- Bytes in words.
use Rattle.std.proofs.Common.{◌≡◌, ◌≢◌, ℕ, ◌+◌, ◌*◌, ◌^◌, ◌<◌, ◌≤◌, inl, inr, List, length, replicate, slice_index, sym, ap, ◌∙◌, ⊎_elim, arith}
use Rattle.std.proofs.lemmas.Bool.{cases_lt}
use Rattle.bit_lists.specs.Bits.{bits_of, item}
use Rattle.bit_lists.specs.Number.{number_at, with_number}
use Rattle.bit_lists.proofs.BitLaws.{bits_are_counted, number_beside_is_kept, read_after_write, zeros_are_zero}
use Rattle.bit_lists.proofs.lemmas.BesideLemmas.{item-zeros}
use Rattle.hash_block.specs.Bytes.{byte_of, bytes_from, AreZeroBytesFrom, StandsAt}

-- a byte that is written stands there, and the others stay
pub byte_written : (old new : List ℕ) (k byte : ℕ) → k < 8 * length old → byte < 2 ^ 8 → bits_of new ≡ with_number (bits_of old) (k * 8) 8 byte
    → byte_of new k ≡ byte
byte_written old new k byte inside fits written =
    ap (λ b. number_at b (k * 8) 8) written
    ∙ read_after_write (bits_of old) (k * 8) 8 byte (omega (arith, inside, bits_are_counted old)) fits

pub byte_beside : (old new : List ℕ) (k byte i : ℕ) → k < 8 * length old → i ≢ k → bits_of new ≡ with_number (bits_of old) (k * 8) 8 byte
    → byte_of new i ≡ byte_of old i
byte_beside old new k byte i inside other written =
    ap (λ b. number_at b (i * 8) 8) written
    ∙ number_beside_is_kept (bits_of old) (k * 8) 8 byte (i * 8) 8 (omega (arith, inside, bits_are_counted old))
    (⊎_elim
    (λ before. inl (omega (arith, before)))
    (λ from. inr (omega (arith, from, other)))
    (cases_lt i k))

-- cleared words have bytes that are 0
pub clear_bytes : (words : List ℕ) (n : ℕ) → words ≡ replicate n 0 → AreZeroBytesFrom words 0
clear_bytes words n is k from less = zeros_are_zero (bits_of words) (k * 8) 8 (λ p _ _. ap (λ ws. item (bits_of ws) p) is ∙ item-zeros n p)

-- the first n bytes of a list from `begin` on stand in the new words from `at` on; the others are as they were
pub record AreCopied (old new from : List ℕ) (begin at n : ℕ) : Type 0 where
  pub written : StandsAt new at (bytes_from from begin) n
  pub before : (k : ℕ) → k < at → byte_of new k ≡ byte_of old k
  pub after : (k : ℕ) → at + n ≤ k → byte_of new k ≡ byte_of old k

pub copied_more : (old now new from : List ℕ) (begin at n byte : ℕ) → AreCopied old now from begin at n
    → byte ≡ slice_index from (begin + n) → byte_of new (at + n) ≡ byte → ((i : ℕ) → i ≢ at + n → byte_of new i ≡ byte_of now i)
    → AreCopied old new from begin at (n + 1)
copied_more old now new from begin at n byte h is written beside = record {
  written = λ j less.
      ⊎_elim
      (λ before. beside (at + j) (λ e. omega (arith, e, before)) ∙ h.written j before)
      (λ on.
      let e : j ≡ n = omega (arith, on, less) in
      ap (λ i. byte_of new (at + i)) e ∙ written ∙ is ∙ ap (λ i. slice_index from (begin + i)) (sym e))
      (cases_lt j n);
  before = λ k less. beside k (λ e. omega (arith, e, less)) ∙ h.before k less;
  after = λ k past. beside k (λ e. omega (arith, e, past)) ∙ h.after k (omega (arith, past));
}

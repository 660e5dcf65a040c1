-- Seeds in words.
use Rattle.std.proofs.Common.{◌≡◌, ◌≢◌, ℕ, ◌+◌, ◌*◌, ◌/◌, ◌%◌, ◌^◌, ◌<◌, ◌≤◌, inl, inr, List, [], ◌∷◌, length, replicate, slice_index, sym, ap, ◌∙◌, ⊎_elim, arith}
use Rattle.std.proofs.lemmas.Bool.{cases_lt}
use Rattle.std.proofs.lemmas.Grind.{same_number_lists}
use Rattle.std.proofs.lemmas.List.{get_or_past}
use Rattle.std.proofs.lemmas.List.FromFn.{get_or-map-range_with_len, length-map-range_with_len}
use Rattle.bit_lists.specs.Bits.{bits_of, item}
use Rattle.bit_lists.specs.Number.{number_at, with_number}
use Rattle.bit_lists.proofs.BitLaws.{bits_are_counted, number_beside_is_kept, read_after_write, zeros_are_zero}
use Rattle.bit_lists.proofs.lemmas.BesideLemmas.{item-zeros}
use Rattle.perfect_hash.specs.Positions.{bit_by, position_by, spread}
use Rattle.hash_block.specs.SeededBlock.{AreZeroFrom}
use Rattle.hash_block.specs.Seeds.{seed_of, seeds_of}

-- the bit of a word by a seed is that of a level of one word
pub in_its_word : (seeds : List ℕ) (seed begin hash level words word position bit : ℕ)
    → word ≡ spread hash level % 2 ^ 64 * words / 2 ^ 64 → seed ≡ slice_index seeds (begin + word)
    → bit ≡ position_by (seed ∷ []) 0 hash level 1 → position ≡ 64 * word + bit → position ≡ position_by seeds begin hash level words
unfolding position_by
in_its_word seeds seed begin hash level words word position bit word_is seed_is bit_is position_is =
    let x = spread hash level in
    let none : x % 2 ^ 64 * 1 / 2 ^ 64 ≡ 0 = omega arith in
    let alone : 64 * (x % 2 ^ 64 * 1 / 2 ^ 64) + bit_by (slice_index (seed ∷ []) (0 + x % 2 ^ 64 * 1 / 2 ^ 64)) x ≡ 0 + bit_by seed x =
    ap (λ (w : ℕ). 64 * w + bit_by (slice_index (seed ∷ []) (0 + w)) x) none in
    let bit_here : bit ≡ bit_by seed x = omega (arith, bit_is, alone) in
    position_is
    ∙ ap (λ (b : ℕ). 64 * word + b) (bit_here ∙ ap (λ (s : ℕ). bit_by s x) seed_is)
    ∙ ap (λ (w : ℕ). 64 * w + bit_by (slice_index seeds (begin + w)) x) word_is

-- there are as many seeds as are read, and none past them
pub seeds_len : (words : List ℕ) (n : ℕ) → length (seeds_of words n) ≡ n
unfolding seeds_of
seeds_len words n = length-map-range_with_len (seed_of words) 0 n

pub seed_at : (words : List ℕ) (n k : ℕ) → k < n → slice_index (seeds_of words n) k ≡ seed_of words k
unfolding seeds_of
seed_at words n k less = get_or-map-range_with_len (seed_of words) 0 n k k 0 less (omega arith)

pub no_seed : (words : List ℕ) (n k : ℕ) → n ≤ k → slice_index (seeds_of words n) k ≡ 0
no_seed words n k past = get_or_past (seeds_of words n) k 0 (omega (arith, past, seeds_len words n))

-- a seed that is written stands there, and the others stay
pub seed_written : (old new : List ℕ) (k seed : ℕ) → k < 8 * length old → seed < 2 ^ 8 → bits_of new ≡ with_number (bits_of old) (k * 8) 8 seed
    → seed_of new k ≡ seed
seed_written old new k seed inside fits written =
    ap (λ b. number_at b (k * 8) 8) written
    ∙ read_after_write (bits_of old) (k * 8) 8 seed (omega (arith, inside, bits_are_counted old)) fits

pub seed_beside : (old new : List ℕ) (k seed i : ℕ) → k < 8 * length old → i ≢ k → bits_of new ≡ with_number (bits_of old) (k * 8) 8 seed
    → seed_of new i ≡ seed_of old i
seed_beside old new k seed i inside other written =
    ap (λ b. number_at b (i * 8) 8) written
    ∙ number_beside_is_kept (bits_of old) (k * 8) 8 seed (i * 8) 8 (omega (arith, inside, bits_are_counted old))
    (⊎_elim
    (λ before. inl (omega (arith, before)))
    (λ from. inr (omega (arith, from, other)))
    (cases_lt i k))

-- the first n of the seeds stand in the words, and zeros after them
pub record ArePacked (words seeds : List ℕ) (n : ℕ) : Type 0 where
  pub written : (k : ℕ) → k < n → seed_of words k ≡ slice_index seeds k
  pub rest : AreZeroFrom words n

-- cleared words have seeds that are 0
pub none_packed : (words seeds : List ℕ) (n : ℕ) → words ≡ replicate n 0 → ArePacked words seeds 0
none_packed words seeds n is = record {
  written = λ k less. absurd (omega (arith, less));
  rest = λ k _. zeros_are_zero (bits_of words) (k * 8) 8 (λ p _ _. ap (λ ws. item (bits_of ws) p) is ∙ item-zeros n p);
}

pub packed_more : (now new seeds : List ℕ) (n : ℕ) → ArePacked now seeds n → seed_of new n ≡ slice_index seeds n
    → ((i : ℕ) → i ≢ n → seed_of new i ≡ seed_of now i) → ArePacked new seeds (n + 1)
packed_more now new seeds n h written beside = record {
  written = λ k less.
      ⊎_elim
      (λ before. beside k (λ e. omega (arith, e, before)) ∙ h.written k before)
      (λ on.
      let e : k ≡ n = omega (arith, on, less) in
      ap (seed_of new) e ∙ written ∙ ap (slice_index seeds) (sym e))
      (cases_lt k n);
  rest = λ k past. beside k (λ e. omega (arith, e, past)) ∙ h.rest k (omega (arith, past));
}

-- the seeds of words in which all of these stand
pub packed_are : (words seeds : List ℕ) → ArePacked words seeds (length seeds) → seeds_of words (length seeds) ≡ seeds
packed_are words seeds h =
    same_number_lists (seeds_of words (length seeds)) seeds (seeds_len words (length seeds))
    (λ k less.
    let inside : k < length seeds = omega (arith, less, seeds_len words (length seeds)) in
    seed_at words (length seeds) k inside ∙ h.written k inside)

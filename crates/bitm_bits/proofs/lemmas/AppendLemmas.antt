-- A number that is put behind the first n bits of words, of which the rest are zeros.
use Rattle.std.proofs.Common.{◌≡◌, ℕ, ◌+◌, ◌-◌, ◌*◌, ◌%◌, ◌^◌, ◌<◌, ◌≤◌, Bool, true, false, List, [], ◌∷◌, ◌++◌, length, take, drop, eqb, refl, sym, ap, ◌∙◌, ⊎_elim, arith, length-append, length-take}
use Rattle.std.proofs.Math.Seq.{take-append_seam}
use Rattle.std.proofs.lemmas.Bool.{cases_lt}
use Rattle.std.proofs.lemmas.List.{get_or_append_left, get_or-append_right, take-append-le}
use Rattle.std.specs.Int.{div_ceil}
use Rattle.bit_lists.proofs.lemmas.BesideLemmas.{item-zeros, number_at-zeros}
use Rattle.bit_lists.proofs.lemmas.BitsLemmas.{bits_of-nil, length-bits_of, length-low_digits, item-low_digits, same_bits}
use Rattle.bit_lists.proofs.lemmas.CutLemmas.{bits_of-append}
use Rattle.bit_lists.proofs.lemmas.NumberLemmas.{item-with_number_above, length-with_number}
use Rattle.bit_lists.proofs.lemmas.WordLemmas.{bit_at-mod}
use Rattle.bit_lists.specs.Bits.{bits_of, item, low_digits}
use Rattle.bit_lists.specs.Number.{number_at, with_number}
use Rattle.bitm_bits.specs.Appending.{AreFilledTo, HasRoom}
use mir.Val.{bool_byte}

-- no words hold no bits
pub filled_none : AreFilledTo [] 0
filled_none = (refl, λ p l. ap (λ b. item b p) bits_of-nil)

-- the bits that were written are as many as were written
pub length_filled : (words : List ℕ) (n : ℕ) → AreFilledTo words n → length (take n (bits_of words)) ≡ n
length_filled words n filled = omega (arith, length-take n (bits_of words), length-bits_of words, filled.0)

-- the lowest digits of a number are those of its remainder
pub low_digits-mod : (n v : ℕ) → low_digits n (v % 2 ^ n) ≡ low_digits n v
low_digits-mod n v =
    same_bits (low_digits n (v % 2 ^ n)) (low_digits n v)
    (length-low_digits n (v % 2 ^ n) ∙ sym (length-low_digits n v))
    (λ j l.
    let inside : j < n = omega (arith, l, length-low_digits n (v % 2 ^ n)) in
    item-low_digits n (v % 2 ^ n) j inside ∙ ap (λ d. eqb d 1) (bit_at-mod v n j inside) ∙ sym (item-low_digits n v j inside))

-- one digit
pub low_digits-one : (value : Bool) → low_digits 1 (bool_byte value) ≡ value ∷ []
unfolding low_digits
low_digits-one true = refl
low_digits-one false = refl

-- no digits
pub low_digits-none : (v : ℕ) → low_digits 0 v ≡ []
unfolding low_digits
low_digits-none v = refl

-- a word of zeros behind words: the bits before are as they were, and those after are zeros
pub zero_behind : (words : List ℕ) (n p : ℕ) → AreFilledTo words n → n ≤ p → item (bits_of (words ++ 0 ∷ [])) p ≡ false
zero_behind words n p filled l =
    ap (λ b. item b p) (bits_of-append words (0 ∷ [])) ∙ ⊎_elim
    (λ inside. get_or_append_left (bits_of words) (bits_of (0 ∷ [])) false p (omega (arith, inside, length-bits_of words)) ∙ filled.1 p l)
    (λ past. get_or-append_right (bits_of words) (bits_of (0 ∷ [])) (64 * length words) p false (length-bits_of words) past
    ∙ item-zeros 1 (p - 64 * length words))
    (cases_lt p (64 * length words))

pub taken_before : (words more : List ℕ) (n : ℕ) → n ≤ 64 * length words → take n (bits_of (words ++ more)) ≡ take n (bits_of words)
taken_before words more n l =
    ap (take n) (bits_of-append words more) ∙ take-append-le n (bits_of words) (bits_of more) (omega (arith, length-bits_of words))

-- words have room with a word of zeros after them
pub room_made : (words : List ℕ) (n count : ℕ) → AreFilledTo words n → count ≤ 64 → length words < div_ceil (n + count) 64
    → HasRoom words (words ++ 0 ∷ []) n count
room_made words n count filled small few = record {
  len = omega (arith, filled.0, few, small, length-append words (0 ∷ []));
  kept = taken_before words (0 ∷ []) n (omega (arith, filled.0));
  zeros = λ p l. zero_behind words n p filled l;
}

-- what the bits were that the number is put to
pub clear_before : (room : List ℕ) (n count : ℕ) → ((p : ℕ) → n ≤ p → item (bits_of room) p ≡ false) → number_at (bits_of room) n count ≡ 0
clear_before room n count zeros = number_at-zeros (bits_of room) n count (λ i from to. zeros i from)

-- the number stands behind the bits that were written before
pub appended : (old room new : List ℕ) (n count v low : ℕ) → HasRoom old room n count → low ≡ v % 2 ^ count
    → bits_of new ≡ with_number (bits_of room) n count low
    → take (n + count) (bits_of new) ≡ take n (bits_of old) ++ low_digits count v
unfolding with_number
appended old room new n count v low has digits put =
    ap (take (n + count)) put
    ∙ ap (λ k. take k (front ++ drop (n + count) (bits_of room))) (sym front_len)
    ∙ take-append_seam front (drop (n + count) (bits_of room))
    ∙ ap (λ b. b ++ low_digits count low) has.kept
    ∙ ap (λ d. take n (bits_of old) ++ d) (ap (low_digits count) digits ∙ low_digits-mod count v)
  where
    front : List Bool
    front = take n (bits_of room) ++ low_digits count low

    front_len : length (take n (bits_of room) ++ low_digits count low) ≡ n + count
    front_len = omega (
      arith,
      length-append (take n (bits_of room)) (low_digits count low),
      length-take n (bits_of room),
      length-bits_of room,
      length-low_digits count low,
      has.len,
    )

-- and the bits after it are zeros
pub filled_more : (old room new : List ℕ) (n count low : ℕ) → HasRoom old room n count → bits_of new ≡ with_number (bits_of room) n count low
    → AreFilledTo new (n + count)
filled_more old room new n count low has put = (
  omega (arith, has.len, length-bits_of new, length-bits_of room, ap length put, length-with_number (bits_of room) n count low within),
  λ p l. ap (λ b. item b p) put ∙ item-with_number_above (bits_of room) n count low p within l ∙ has.zeros p (omega (arith, l)),
)
  where
    within : n + count ≤ length (bits_of room)
    within = omega (arith, has.len, length-bits_of room)

-- words that a slice wrote back are those of the slice
pub written_back : (items new : List ℕ) (k : ℕ) → length new ≡ k → take k (new ++ drop (length new) items) ≡ new
written_back items new k len =
    ap (λ n. take n (new ++ drop (length new) items)) (sym len) ∙ take-append_seam new (drop (length new) items)

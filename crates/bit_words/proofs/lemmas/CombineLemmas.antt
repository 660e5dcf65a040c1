-- Bitwise operations, digit by digit of a word and item by item of the bits of words.
use Rattle.std.proofs.Common.{◌≡◌, ◌≢◌, ℕ, zero, suc, ◌+◌, ◌-◌, ◌*◌, ◌/◌, ◌%◌, ◌^◌, ◌<◌, ◌≤◌, Bool, not, ◌&&◌, ◌||◌, cond, List, length, get_or, min, max, refl, sym, ap, ◌∙◌, arith, eqb, bit_and, bit_or, bit_xor, set, length-set, get_or-set_same, get_or-set_other, ⊎_elim}
use Rattle.std.proofs.lemmas.Bool.{cases_lt}
use Rattle.std.proofs.lemmas.Nat.Bits.{bit_at_and, bit_at_or, bit_at_xor, bit_at_not, bit_at-lt}
use Rattle.std.specs.Int.{bit_at, bit_not, w64}
use Rattle.bit_lists.proofs.lemmas.BitsLemmas.{item-bits_of_at}
use Rattle.bit_lists.specs.Bits.{bits_of, digit, item}
use Rattle.bit_words.specs.Combined.{combined}

pub digit-and : (a b j : ℕ) → digit (bit_and a b) j ≡ (digit a j && digit b j)
digit-and a b j =
    ap (λ d. eqb d 1) (bit_at_and a b j) ∙ of_digits (bit_at a j) (bit_at b j) (bit_at-lt a j) (bit_at-lt b j)
  where
    of_digits : (x y : ℕ) → x < 2 → y < 2 → eqb (min x y) 1 ≡ (eqb x 1 && eqb y 1)
    of_digits zero zero l m = refl
    of_digits zero (suc zero) l m = refl
    of_digits zero (suc (suc y)) l m = absurd (omega arith)
    of_digits (suc zero) zero l m = refl
    of_digits (suc zero) (suc zero) l m = refl
    of_digits (suc zero) (suc (suc y)) l m = absurd (omega arith)
    of_digits (suc (suc x)) y l m = absurd (omega arith)

pub digit-or : (a b j : ℕ) → digit (bit_or a b) j ≡ (digit a j || digit b j)
digit-or a b j =
    ap (λ d. eqb d 1) (bit_at_or a b j) ∙ of_digits (bit_at a j) (bit_at b j) (bit_at-lt a j) (bit_at-lt b j)
  where
    of_digits : (x y : ℕ) → x < 2 → y < 2 → eqb (max x y) 1 ≡ (eqb x 1 || eqb y 1)
    of_digits zero zero l m = refl
    of_digits zero (suc zero) l m = refl
    of_digits (suc zero) zero l m = refl
    of_digits (suc zero) (suc zero) l m = refl
    of_digits zero (suc (suc y)) l m = absurd (omega arith)
    of_digits (suc zero) (suc (suc y)) l m = absurd (omega arith)
    of_digits (suc (suc x)) y l m = absurd (omega arith)

pub digit-xor : (a b j : ℕ) → digit (bit_xor a b) j ≡ cond (digit b j) (not (digit a j)) (digit a j)
digit-xor a b j =
    ap (λ d. eqb d 1) (bit_at_xor a b j) ∙ of_digits (bit_at a j) (bit_at b j) (bit_at-lt a j) (bit_at-lt b j)
  where
    of_digits : (x y : ℕ) → x < 2 → y < 2 → eqb ((x + y) % 2) 1 ≡ cond (eqb y 1) (not (eqb x 1)) (eqb x 1)
    of_digits zero zero l m = refl
    of_digits zero (suc zero) l m = refl
    of_digits (suc zero) zero l m = refl
    of_digits (suc zero) (suc zero) l m = refl
    of_digits zero (suc (suc y)) l m = absurd (omega arith)
    of_digits (suc zero) (suc (suc y)) l m = absurd (omega arith)
    of_digits (suc (suc x)) y l m = absurd (omega arith)

pub digit-and_not : (a b j : ℕ) → b < 2 ^ 64 → j < 64 → digit (bit_and a (bit_not w64 b)) j ≡ (digit a j && not (digit b j))
digit-and_not a b j fits low =
    ap (λ d. eqb d 1) (bit_at_and a (bit_not w64 b) j)
    ∙ ap (λ d. eqb (min (bit_at a j) d) 1) (bit_at_not w64 b j fits low)
    ∙ of_digits (bit_at a j) (bit_at b j) (bit_at-lt a j) (bit_at-lt b j)
  where
    of_digits : (x y : ℕ) → x < 2 → y < 2 → eqb (min x (1 - y)) 1 ≡ (eqb x 1 && not (eqb y 1))
    of_digits zero zero l m = refl
    of_digits zero (suc zero) l m = refl
    of_digits zero (suc (suc y)) l m = absurd (omega arith)
    of_digits (suc zero) zero l m = refl
    of_digits (suc zero) (suc zero) l m = refl
    of_digits (suc zero) (suc (suc y)) l m = absurd (omega arith)
    of_digits (suc (suc x)) y l m = absurd (omega arith)

-- words that are combined up to word k, and as they were from there on
pub record AreCombined (op : ℕ) (old other new : List ℕ) (k : ℕ) : Type 0 where
  pub len : length new ≡ length old
  pub done : (q j : ℕ) → q < k → j < 64 → digit (get_or new q 0) j ≡ combined op (digit (get_or old q 0) j) (digit (get_or other q 0) j)
  pub rest : (q : ℕ) → k ≤ q → get_or new q 0 ≡ get_or old q 0

pub items_combined : (op : ℕ) (old other new : List ℕ) (k i : ℕ) → AreCombined op old other new k → length old ≤ k → length old ≡ length other
    → i < 64 * length old → item (bits_of new) i ≡ combined op (item (bits_of old) i) (item (bits_of other) i)
items_combined op old other new k i are all same within =
    let q = i / 64 in
    let j = i % 64 in
    let position : i ≡ 64 * q + j = omega arith in
    let low : j < 64 = omega arith in
    item-bits_of_at new i q j position low (omega (arith, are.len))
    ∙ are.done q j (omega arith) low
    ∙ ap (λ x. combined op x (digit (get_or other q 0) j)) (sym (item-bits_of_at old i q j position low (omega arith)))
    ∙ ap (combined op (item (bits_of old) i)) (sym (item-bits_of_at other i q j position low (omega (arith, same))))

pub combined-else : (op : ℕ) (x y : Bool) → op ≢ 0 → op ≢ 1 → op ≢ 2 → combined op x y ≡ (x && not y)
combined-else zero x y a b c = absurd (a refl)
combined-else (suc zero) x y a b c = absurd (b refl)
combined-else (suc (suc zero)) x y a b c = absurd (c refl)
combined-else (suc (suc (suc op))) x y a b c = refl

-- one word more
pub AreCombined-next : (op : ℕ) (old other new : List ℕ) (k w : ℕ) → AreCombined op old other new k → k < length old
    → ((j : ℕ) → j < 64 → digit w j ≡ combined op (digit (get_or new k 0) j) (digit (get_or other k 0) j))
    → AreCombined op old other (set new k w) (k + 1)
AreCombined-next op old other new k w are inside word = record {
  len = length-set new k w ∙ are.len;
  done = λ q j before low. ⊎_elim
      (λ (less : q < k). ap (λ (x : ℕ). digit x j) (get_or-set_other new k q w 0 (λ (e : q ≡ k). omega (arith, e, less))) ∙ are.done q j less low)
      (λ (least : k ≤ q).
      let here : q ≡ k = omega (arith, before, least) in
      ap (λ (p : ℕ). digit (get_or (set new k w) p 0) j) here
      ∙ ap (λ (x : ℕ). digit x j) (get_or-set_same new k w 0 (omega (arith, are.len)))
      ∙ word j low
      ∙ ap (λ (x : ℕ). combined op (digit x j) (digit (get_or other k 0) j)) (are.rest k (omega arith))
      ∙ ap (λ (p : ℕ). combined op (digit (get_or old p 0) j) (digit (get_or other p 0) j)) (sym here))
      (cases_lt q k);
  rest = λ q from. get_or-set_other new k q w 0 (λ (e : q ≡ k). omega (arith, e, from)) ∙ are.rest q (omega (arith, from));
}

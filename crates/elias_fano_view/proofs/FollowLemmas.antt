-- A 1 bit right after another: its digit in a word, its number, and that all of a word are met.
use Rattle.std.proofs.Common.{◌≡◌, ◌≢◌, ℕ, zero, suc, ◌+◌, ◌-◌, ◌*◌, ◌/◌, ◌%◌, ◌^◌, ◌<◌, ◌≤◌, ◌↔◌, Bool, true, eqb, min, List, [], ◌∷◌, length, get_or, bit_and, bit_or, count_ones, sym, ap, ◌∙◌, ⊎_elim, arith}
use Rattle.std.proofs.lemmas.Bool.{cases_eq, eq-eqb, eqb-true}
use Rattle.std.proofs.lemmas.List.{get_or_default}
use Rattle.std.proofs.lemmas.Nat.{and_mask}
use Rattle.std.proofs.lemmas.Nat.Bits.{bit_at_above, bit_at_and, bit_at_or, bit_at-lt}
use Rattle.std.proofs.Math.Nat.{mul-le-mul_right}
use Rattle.std.specs.Int.{bit_at}
use Rattle.bit_lists.proofs.BitLaws.{positions_are_counted, positions_are_picked}
use Rattle.bit_lists.proofs.lemmas.BitsLemmas.{item-bits_of_at, length-bits_of}
use Rattle.bit_lists.proofs.lemmas.CountLemmas.{count_before-le, ones_before_more, ones_before-bits_of_in_word}
use Rattle.bit_lists.proofs.lemmas.PickLemmas.{Picks-rank, rank_below, same_from_Picks}
use Rattle.bit_lists.proofs.lemmas.WordLemmas.{truth, bit_at-shl, bit_at-shl_below}
use Rattle.bit_lists.specs.Bits.{bits_of, digit, item}
use Rattle.bit_lists.specs.Count.{ones_before, bit_positions, Picks}
use Rattle.elias_fano.specs.Low.{unread, HasFragments}
use Rattle.elias_fano.specs.Parts.{HasFragment}
use Rattle.elias_fano_view.specs.Checks.{FollowsOne}

-- ---- its digit

-- r is 1 exactly where a and p are, the bits at position q and before it
follows-by : (b : List Bool) (q r a p : ℕ) → r ≡ min a p → a < 2 → p < 2 → item b q ≡ eqb a 1
    → (0 < q → item b (q - 1) ≡ eqb p 1) → (q ≡ 0 → p ≡ 0) → (eqb r 1 ≡ true) ↔ FollowsOne b q
follows-by b q r a p is small small_p here before none = (
  λ one.
      let r_is : r ≡ 1 = eqb-true r 1 one in
      let a_is : a ≡ 1 = omega (arith, is) in
      let p_is : p ≡ 1 = omega (arith, is) in
      let some : 0 < q = ⊎_elim (λ e. absurd (omega (arith, none e))) (λ less. omega arith) (cases_eq q 0) in
      (some, before some ∙ eq-eqb p 1 p_is, here ∙ eq-eqb a 1 a_is),
  λ follows.
      let a_is : a ≡ 1 = eqb-true a 1 (sym here ∙ follows.2) in
      let p_is : p ≡ 1 = eqb-true p 1 (sym (before follows.0) ∙ follows.1) in
      eq-eqb r 1 (omega (arith, is)),
)

-- the last bit before word k, as a number; 0 where there is none
pub record IsBefore (words : List ℕ) (k before : ℕ) : Type 0 where
  pub bit : before < 2
  pub first : k ≡ 0 → before ≡ 0
  pub last : 0 < k → before ≡ bit_at (get_or words (k - 1) 0) 63

pub before-first : (words : List ℕ) (k before : ℕ) → k ≡ 0 → before ≡ 0 → IsBefore words k before
before-first words k before none is = record { bit = omega (arith, is); first = λ _. is; last = λ some. absurd (omega arith) }

pub before-later : (words : List ℕ) (k before : ℕ) → k ≢ 0 → get_or words (k - 1) 0 < 2 ^ 64 → before ≡ get_or words (k - 1) 0 / 2 ^ 63
    → IsBefore words k before
before-later words k before some fits is =
    let small : get_or words (k - 1) 0 / 2 ^ 63 < 2 = omega arith in
    let digit_is : bit_at (get_or words (k - 1) 0) 63 ≡ get_or words (k - 1) 0 / 2 ^ 63 = omega arith in
    record { bit = omega (arith, small, is); first = λ none. absurd (some none); last = λ _. is ∙ sym digit_is }

module _ (words : List ℕ) (k : ℕ) (inside : k < length words) where
  -- digit j of word k is bit 64 * k + j of the words
  digit-is : (i q j : ℕ) → q < length words → i ≡ 64 * q + j → j < 64 → item (bits_of words) i ≡ eqb (bit_at (get_or words q 0) j) 1
  digit-is i q j within e low = item-bits_of_at words i q j e low within

  module _ (before : ℕ) (h : IsBefore words k before) where
    pub follower-digit : (j : ℕ) → j < 64
        → (digit (bit_and (get_or words k 0) (bit_or (get_or words k 0 * 2 ^ 1 % 2 ^ 64) before)) j ≡ true) ↔ FollowsOne (bits_of words) (64 * k + j)
    follower-digit zero low =
        let w = get_or words k 0 in
        let r = bit_and w (bit_or (w * 2 ^ 1 % 2 ^ 64) before) in
        let itself : bit_at before 0 ≡ before = omega arith in
        let both = bit_at_and w (bit_or (w * 2 ^ 1 % 2 ^ 64) before) 0 in
        let either = bit_at_or (w * 2 ^ 1 % 2 ^ 64) before 0 in
        let shifted : bit_at (w * 2 ^ 1 % 2 ^ 64) 0 ≡ 0 = bit_at-shl_below w 1 64 0 (omega arith) (omega arith) in
        follows-by (bits_of words) (64 * k + 0) (bit_at r 0) (bit_at w 0) before (omega (arith, both, either, shifted, itself))
        (bit_at-lt w 0) h.bit (digit-is (64 * k + 0) k 0 inside (omega arith) (omega arith))
        (λ some.
        digit-is (64 * k + 0 - 1) (k - 1) 63 (omega arith) (omega arith) (omega arith)
        ∙ ap (λ d. eqb d 1) (sym (h.last (omega arith))))
        (λ none. h.first (omega arith))
    follower-digit (suc j) low =
        let w = get_or words k 0 in
        let r = bit_and w (bit_or (w * 2 ^ 1 % 2 ^ 64) before) in
        let nothing : bit_at before (suc j) ≡ 0 = bit_at_above before 1 (suc j) h.bit (omega arith) in
        let both = bit_at_and w (bit_or (w * 2 ^ 1 % 2 ^ 64) before) (suc j) in
        let either = bit_at_or (w * 2 ^ 1 % 2 ^ 64) before (suc j) in
        let shifted : bit_at (w * 2 ^ 1 % 2 ^ 64) (suc j) ≡ bit_at w j = bit_at-shl w 1 64 (suc j) j (omega arith) (omega arith) in
        follows-by (bits_of words) (64 * k + suc j) (bit_at r (suc j)) (bit_at w (suc j)) (bit_at w j) (omega (arith, both, either, shifted, nothing))
        (bit_at-lt w (suc j)) (bit_at-lt w j) (digit-is (64 * k + suc j) k (suc j) inside (omega arith) low)
        (λ some. digit-is (64 * k + suc j - 1) k j inside (omega arith) (omega arith))
        (λ none. absurd (omega arith))

  -- ---- its number

  -- the 1 bits before it, by those of its word
  pub follower-rank : (j : ℕ) → j < 64
      → ones_before (bits_of words) (64 * k) + count_ones (bit_and (get_or words k 0) (2 ^ j - 1)) ≡ ones_before (bits_of words) (64 * k + j)
  follower-rank j low =
      omega (arith, ones_before-bits_of_in_word words k inside j (omega arith), ap count_ones (and_mask (get_or words k 0) j))

  module _ (j : ℕ) (low : j < 64) (follows : FollowsOne (bits_of words) (64 * k + j)) where
    -- it has one before it
    pub follower-late : 1 ≤ ones_before (bits_of words) (64 * k + j)
    follower-late =
        let b = bits_of words in
        let p = 64 * k + j in
        let back : p - 1 + 1 ≡ p = omega (arith, follows.0) in
        omega (arith, ones_before_more b (p - 1) (omega (arith, length-bits_of words)), ap truth follows.1, ap (ones_before b) back)

    -- and is one of those up to the end of the word
    pub follower-within : ones_before (bits_of words) (64 * k + j) + 1 ≤ ones_before (bits_of words) (64 * (k + 1))
    follower-within =
        let b = bits_of words in
        let p = 64 * k + j in
        omega (arith, ones_before_more b p (omega (arith, length-bits_of words)), ap truth follows.2, count_before-le b true (p + 1) (64 * (k + 1)) (omega arith))

-- one of n fragments
pub fragment-among : (low : List ℕ) (l n i : ℕ) → HasFragments (unread low l) n → i < n → HasFragment low i l
fragment-among low l n i h less =
    let most : (i + 1) * l ≤ n * l = mul-le-mul_right l (let e : i + 1 ≤ n = omega arith in e) in
    record { width = h.width; short = omega (arith, h.short); inside = omega (arith, most, h.inside) }

pub fragments-fewer : (low : List ℕ) (l n m : ℕ) → HasFragments (unread low l) n → m ≤ n → HasFragments (unread low l) m
fragments-fewer low l n m h less =
    let most : m * l ≤ n * l = mul-le-mul_right l less in
    record { width = h.width; short = omega (arith, h.short, less); inside = omega (arith, most, h.inside) }

-- ---- all of a word

module _ (w : ℕ) where
  -- position i of a word's 1 bits is a digit of it
  pub position-is : (i : ℕ) → i < length (bit_positions true 0 (bits_of (w ∷ []))) → (get_or (bit_positions true 0 (bits_of (w ∷ []))) i 0 < 64)
      × (digit w (get_or (bit_positions true 0 (bits_of (w ∷ []))) i 0) ≡ true)
  position-is i less =
      let b = bits_of (w ∷ []) in
      let p = get_or (bit_positions true 0 b) i 0 in
      let one = positions_are_picked b true i less in
      let low : p < 64 = omega (arith, one.inside, length-bits_of (w ∷ [])) in
      (low, sym (item-bits_of_at (w ∷ []) p 0 p (omega arith) low (omega arith)) ∙ one.item)

  -- and each such digit has its position among them
  pub position-of : (j : ℕ) → j < 64 → digit w j ≡ true
      → (ones_before (bits_of (w ∷ [])) j < length (bit_positions true 0 (bits_of (w ∷ []))))
      × (get_or (bit_positions true 0 (bits_of (w ∷ []))) (ones_before (bits_of (w ∷ [])) j) 0 ≡ j)
  position-of j low one =
      let b = bits_of (w ∷ []) in
      let here : item b j ≡ true = item-bits_of_at (w ∷ []) j 0 j (omega arith) low (omega arith) ∙ one in
      let pick : Picks b true (ones_before b j) j = Picks-rank b true j (omega (arith, length-bits_of (w ∷ []))) here in
      let some : ones_before b j < length (bit_positions true 0 b) = omega (arith, positions_are_counted b true, rank_below b true _ j pick) in
      (some, same_from_Picks b true (ones_before b j) _ j (positions_are_picked b true (ones_before b j) some) pick)

-- the digits of a word say which bits of word k follow another
abbrev pub FollowAt : List ℕ → ℕ → ℕ → Type 0
FollowAt words k after = (j : ℕ) → j < 64 → (digit after j ≡ true) ↔ FollowsOne (bits_of words) (64 * k + j)

-- p is position m of such digits, so bit p of word k follows another
pub record IsFollower (words : List ℕ) (k after m p : ℕ) : Type 0 where
  pub position : p ≡ get_or (bit_positions true 0 (bits_of (after ∷ []))) m 0
  pub low : p < 64
  pub follows : FollowsOne (bits_of words) (64 * k + p)

pub follower-met : (words : List ℕ) (k after m p : ℕ) → FollowAt words k after
    → (m < length (bit_positions true 0 (bits_of (after ∷ [])))) × (p ≡ get_or (bit_positions true 0 (bits_of (after ∷ []))) m p) → IsFollower words k after m p
follower-met words k after m p are there =
    let ps = bit_positions true 0 (bits_of (after ∷ [])) in
    let is : p ≡ get_or ps m 0 = there.1 ∙ get_or_default ps m p 0 there.0 in
    let at = position-is after m there.0 in
    let low : p < 64 = omega (arith, is, at.0) in
    record { position = is; low = low; follows = (are p low).0 (ap (digit after) is ∙ at.1) }

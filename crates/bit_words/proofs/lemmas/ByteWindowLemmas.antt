-- What the code reads and writes at one little-endian word of bytes is the window of their bits.
use Rattle.std.proofs.Common.{◌≡◌, ℕ, zero, suc, ◌+◌, ◌-◌, ◌*◌, ◌/◌, ◌%◌, ◌^◌, ◌<◌, ◌≤◌, Bool, true, false, cond, ◌||◌, List, ◌++◌, length, map, take, drop, eqb, sym, refl, ap, ◌∙◌, ⊎_elim, arith, subst, length-append, length-drop, length-take, min, max, bit_and, bit_or}
use Rattle.std.proofs.lemmas.Bool.{cases_lt}
use Rattle.std.proofs.lemmas.List.{get_or-drop, get_or-take, get_or_append_left, get_or-append_right}
use Rattle.std.proofs.lemmas.List.FromFn.{length-map-range_with_len, get_or-map-range_with_len}
use Rattle.std.proofs.lemmas.Nat.{pow_pos, shr_below}
use Rattle.std.proofs.lemmas.Nat.Bits.{bit_at-lt, bit_at-zero, bit_at_and, bit_at_or, bit_at_not, same_from_bits_below}
use Rattle.std.specs.Int.{Width, bit_at, bit_not}
use Rattle.std.specs.List.{range_with_len}
use mir.Val.{bits}
use Rattle.bit_lists.proofs.lemmas.BitsLemmas.{same_bits}
use Rattle.bit_lists.proofs.lemmas.NumberLemmas.{number_at-lt, bit_at-number_at, length-with_number, item-with_number_below, item-with_number_inside, item-with_number_above}
use Rattle.bit_lists.proofs.lemmas.WordLemmas.{truth, bit_at-shr, bit_at-shl_below, bit_at-shl, bit_at-mod_above}
use Rattle.bit_lists.specs.Bits.{digit, item}
use Rattle.bit_words.specs.Bytes.{window_len, byte_window, with_window}
use Rattle.bit_lists.specs.Number.{number_of_bits, number_at, with_number}

-- ---- reads

-- a number without its r lowest digits stands r items further on
number_at_shr : (b : List Bool) (t r m : ℕ) → t + r + m ≤ length b → number_at b t (r + m) / 2 ^ r ≡ number_at b (t + r) m
number_at_shr b t r m within =
    let turn : r + m ≡ m + r = omega arith in
    let fits : number_at b t (r + m) < 2 ^ (m + r) = omega (arith, number_at-lt b t (r + m) (omega arith), ap (λ e. 2 ^ e) turn) in
    same_from_bits_below m (number_at b t (r + m) / 2 ^ r) (number_at b (t + r) m)
    (shr_below (number_at b t (r + m)) m r fits) (number_at-lt b (t + r) m within)
    (λ j l.
    let position : t + (r + j) ≡ t + r + j = omega arith in
    bit_at-shr (number_at b t (r + m)) r j (r + j) refl
    ∙ bit_at-number_at b t (r + m) (r + j) (omega arith)
    ∙ ap (λ i. truth (item b i)) position
    ∙ sym (bit_at-number_at b (t + r) m j l))

pub window_read : (b : List Bool) (s k : ℕ) → 0 < k → 8 * (s / 8) + 8 * k ≤ length b
    → number_at b (8 * (s / 8)) (8 * k) / 2 ^ (s % 8) ≡ number_of_bits (byte_window b s k)
unfolding byte_window number_at
window_read b s k some within =
    let whole : 8 * k ≡ s % 8 + window_len s k = omega arith in
    let start : 8 * (s / 8) + s % 8 ≡ s = omega arith in
    ap (λ n. number_at b (8 * (s / 8)) n / 2 ^ (s % 8)) whole
    ∙ number_at_shr b (8 * (s / 8)) (s % 8) (window_len s k) (omega arith)
    ∙ ap (λ i. number_at b i (window_len s k)) start

-- ---- writes

module _ (b : List Bool) (s k v mask : ℕ) (within : s + window_len s k ≤ length b) where
  -- item j of the window after the write
  abbrev changed : ℕ → Bool
  changed j = cond (digit mask j) (digit v j) (item b (s + j) || digit v j)

  abbrev window : List Bool
  window = map changed (range_with_len 0 (window_len s k))

  abbrev rest : List Bool
  rest = drop (s + window_len s k) b

  front_len : length (take s b) ≡ s
  front_len = omega (arith, length-take s b)

  mid_len : length (take s b ++ window) ≡ s + window_len s k
  mid_len = omega (arith, length-append (take s b) window, front_len, length-map-range_with_len changed 0 (window_len s k))

  length-with_window : length (with_window b s k v mask) ≡ length b
  unfolding with_window
  length-with_window = omega (arith, length-append (take s b ++ window) rest, mid_len, length-drop (s + window_len s k) b)

  item-with_window_below : (i : ℕ) → i < s → item (with_window b s k v mask) i ≡ item b i
  unfolding with_window
  item-with_window_below i l =
      get_or_append_left (take s b ++ window) rest false i (omega (arith, mid_len))
      ∙ get_or_append_left (take s b) window false i (omega (arith, front_len))
      ∙ get_or-take s b i false l

  item-with_window_inside : (j : ℕ) → j < window_len s k → item (with_window b s k v mask) (s + j) ≡ changed j
  unfolding with_window
  item-with_window_inside j l =
      get_or_append_left (take s b ++ window) rest false (s + j) (omega (arith, mid_len))
      ∙ get_or-append_right (take s b) window s (s + j) false front_len (omega arith)
      ∙ get_or-map-range_with_len changed 0 (window_len s k) (s + j - s) j false (omega arith) (omega arith)

  item-with_window_above : (i : ℕ) → s + window_len s k ≤ i → item (with_window b s k v mask) i ≡ item b i
  unfolding with_window
  item-with_window_above i l =
      get_or-append_right (take s b ++ window) rest (s + window_len s k) i false mid_len l
      ∙ get_or-drop (s + window_len s k) b (i - (s + window_len s k)) false
      ∙ ap (item b) (let e : s + window_len s k + (i - (s + window_len s k)) ≡ i = omega arith in e)

-- the word at the window after the write, old before and new after: its r lowest digits stay, and above them the digits
-- of the mask say which of v are taken over and to which they are added
record IsWindowWord (old new r n v mask : ℕ) : Type 0 where
  kept : (j : ℕ) → j < r → bit_at new j ≡ bit_at old j
  changed : (j : ℕ) → r + j < n → bit_at new (r + j) ≡ max (min (bit_at old (r + j)) (1 - bit_at mask j)) (bit_at v j)

-- the same of one item
item_changed : (x : Bool) (m d y : ℕ) → m < 2 → d < 2 → y ≡ max (min (truth x) (1 - m)) d
    → eqb y 1 ≡ cond (eqb m 1) (eqb d 1) (x || eqb d 1)
item_changed x (suc (suc m)) d y low_m low_d is = absurd (omega arith)
item_changed x m (suc (suc d)) y low_m low_d is = absurd (omega arith)
item_changed true zero zero y low_m low_d is = ap (λ a. eqb a 1) is
item_changed true zero (suc zero) y low_m low_d is = ap (λ a. eqb a 1) is
item_changed true (suc zero) zero y low_m low_d is = ap (λ a. eqb a 1) is
item_changed true (suc zero) (suc zero) y low_m low_d is = ap (λ a. eqb a 1) is
item_changed false zero zero y low_m low_d is = ap (λ a. eqb a 1) is
item_changed false zero (suc zero) y low_m low_d is = ap (λ a. eqb a 1) is
item_changed false (suc zero) zero y low_m low_d is = ap (λ a. eqb a 1) is
item_changed false (suc zero) (suc zero) y low_m low_d is = ap (λ a. eqb a 1) is

window_written : (b : List Bool) (s k v mask new : ℕ) → 0 < k → 8 * (s / 8) + 8 * k ≤ length b
    → IsWindowWord (number_at b (8 * (s / 8)) (8 * k)) new (s % 8) (8 * k) v mask
    → with_number b (8 * (s / 8)) (8 * k) new ≡ with_window b s k v mask
window_written b s k v mask new some within word =
    same_bits (with_number b t (8 * k) new) (with_window b s k v mask)
    (length-with_number b t (8 * k) new within ∙ sym (length-with_window b s k v mask room))
    (λ i l.
    ⊎_elim
    (λ below. item-with_number_below b t (8 * k) new i within below ∙ sym (item-with_window_below b s k v mask room i (omega arith)))
    (λ from. ⊎_elim
    (λ before.
    let j = i - t in
    let there : t + j ≡ i = omega arith in
    ap (item (with_number b t (8 * k) new)) (sym there)
    ∙ item-with_number_inside b t (8 * k) new j within (omega arith)
    ∙ ap (λ d. eqb d 1) (word.kept j (omega arith) ∙ bit_at-number_at b t (8 * k) j (omega arith))
    ∙ eqb-truth (item b (t + j))
    ∙ ap (item b) there
    ∙ sym (item-with_window_below b s k v mask room i before))
    (λ later. ⊎_elim
    (λ inside.
    let j = i - s in
    let digits : t + (s % 8 + j) ≡ i = omega arith in
    let there : s + j ≡ i = omega arith in
    let was : bit_at (number_at b t (8 * k)) (s % 8 + j) ≡ truth (item b (s + j)) =
    bit_at-number_at b t (8 * k) (s % 8 + j) (omega arith) ∙ ap (λ a. truth (item b a)) (digits ∙ sym there) in
    ap (item (with_number b t (8 * k) new)) (sym digits)
    ∙ item-with_number_inside b t (8 * k) new (s % 8 + j) within (omega arith)
    ∙ item_changed (item b (s + j)) (bit_at mask j) (bit_at v j) (bit_at new (s % 8 + j)) (bit_at-lt mask j) (bit_at-lt v j)
    (word.changed j (omega arith) ∙ ap (λ d. max (min d (1 - bit_at mask j)) (bit_at v j)) was)
    ∙ sym (ap (item (with_window b s k v mask)) (sym there) ∙ item-with_window_inside b s k v mask room j (omega arith)))
    (λ past. item-with_number_above b t (8 * k) new i within (omega arith) ∙ sym (item-with_window_above b s k v mask room i (omega arith)))
    (cases_lt i (s + window_len s k)))
    (cases_lt i s))
    (cases_lt i t))
  where
    t : ℕ
    t = 8 * (s / 8)

    room : s + window_len s k ≤ length b
    room = omega arith

    eqb-truth : (x : Bool) → eqb (truth x) 1 ≡ x
    eqb-truth true = refl
    eqb-truth false = refl

module _ (w : Width) (old r v : ℕ) where
  -- `old | v << r`
  init_word : IsWindowWord old (bit_or old (v * 2 ^ r % 2 ^ bits w)) r (bits w) v 0
  init_word = record {
    kept = λ j l. kept_by j l;
    changed = λ j l.
        let x : bit_at (v * 2 ^ r % 2 ^ bits w) (r + j) ≡ bit_at v j = bit_at-shl v r (bits w) (r + j) j l refl in
        omega (arith, bit_at_or old (v * 2 ^ r % 2 ^ bits w) (r + j), x, bit_at-lt old (r + j), bit_at-zero j);
  }
    where
      kept_by : (j : ℕ) → j < r → bit_at (bit_or old (v * 2 ^ r % 2 ^ bits w)) j ≡ bit_at old j
      kept_by j l = ⊎_elim
          (λ low. omega (arith, bit_at_or old (v * 2 ^ r % 2 ^ bits w) j, bit_at-shl_below v r (bits w) j low l))
          (λ high. omega (arith, bit_at_or old (v * 2 ^ r % 2 ^ bits w) j, bit_at-mod_above (v * 2 ^ r) (bits w) j high))
          (cases_lt j (bits w))

  -- `old & !(mask << r) | v << r`
  set_word : (mask : ℕ) → r ≤ bits w
      → IsWindowWord old (bit_or (bit_and old (bit_not w (mask * 2 ^ r % 2 ^ bits w))) (v * 2 ^ r % 2 ^ bits w)) r (bits w) v mask
  set_word mask small = record {
    kept = λ j l.
        let low : j < bits w = omega arith in
        omega (arith, digits mask j low, bit_at-shl_below mask r (bits w) j low l, bit_at-shl_below v r (bits w) j low l, bit_at-lt old j);
    changed = λ j l.
        let m : bit_at (mask * 2 ^ r % 2 ^ bits w) (r + j) ≡ bit_at mask j = bit_at-shl mask r (bits w) (r + j) j l refl in
        let x : bit_at (v * 2 ^ r % 2 ^ bits w) (r + j) ≡ bit_at v j = bit_at-shl v r (bits w) (r + j) j l refl in
        omega (arith, digits mask (r + j) l, m, x);
  }
    where
      digits : (mask j : ℕ) → j < bits w
          → bit_at (bit_or (bit_and old (bit_not w (mask * 2 ^ r % 2 ^ bits w))) (v * 2 ^ r % 2 ^ bits w)) j
          ≡ max (min (bit_at old j) (1 - bit_at (mask * 2 ^ r % 2 ^ bits w) j)) (bit_at (v * 2 ^ r % 2 ^ bits w) j)
      digits mask j low =
          let cleared = mask * 2 ^ r % 2 ^ bits w in
          let fits : cleared < 2 ^ bits w = omega (arith, pow_pos (bits w)) in
          omega (
            arith,
            bit_at_or (bit_and old (bit_not w cleared)) (v * 2 ^ r % 2 ^ bits w) j,
            bit_at_and old (bit_not w cleared) j,
            bit_at_not w cleared j fits low,
          )

module _ (w : Width) (b : List Bool) (s k old : ℕ) (size : bits w ≡ 8 * k) (some : 0 < k)
    (within : 8 * (s / 8) + 8 * k ≤ length b) (read : old ≡ number_at b (8 * (s / 8)) (8 * k)) where
  by_word : (v mask new : ℕ) → IsWindowWord old new (s % 8) (bits w) v mask
      → with_number b (8 * (s / 8)) (8 * k) new ≡ with_window b s k v mask
  by_word v mask new word =
      let P : ℕ → Type 0 = λ n. IsWindowWord old new (s % 8) n v mask in
      let Q : ℕ → Type 0 = λ x. IsWindowWord x new (s % 8) (8 * k) v mask in
      window_written b s k v mask new some within (subst Q read (subst P size word))

  pub window_init : (v : ℕ) → with_number b (8 * (s / 8)) (8 * k) (bit_or old (v * 2 ^ (s % 8) % 2 ^ bits w)) ≡ with_window b s k v 0
  window_init v = by_word v 0 _ (init_word w old (s % 8) v)

  pub window_set : (v mask : ℕ)
      → with_number b (8 * (s / 8)) (8 * k)
      (bit_or (bit_and old (bit_not w (mask * 2 ^ (s % 8) % 2 ^ bits w))) (v * 2 ^ (s % 8) % 2 ^ bits w))
      ≡ with_window b s k v mask
  window_set v mask = by_word v mask _ (set_word w old (s % 8) v mask (omega (arith, size)))

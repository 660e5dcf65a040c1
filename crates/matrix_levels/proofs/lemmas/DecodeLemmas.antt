-- Any bits are the levels of the numbers that they hold.
use Rattle.std.proofs.Common.{◌≡◌, ℕ, zero, suc, ◌+◌, ◌-◌, ◌*◌, ◌/◌, ◌%◌, ◌^◌, ◌<◌, ◌≤◌, Bool, true, false, if◌then◌else◌, List, ◌++◌, length, take, drop, get_or, count_by, All, refl, sym, ap, ◌∙◌, subst, arith, one-add, lit<, ⊎_elim}
use Rattle.std.proofs.lemmas.Bool.{cases_lt}
use Rattle.std.proofs.lemmas.Bool.Decides.{eqb_tells}
use Rattle.std.proofs.lemmas.Grind.{get_or_default_zero}
use Rattle.std.proofs.lemmas.List.{ext_get_or, length-drop, length-take-le, take_all}
use Rattle.std.proofs.lemmas.List.FromFn.{length-map-range_with_len, get_or-map-range_with_len}
use Rattle.std.proofs.lemmas.Nat.{mod-pow-add, pow_pos}
use Rattle.std.proofs.Math.Nat.{mod-eq_of_lt, mod-lt, mul-le-mul_right, pow-succ'}
use Rattle.std.proofs.Math.Seq.{take-add}
use Rattle.bit_lists.specs.Bits.{digit, item}
use Rattle.bit_lists.specs.Count.{count_before, count_of, ones_before, zeros_before, zeros_of, Picks}
use Rattle.bit_lists.proofs.BitLaws.{one_picked_for_each_rank}
use Rattle.matrix_levels.specs.Levels.{has_digit, partition, column, columns, level, partition_position}
use Rattle.matrix_levels.specs.Matrix.{level_items, low_part, next_position}
use Rattle.matrix_levels.proofs.lemmas.ColumnLemmas.{count-column, item-column, length-column, length-level}
use Rattle.matrix_levels.proofs.lemmas.PartLemmas.{both-digits, item-moved}

-- two numbers below 2^r, each with digit r before it: both are the same where the sums are
same_parts : (u v : Bool) (a c m : ℕ) → a < m → c < m → (if u then m else 0) + a ≡ (if v then m else 0) + c → (u ≡ v) × (a ≡ c)
same_parts true true a c m small few e = (refl, omega (arith, e))
same_parts false false a c m small few e = (refl, omega (arith, e))
same_parts true false a c m small few e = absurd (omega (arith, e, few))
same_parts false true a c m small few e = absurd (omega (arith, e, small))

-- a digit, and those below it
digit-more : (x r : ℕ) → (if digit x r then 2 ^ r else 0) + x % 2 ^ r ≡ x % 2 ^ (suc r)
digit-more x r =
    ⊎_elim
    (λ t. ap (λ k. (if k then 2 ^ r else 0) + x % 2 ^ r) t.0
    ∙ omega (arith, ap (λ k. k * 2 ^ r) t.1, mod-pow-add x 1 r) ∙ ap (λ k. x % 2 ^ k) (one-add r))
    (λ t. ap (λ k. (if k then 2 ^ r else 0) + x % 2 ^ r) t.0
    ∙ omega (arith, ap (λ k. k * 2 ^ r) (let z : x / 2 ^ r % 2 ≡ 0 = omega (arith, t.1) in z), mod-pow-add x 1 r) ∙ ap (λ k. x % 2 ^ k) (one-add r))
    (eqb_tells (x / 2 ^ r % 2) 1)

low-more : (v : Bool) (r m : ℕ) → m < 2 ^ r → (if v then 2 ^ r else 0) + m < 2 ^ (suc r)
low-more true r m small = omega (arith, small, pow-succ' 2 r)
low-more false r m small = omega (arith, small, pow-succ' 2 r)

-- r digits are below 2^r
low-small : (b : List Bool) (w n r p : ℕ) → low_part b w n r p < 2 ^ r
unfolding low_part
low-small b w n zero p = lit< tt
low-small b w n (suc r) p =
    let c = take n (drop ((w - suc r) * n) b) in
    low-more (item c p) r (low_part b w n r (next_position c p)) (low-small b w n r (next_position c p))

-- where level d of some numbers has the low digits that the bits hold from there on
abbrev HasLow : List Bool → List ℕ → ℕ → ℕ → ℕ → ℕ → Type 0
HasLow b xs w n d r = (p : ℕ) → p < n → get_or (level xs w d) p 0 % 2 ^ r ≡ low_part b w n r p

module _ (b : List Bool) (xs : List ℕ) (w n d r : ℕ) (room : w * n ≤ length b) (count : length xs ≡ n) (e : d + suc r ≡ w)
    (low : HasLow b xs w n d (suc r)) where
  -- the bits of the level
  abbrev c : List Bool
  c = take n (drop (d * n) b)

  abbrev ys : List ℕ
  ys = level xs w d

  c-len : length c ≡ n
  c-len =
      let more = mul-le-mul_right n (let f : d + 1 ≤ w = omega (arith, e) in f) in
      length-take-le n (drop (d * n) b) (omega (arith, length-drop (d * n) b, room, more))

  ys-len : length ys ≡ n
  ys-len = length-level xs w d ∙ count

  split : (p : ℕ) → p < n → (digit (get_or ys p 0) r ≡ item c p) × (get_or ys p 0 % 2 ^ r ≡ low_part b w n r (next_position c p))
  unfolding low_part
  split p inside =
      let same : w - suc r ≡ d = omega (arith, e) in
      let bit : Bool = digit (get_or ys p 0) r in
      let step : low_part b w n (suc r) p ≡ (if item c p then 2 ^ r else 0) + low_part b w n r (next_position c p) =
      ap (λ k. (if item (take n (drop (k * n) b)) p then 2 ^ r else 0) + low_part b w n r (next_position (take n (drop (k * n) b)) p)) same in
      same_parts bit (item c p) (get_or ys p 0 % 2 ^ r) (low_part b w n r (next_position c p)) (2 ^ r)
      (mod-lt (get_or ys p 0) (pow_pos r))
      (low-small b w n r (next_position c p))
      (digit-more (get_or ys p 0) r ∙ low p inside ∙ step)

  pub is-column : c ≡ column r ys
  is-column =
      ext_get_or false c (column r ys) (c-len ∙ sym (length-column r ys ∙ ys-len))
      (λ p inside.
      let within : p < n = omega (arith, inside, c-len) in
      sym (split p within).0 ∙ sym (item-column r ys p (omega (arith, within, ys-len))))

  -- the bit that comes to position q of the next level, and its item
  from : (v : Bool) (k q p : ℕ) → Picks c v k p → next_position c p ≡ q → partition_position r v ys p ≡ q
      → get_or (partition r ys) q 0 % 2 ^ r ≡ low_part b w n r q
  from v k q p picked next moves =
      let within : p < n = omega (arith, picked.inside, c-len) in
      let own : digit (get_or ys p 0) r ≡ v = (split p within).0 ∙ picked.item in
      let at = item-moved r v ys p (omega (arith, within, ys-len)) own in
      ap (λ m. get_or (partition r ys) m 0 % 2 ^ r) (sym moves)
      ∙ ap (λ x. x % 2 ^ r) at
      ∙ (split p within).1
      ∙ ap (low_part b w n r) next

  counted : (v : Bool) (p : ℕ) → count_before c v p ≡ count_by (has_digit r v) (take p ys)
  counted v p = ap (λ k. count_before k v p) is-column ∙ count-column r ys v p

  all-counted : (v : Bool) → count_of c v ≡ count_by (has_digit r v) ys
  all-counted v =
      counted v (length c) ∙ ap (count_by (has_digit r v)) (take_all (length c) ys (omega (arith, c-len, ys-len)))

  both : zeros_of c + count_of c true ≡ n
  both = omega (arith, all-counted false, all-counted true, both-digits r ys, ys-len)

  from-zero : (q : ℕ) → q < zeros_of c → get_or (partition r ys) q 0 % 2 ^ r ≡ low_part b w n r q
  unfolding partition_position
  from-zero q less =
      let found = one_picked_for_each_rank c false q less in
      let picked = found.1 in
      from false q q found.0 picked
      (ap (λ v. if v then zeros_of c + ones_before c found.0 else zeros_before c found.0) picked.item ∙ picked.before)
      (sym (counted false found.0) ∙ picked.before)

  from-one : (q k : ℕ) → zeros_of c + k ≡ q → k < count_of c true → get_or (partition r ys) q 0 % 2 ^ r ≡ low_part b w n r q
  unfolding partition_position
  from-one q k at less =
      let found = one_picked_for_each_rank c true k less in
      let picked = found.1 in
      from true k q found.0 picked
      (ap (λ v. if v then zeros_of c + ones_before c found.0 else zeros_before c found.0) picked.item
      ∙ ap (λ m. zeros_of c + m) picked.before ∙ at)
      (omega (arith, all-counted false, counted true found.0, picked.before, at))

  pub next-low : HasLow b xs w n (suc d) r
  unfolding level
  next-low q inside =
      let position : w - 1 - d ≡ r = omega (arith, e) in
      ap (λ k. get_or (partition k ys) q 0 % 2 ^ r) position
      ∙ ⊎_elim (λ l. from-zero q l) (λ g. from-one q (q - zeros_of c) (omega (arith, g)) (omega (arith, g, both, inside)))
      (cases_lt q (zeros_of c))

-- the low digits of each level, and the bits up to it
module _ (b : List Bool) (w n : ℕ) (room : w * n ≤ length b) where
  abbrev xs : List ℕ
  xs = level_items b w n

  pub items-len : length xs ≡ n
  items-len = length-map-range_with_len (low_part b w n w) 0 n

  item-at : (p : ℕ) → p < n → get_or xs p 0 ≡ low_part b w n w p
  item-at p inside = get_or-map-range_with_len (low_part b w n w) 0 n p p 0 inside (omega arith)

  pub items-fit : All (λ x. x < 2 ^ w) xs
  items-fit i x inside =
      let within : i < n = omega (arith, inside, items-len) in
      let P : ℕ → Type 0 = λ y. y < 2 ^ w in
      subst P (sym (get_or_default_zero xs i x inside ∙ item-at i within)) (low-small b w n w i)

  lows : (d r : ℕ) → d + r ≡ w → HasLow b xs w n d r
  unfolding level
  lows zero r e p inside =
      let whole : r ≡ w = omega (arith, e) in
      ap (λ k. get_or xs p 0 % 2 ^ k) whole
      ∙ ap (λ x. x % 2 ^ w) (item-at p inside)
      ∙ mod-eq_of_lt (low-small b w n w p)
      ∙ ap (λ k. low_part b w n k p) (sym whole)
  lows (suc d) r e p inside =
      let f : d + suc r ≡ w = omega (arith, e) in
      next-low b xs w n d r room items-len f (lows d (suc r) f) p inside

  fronts : (d r : ℕ) → d + r ≡ w → take (d * length xs) b ≡ columns xs w d
  unfolding columns
  fronts zero r e = let none : 0 * length xs ≡ 0 = omega arith in ap (λ k. take k b) none
  fronts (suc d) r e =
      let f : d + suc r ≡ w = omega (arith, e) in
      let own : take n (drop (d * n) b) ≡ column r (level xs w d) = is-column b xs w n d r room items-len f (lows d (suc r) f) in
      let position : w - 1 - d ≡ r = omega (arith, e) in
      let more : suc d * length xs ≡ d * length xs + length xs = omega arith in
      ap (λ k. take k b) more
      ∙ take-add (d * length xs) (length xs) b
      ∙ ap (λ l. l ++ take (length xs) (drop (d * length xs) b)) (fronts d (suc r) f)
      ∙ ap (λ m. columns xs w d ++ take m (drop (d * m) b)) items-len
      ∙ ap (λ l. columns xs w d ++ l) own
      ∙ ap (λ k. columns xs w d ++ column k (level xs w d)) (sym position)

  -- the bits are the levels of the numbers that they hold
  pub any-levels : take (w * n) b ≡ columns xs w w
  any-levels = ap (λ k. take (w * k) b) (sym items-len) ∙ fronts w 0 (omega arith)

-- The positions of the 1 bits are those that were given, and counts follow from positions.
use Rattle.std.proofs.Common.{◌≡◌, ℕ, zero, suc, ◌+◌, ◌-◌, ◌<◌, ◌≤◌, Bool, true, false, cond, eq-eqb, List, [], ◌∷◌, length, get_or, refl, sym, ap, ◌∙◌, subst, arith, ⊎_elim}
use Rattle.std.proofs.lemmas.Bool.{cases_lt, cases_eq, eqb-true, ne_eqb, false_from_ne_true}
use Rattle.std.proofs.lemmas.List.{get_or_default}
use Rattle.std.specs.List.{All, Contains}
use Rattle.std.specs.Prelude.{if◌then◌else◌, ◌==◌, ◌↔◌, IsTrue}
use Rattle.bit_lists.proofs.BitLaws.{positions_are_picked, positions_are_counted, positions_rise, counts_grow, count_after_item, ones_and_zeros, picked_by_rank, at_most_one_picked}
use Rattle.bit_lists.specs.Bits.{item}
use Rattle.elias_fano.specs.Sequence.{Reaches}
use Rattle.bit_lists.specs.Count.{ones_before, ones_of, zeros_of, bit_positions, Picks}
use Rattle.sparse_bits.specs.Positions.{bits_at, AreBitPositions, PartsZeros}

pub bits_at-length : (n k : ℕ) (xs : List ℕ) → length (bits_at n k xs) ≡ n
unfolding bits_at
bits_at-length zero k xs = refl
bits_at-length (suc n) k [] = ap suc (bits_at-length n (k + 1) [])
bits_at-length (suc n) k (x ∷ xs) = split (x == k) (bits_at n (k + 1) xs) (bits_at n (k + 1) (x ∷ xs)) (bits_at-length n (k + 1) xs) (bits_at-length n (k + 1) (x ∷ xs))
  where
    split : (t : Bool) (a b : List Bool) → length a ≡ n → length b ≡ n → length (if t then true ∷ a else false ∷ b) ≡ suc n
    split true a b h e = ap suc h
    split false a b h e = ap suc e

-- the positions of fewer numbers
later : (n k : ℕ) (xs : List ℕ) → AreBitPositions (suc n) k xs → ((i : ℕ) → i < length xs → k + 1 ≤ get_or xs i 0) → AreBitPositions n (k + 1) xs
later n k xs h from = record { rising = h.rising; from = from; below = λ i l. omega (arith, h.below i l) }

rest : (n k x : ℕ) (xs : List ℕ) → AreBitPositions n k (x ∷ xs) → AreBitPositions n k xs
rest n k x xs h = record {
  rising = λ i j l m. h.rising (suc i) (suc j) (omega arith) (omega arith);
  from = λ i l. h.from (suc i) (omega arith);
  below = λ i l. h.below (suc i) (omega arith);
}

-- numbers that are more than k leave a 0 bit there
skip : (n k : ℕ) (ys : List ℕ) → ((i : ℕ) → i < length ys → k + 1 ≤ get_or ys i 0) → bits_at (suc n) k ys ≡ false ∷ bits_at n (k + 1) ys
unfolding bits_at
skip n k [] from = refl
skip n k (y ∷ ys) from =
    let l : k + 1 ≤ y = from 0 (omega arith) in
    let test : (y == k) ≡ false = ne_eqb y k (λ e. omega (arith, e, l)) in
    ap (λ (t : Bool). if t then true ∷ bits_at n (k + 1) ys else false ∷ bits_at n (k + 1) (y ∷ ys)) test

here : (n k : ℕ) (ys : List ℕ) → bits_at (suc n) k (k ∷ ys) ≡ true ∷ bits_at n (k + 1) ys
unfolding bits_at
here n k ys = ap (λ (t : Bool). if t then true ∷ bits_at n (k + 1) ys else false ∷ bits_at n (k + 1) (k ∷ ys)) (eq-eqb k k refl)

positions_from : (k : ℕ) (b : List Bool) (i : ℕ) → i < length (bit_positions true k b) → k ≤ get_or (bit_positions true k b) i 0
positions_from k [] i l = absurd (omega (arith, l))
positions_from k (true ∷ b) zero l = omega arith
positions_from k (true ∷ b) (suc i) l = let m : k + 1 ≤ get_or (bit_positions true (k + 1) b) i 0 = positions_from (k + 1) b i (omega (arith, l)) in omega (arith, m)
positions_from k (false ∷ b) i l = let m : k + 1 ≤ get_or (bit_positions true (k + 1) b) i 0 = positions_from (k + 1) b i l in omega (arith, m)

-- bits are those at the positions of their 1 bits
pub bits_at-of_positions : (k : ℕ) (b : List Bool) → bits_at (length b) k (bit_positions true k b) ≡ b
unfolding bits_at
bits_at-of_positions k [] = refl
bits_at-of_positions k (true ∷ b) = here (length b) k (bit_positions true (k + 1) b) ∙ ap (λ (c : List Bool). true ∷ c) (bits_at-of_positions (k + 1) b)
bits_at-of_positions k (false ∷ b) =
    skip (length b) k (bit_positions true (k + 1) b) (positions_from (k + 1) b) ∙ ap (λ (c : List Bool). false ∷ c) (bits_at-of_positions (k + 1) b)

-- bits with the same number and the same positions of 1 bits are the same
pub same_bits : (b c : List Bool) → length b ≡ length c → bit_positions true 0 b ≡ bit_positions true 0 c → b ≡ c
same_bits b c len is =
    sym (bits_at-of_positions 0 b) ∙ (ap (λ (n : ℕ). bits_at n 0 (bit_positions true 0 b)) len ∙ (ap (bits_at (length c) 0) is ∙ bits_at-of_positions 0 c))

-- the positions of 1 bits rise, and are those of bits
pub are_positions : (b : List Bool) → AreBitPositions (length b) 0 (bit_positions true 0 b)
are_positions b = record {
  rising = λ i j l m. rises_to (bit_positions true 0 b) (positions_rise b true) i (j - i - 1) j (omega (arith, l)) m;
  from = λ i l. omega arith;
  below = λ i l. omega (arith, (positions_are_picked b true i l).inside);
}
  where
    rises_to : (xs : List ℕ) → ((k : ℕ) → k + 1 < length xs → get_or xs k 0 < get_or xs (k + 1) 0) → (i d j : ℕ) → j ≡ i + d + 1 → j < length xs → get_or xs i 0 < get_or xs j 0
    rises_to xs step i zero j e l =
        subst (λ (m : ℕ). get_or xs i 0 < get_or xs m 0) (let f : i + 1 ≡ j = omega (arith, e) in f) (step i (omega (arith, e, l)))
    rises_to xs step i (suc d) j e l =
        let before : get_or xs i 0 < get_or xs (j - 1) 0 = rises_to xs step i d (j - 1) (omega (arith, e)) (omega (arith, l)) in
        let last : get_or xs (j - 1) 0 < get_or xs (j - 1 + 1) 0 = step (j - 1) (omega (arith, e, l)) in
        subst (λ (m : ℕ). get_or xs i 0 < get_or xs m 0) (let f : j - 1 + 1 ≡ j = omega (arith, e) in f) (omega (arith, before, last))

pub bits_at-positions : (n k : ℕ) (xs : List ℕ) → AreBitPositions n k xs → bit_positions true k (bits_at n k xs) ≡ xs
unfolding bits_at
bits_at-positions zero k [] h = refl
bits_at-positions zero k (x ∷ xs) h = absurd (omega (arith, h.from 0 (omega arith), h.below 0 (omega arith)))
bits_at-positions (suc n) k [] h = bits_at-positions n (k + 1) [] (record { rising = λ i j l m. absurd (omega arith); from = λ i l. absurd (omega arith); below = λ i l. absurd (omega arith) })
bits_at-positions (suc n) k (x ∷ xs) h = ⊎_elim
    (λ (e : x ≡ k).
    let test : (x == k) ≡ true = eq-eqb x k e in
    let tail : bit_positions true (k + 1) (bits_at n (k + 1) xs) ≡ xs =
    bits_at-positions n (k + 1) xs (later n k xs (rest (suc n) k x xs h) (λ i l. let m : x < get_or xs i 0 = h.rising 0 (suc i) (omega arith) (omega arith) in omega (arith, m, e))) in
    ap (λ (t : Bool). bit_positions true k (if t then true ∷ bits_at n (k + 1) xs else false ∷ bits_at n (k + 1) (x ∷ xs))) test
    ∙ (ap (λ (ys : List ℕ). k ∷ ys) tail ∙ ap (λ (y : ℕ). y ∷ xs) (sym e)))
    (λ (d : x ≡ k → ⊥).
    let test : (x == k) ≡ false = ne_eqb x k d in
    ap (λ (t : Bool). bit_positions true k (if t then true ∷ bits_at n (k + 1) xs else false ∷ bits_at n (k + 1) (x ∷ xs))) test
    ∙ bits_at-positions n (k + 1) (x ∷ xs) (later n k (x ∷ xs) h (λ i l. ⊎_elim
    (λ (z : i < 1). let e : i ≡ 0 = omega (arith, z) in let f : k ≤ x = h.from 0 (omega arith) in
    let g : k + 1 ≤ x = omega (arith, f, d) in
    subst (λ (m : ℕ). k + 1 ≤ get_or (x ∷ xs) m 0) (sym e) g)
    (λ (s : 1 ≤ i). omega (arith, h.from 0 (omega arith), h.rising 0 i (omega (arith, s)) l))
    (cases_lt i 1))))
    (cases_eq x k)

-- ---- counts, by the positions of ones

module _ (b : List Bool) (xs : List ℕ) (is : bit_positions true 0 b ≡ xs) where
  pub picked_at : (j : ℕ) → j < length xs → Picks b true j (get_or xs j 0)
  picked_at j l = subst (λ (ys : List ℕ). Picks b true j (get_or ys j 0)) is (positions_are_picked b true j (omega (arith, l, ap length is)))

  pub all_ones : ones_of b ≡ length xs
  all_ones = sym (positions_are_counted b true) ∙ ap length is

  -- so many ones stand before position i where so many of the positions are less
  pub ones_by_positions : (i p : ℕ) → i ≤ length b → p ≤ length xs → ((j : ℕ) → j < p → get_or xs j 0 < i) → (p < length xs → i ≤ get_or xs p 0)
      → ones_before b i ≡ p
  ones_by_positions i p inside bound less reached =
      let low : p ≤ ones_before b i = ⊎_elim
      (λ (none : p < 1). omega (arith, none))
      (λ (some : 1 ≤ p).
      let last = picked_at (p - 1) (omega (arith, some, bound)) in
      let after : ones_before b (get_or xs (p - 1) 0 + 1) ≡ p - 1 + 1 =
      count_after_item b true _ last.inside ∙ (ap (λ (x : Bool). ones_before b (get_or xs (p - 1) 0) + cond x 1 0) last.item ∙ ap (λ (n : ℕ). n + 1) last.before) in
      omega (arith, after, some, counts_grow b true (get_or xs (p - 1) 0 + 1) i (let l : get_or xs (p - 1) 0 < i = less (p - 1) (omega (arith, some)) in omega (arith, l))))
      (cases_lt p 1) in
      let high : ones_before b i ≤ p = ⊎_elim
      (λ (l : p < length xs). omega (arith, (picked_at p l).before, counts_grow b true i (get_or xs p 0) (reached l)))
      (λ (past : length xs ≤ p). omega (arith, counts_grow b true i (length b) inside, all_ones, past, bound))
      (cases_lt p (length xs)) in
      omega (arith, low, high)

  -- a position that is none of these is a zero
  pub zero_between : (p c : ℕ) → p < length b → c ≤ length xs → ((j : ℕ) → j < c → get_or xs j 0 < p) → ((j : ℕ) → c ≤ j → j < length xs → p < get_or xs j 0)
      → item b p ≡ false
  zero_between p c inside bound less more =
      let here = ones_by_positions p c (omega (arith, inside)) bound less (λ l. omega (arith, more c (omega arith) l)) in
      let next = ones_by_positions (p + 1) c (omega (arith, inside)) bound (λ j l. omega (arith, less j l)) (λ l. omega (arith, more c (omega arith) l)) in
      off (item b p) (omega (arith, here, next, count_after_item b true p inside))
    where
      off : (x : Bool) → cond {A = ℕ} x 1 0 ≡ 0 → x ≡ false
      off true h = absurd (omega (arith, h))
      off false h = refl

  -- the zero with r zeros before it
  pub zero_picked : (r c : ℕ) → PartsZeros xs r c → r + c < length b → Picks b false r (r + c)
  zero_picked r c h inside =
      let less : (j : ℕ) → j < c → get_or xs j 0 < r + c = λ j l. omega (arith, h.few j l) in
      let here = ones_by_positions (r + c) c (omega (arith, inside)) h.bound less (λ l. omega (arith, h.more c (omega arith) l)) in
      record {
        inside = inside;
        item = zero_between (r + c) c inside h.bound less (λ j from l. omega (arith, h.more j from l));
        before = omega (arith, here, ones_and_zeros b (r + c) (omega (arith, inside)));
      }

  pub all_zeros : zeros_of b + length xs ≡ length b
  all_zeros = omega (arith, all_ones, ones_and_zeros b (length b) (omega arith))

  -- a one is a position of these
  one_is_there : (p : ℕ) → p < length b → item b p ≡ true → Contains xs p
  one_is_there p inside one =
      let r = ones_before b p in
      let here : Picks b true r p = (picked_by_rank b true p inside one).0 in
      let less : r < length xs = omega (arith, all_ones, count_after_item b true p inside, ap (λ (x : Bool). cond {A = ℕ} x 1 0) one, counts_grow b true (p + 1) (length b) (omega (arith, inside))) in
      let same : get_or xs r 0 ≡ p = at_most_one_picked b true r (get_or xs r 0) p (picked_at r less) here in
      (r, less, get_or_default xs r p 0 less ∙ same)

  position_is_one : (p : ℕ) → Contains xs p → item b p ≡ true
  position_is_one p c =
      let is : get_or xs c.0 0 ≡ p = sym (get_or_default xs c.0 p 0 c.1) ∙ c.2 in
      ap (item b) (sym is) ∙ (picked_at c.0 c.1).item

  pub item_contains : (p : ℕ) (t : Bool) → p < length b → (t ≡ true → Contains xs p) → (Contains xs p → t ≡ true) → t ≡ item b p
  item_contains p true inside f g = sym (position_is_one p (f refl))
  item_contains p false inside f g = sym (false_from_ne_true (item b p) (λ one. let both : false ≡ true = g (one_is_there p inside one) in cc))

-- rising numbers are further apart than their positions
pub grow : (xs : List ℕ) (i d : ℕ) → ((i j : ℕ) → i < j → j < length xs → get_or xs i 0 < get_or xs j 0) → i + d < length xs → get_or xs i 0 + d ≤ get_or xs (i + d) 0
grow xs i zero rising l = let e : i + 0 ≡ i = omega arith in omega (arith, ap (λ (k : ℕ). get_or xs k 0) e)
grow xs i (suc d) rising l =
    let e : i + suc d ≡ i + d + 1 = omega arith in
    omega (arith, grow xs i d rising (omega (arith, l)), rising (i + d) (i + suc d) (omega arith) l)

pub grow_to : (xs : List ℕ) (i j : ℕ) → ((i j : ℕ) → i < j → j < length xs → get_or xs i 0 < get_or xs j 0) → i ≤ j → j < length xs → get_or xs i 0 + j ≤ get_or xs j 0 + i
grow_to xs i j rising order l =
    let e : i + (j - i) ≡ j = omega (arith, order) in
    omega (arith, grow xs i (j - i) rising (omega (arith, e, l)), ap (λ (k : ℕ). get_or xs k 0) e)

pub at_least_position : (xs : List ℕ) (j : ℕ) → ((i j : ℕ) → i < j → j < length xs → get_or xs i 0 < get_or xs j 0) → j < length xs → j ≤ get_or xs j 0
at_least_position xs j rising l = omega (arith, grow_to xs 0 j rising (omega arith) l)

-- ---- the queries, by the positions

module _ (len : ℕ) (xs : List ℕ) (h : AreBitPositions len 0 xs) where
  is : bit_positions true 0 (bits_at len 0 xs) ≡ xs
  is = bits_at-positions len 0 xs h

  pub bits_count : length (bits_at len 0 xs) ≡ len
  bits_count = bits_at-length len 0 xs

  pub ones_count : ones_of (bits_at len 0 xs) ≡ length xs
  ones_count = all_ones (bits_at len 0 xs) xs is

  pub zeros_count : zeros_of (bits_at len 0 xs) + length xs ≡ len
  zeros_count = all_zeros (bits_at len 0 xs) xs is ∙ bits_count

  pub rank_some : (i p : ℕ) → i ≤ len → Reaches xs i p → ones_before (bits_at len 0 xs) i ≡ p
  rank_some i p inside reach =
      ones_by_positions (bits_at len 0 xs) xs is i p (omega (arith, inside, bits_count)) (omega (arith, reach.inside)) reach.before (λ l. reach.at_least)

  pub rank_none : (i : ℕ) → i ≤ len → All (λ x. x < i) xs → ones_before (bits_at len 0 xs) i ≡ length xs
  rank_none i inside all =
      ones_by_positions (bits_at len 0 xs) xs is i (length xs) (omega (arith, inside, bits_count)) (omega arith) (λ j l. all j 0 l) (λ l. absurd (omega (arith, l)))

  pub bit_some : (p c : ℕ) → p < len → Reaches xs p c → (get_or xs c 0 == p) ≡ item (bits_at len 0 xs) p
  bit_some p c inside reach =
      item_contains (bits_at len 0 xs) xs is p (get_or xs c 0 == p) (omega (arith, inside, bits_count))
      (λ (t : (get_or xs c 0 == p) ≡ true). (c, reach.inside, get_or_default xs c p 0 reach.inside ∙ eqb-true (get_or xs c 0) p t))
      (λ (t : Contains xs p).
      let v : get_or xs t.0 0 ≡ p = sym (get_or_default xs t.0 p 0 t.1) ∙ t.2 in
      let from : c ≤ t.0 = ⊎_elim
      (λ (l : t.0 < c). absurd (omega (arith, reach.before t.0 l, v)))
      (λ (l : c ≤ t.0). l)
      (cases_lt t.0 c) in
      let most : get_or xs c 0 ≤ p = ⊎_elim
      (λ (l : c < t.0). omega (arith, h.rising c t.0 l t.1, v))
      (λ (l : t.0 ≤ c). let e : c ≡ t.0 = omega (arith, from, l) in omega (arith, ap (λ (k : ℕ). get_or xs k 0) e, v))
      (cases_lt c t.0) in
      let same : get_or xs c 0 ≡ p = omega (arith, most, reach.at_least) in
      eq-eqb (get_or xs c 0) p same)

  pub bit_none : (p : ℕ) → p < len → All (λ x. x < p) xs → item (bits_at len 0 xs) p ≡ false
  bit_none p inside all =
      zero_between (bits_at len 0 xs) xs is p (length xs) (omega (arith, inside, bits_count)) (omega arith) (λ j l. all j 0 l) (λ j from l. absurd (omega (arith, from, l)))

  -- a bit is 1 where its position is one of the numbers
  pub bit_held : (p : ℕ) (t : Bool) → p < len → (IsTrue t ↔ Contains xs p) → t ≡ item (bits_at len 0 xs) p
  bit_held p t inside held = item_contains (bits_at len 0 xs) xs is p t (omega (arith, inside, bits_count)) held.0 held.1

  pub select_some : (r : ℕ) → r < length xs → Picks (bits_at len 0 xs) true r (get_or xs r 0)
  select_some r l = picked_at (bits_at len 0 xs) xs is r l

  pub select0_some : (r c : ℕ) → PartsZeros xs r c → r + length xs < len → Picks (bits_at len 0 xs) false r (r + c)
  select0_some r c parts l = zero_picked (bits_at len 0 xs) xs is r c parts (omega (arith, bits_count, parts.bound, l))

  pub few_ones : length xs ≤ len
  few_ones = omega (arith, zeros_count)

-- The bits of a tree: where their zeros and ones stand.
use Rattle.std.proofs.Common.{◌≡◌, ℕ, zero, suc, ◌+◌, ◌-◌, ◌*◌, ◌/◌, ◌%◌, ◌^◌, ◌<◌, ◌≤◌, ◌⊎◌, inl, inr, Bool, true, false, not, cond, List, length, length-take, take, get_or, refl, sym, ap, ◌∙◌, ⊎_elim, arith, subst, eqb}
use Rattle.std.proofs.lemmas.Bool.{cases_lt, cases_eq, cases_order, eq-eqb, ne_eqb}
use Rattle.std.proofs.lemmas.Grind.{same_number_lists}
use Rattle.std.proofs.lemmas.List.FromFn.{length-map-range_with_len, get_or-map-range_with_len}
use Rattle.std.proofs.lemmas.List.{get_or-take}
use Rattle.std.specs.List.{sum}
use Rattle.bit_lists.specs.Bits.{bits_of, digit, item}
use Rattle.bit_lists.specs.Count.{zeros_before, ones_of, zeros_of, is_same, bit_positions, IsFirstFrom, IsLastTo, Picks}
use Rattle.bit_lists.proofs.BitLaws.{at_most_one_picked, bit_is_digit, bits_are_counted, count_after_item, counts_grow, equal_items_count_for_one, none_before_the_first, ones_and_zeros, positions_are_counted, positions_are_picked}
use Rattle.bit_lists.proofs.Callers.{one_below, zero_below}
use Rattle.louds.proofs.lemmas.TreeLemmas.{sum_all, sum_part, sum_order, zero_position_more, parent_of, one_parent}
use Rattle.louds.specs.Held.{degrees_of, IsHeld, IsOneOf, tree_words, IsWritten, zero_position}
use Rattle.louds.specs.Tree.{IsChild, IsFirstChild, IsLastChild, IsNextSibling, IsTree}

-- what is not false
true_of : (x : Bool) → (x ≡ false → ⊥) → x ≡ true
true_of true h = refl
true_of false h = absurd (h refl)

-- no bit is both
clash : (b : List Bool) (q : ℕ) → item b q ≡ true → item b q ≡ false → ⊥
clash b q one none = let both : true ≡ false = sym one ∙ none in cc

-- zeros do not stand after the last one
pub zero_position_order : (d : List ℕ) (i j : ℕ) → i ≤ j → j ≤ length d → zero_position d i ≤ zero_position d j
zero_position_order d i j order inside = omega (arith, sum_order d i j order inside)

zero_after_one : (b : List Bool) (p : ℕ) → p < length b → item b p ≡ true → zeros_before b (p + 1) ≡ zeros_before b p
zero_after_one b p inside is =
    let e = count_after_item b false p inside ∙ ap (λ x. zeros_before b p + cond (is_same false x) 1 0) is in omega (arith, e)

zero_after_zero : (b : List Bool) (p : ℕ) → p < length b → item b p ≡ false → zeros_before b (p + 1) ≡ zeros_before b p + 1
zero_after_zero b p inside is =
    count_after_item b false p inside ∙ ap (λ x. zeros_before b p + cond (is_same false x) 1 0) is

-- so many zeros stand before each zero
count_zeros : (d : List ℕ) (b : List Bool) → IsWritten d (length d) b → 1 + length d + sum d < length b
    → (j : ℕ) → j ≤ length d → zeros_before b (zero_position d j) ≡ j
count_zeros d b w room zero within =
    let first : zero_position d 0 ≡ 0 + 1 = refl in
    ap (zeros_before b) first ∙ zero_after_one b 0 (omega arith) w.root ∙ none_before_the_first b false
count_zeros d b w room (suc j) within =
    let inside : j < length d = omega arith in
    let next : suc j ≡ j + 1 = omega arith in
    let more = zero_position_more d j inside in
    let end : zero_position d (j + 1) ≤ zero_position d (length d) = zero_position_order d (j + 1) (length d) (omega arith) (omega arith) in
    let all = sum_all d (length d) refl in
    let here : zero_position d j < length b = omega (arith, more, end, all) in
    ap (λ k. zeros_before b (zero_position d k)) next
    ∙ ap (zeros_before b) more
    ∙ equal_items_count_for_one b true (zero_position d j + 1) (get_or d j 0) (omega (arith, more, end, all))
    (λ p from to. w.ones j p inside (omega arith) (omega (arith, more)))
    ∙ zero_after_zero b (zero_position d j) here (w.zeros j (omega arith))
    ∙ ap (λ k. k + 1) (count_zeros d b w room j (omega arith))
    ∙ sym next

-- what was written holds the tree
pub held : (d : List ℕ) (n : ℕ) (b : List Bool) → IsTree d → n ≡ length d → n < 2 ^ 60 → IsWritten d (length d) b
    → length b ≡ 64 * tree_words n → IsHeld d n b
held d n b tree count short w tight = record {
  count = count;
  tight = tight;
  tree = tree;
  short = short;
  zeros = λ j within.
      let inside : j ≤ length d = omega arith in
      let room : 2 * length d + 1 ≤ length b = omega (arith, tight, count) in
      record {
        inside = omega (arith, zero_position_order d j (length d) inside (omega arith), sum_all d (length d) refl, tree.count);
        item = w.zeros j inside;
        before = count_zeros d b w (omega (arith, tree.count)) j inside;
      };
}

module _ (d : List ℕ) (n : ℕ) (b : List Bool) (h : IsHeld d n b) where
  -- there are more zeros than each rank up to the number of nodes
  pub has_zero : (j : ℕ) → j ≤ n → j < zeros_of b
  has_zero j within = zero_below b j (zero_position d j) (h.zeros j within)

  -- zero j is where it stands
  pub zero_is : (j p : ℕ) → j ≤ n → Picks b false j p → p ≡ zero_position d j
  zero_is j p within picked = at_most_one_picked b false j p (zero_position d j) picked (h.zeros j within)

  -- it is listed there
  listed : (j : ℕ) → j ≤ n → get_or (bit_positions false 0 b) j 0 ≡ zero_position d j
  listed j within =
      zero_is j (get_or (bit_positions false 0 b) j 0) within
      (positions_are_picked b false j (omega (arith, positions_are_counted b false, has_zero j within)))

  -- so the bits hold the degrees
  pub degrees_of-is : degrees_of b n ≡ d
  degrees_of-is =
      same_number_lists (degrees_of b n) d len
      (λ i less.
      let inside : i < length d = omega (arith, len) in
      get_or-map-range_with_len degree 0 n i i 0 (omega (arith, h.count)) (omega arith)
      ∙ omega (arith, listed i (omega (arith, h.count)), listed (i + 1) (omega (arith, h.count)), zero_position_more d i inside))
    where
      degree : ℕ → ℕ
      degree i = get_or (bit_positions false 0 b) (i + 1) 0 - get_or (bit_positions false 0 b) i 0 - 1

      len : length (degrees_of b n) ≡ length d
      len = length-map-range_with_len degree 0 n ∙ h.count

  -- all zeros stand well below the greatest number
  pub zero_small : (j : ℕ) → j ≤ n → zero_position d j < 2 ^ 62
  zero_small j within = omega (arith, h.count, h.short, h.tree.count, sum_part d j)

  -- a position where no zero is counted is that of a one
  one_where : (p j : ℕ) → p < length b → j ≤ zeros_before b p → zeros_before b (p + 1) ≤ j → item b p ≡ true
  one_where p j inside low high = true_of (item b p) (λ is. omega (arith, zero_after_zero b p inside is))

  -- the root's one is the first bit
  root_one : Picks b true 0 0
  root_one =
      let first : zero_position d 0 ≡ 0 + 1 = refl in
      let z = h.zeros 0 (omega arith) in
      let inside : 0 < length b = omega (arith, z.inside) in
      record {
        inside = inside;
        item = one_where 0 0 inside (omega arith) (omega (arith, z.before, ap (zeros_before b) first));
        before = none_before_the_first b true;
      }

  -- k positions after the first one of node i stands that of its child k
  pub child_one : (i k v : ℕ) → IsChild d i k v → Picks b true v (zero_position d i + 1 + k)
  child_one i k v c =
      let low = h.zeros i (omega (arith, h.count, c.node)) in
      let high = h.zeros (i + 1) (omega (arith, h.count, c.node)) in
      let more = zero_position_more d i c.node in
      let p = zero_position d i + 1 + k in
      let below : p + 1 ≤ zero_position d (i + 1) = omega (arith, more, c.some) in
      let inside : p < length b = omega (arith, high.inside) in
      let after = zero_after_zero b (zero_position d i) low.inside low.item in
      let from : i + 1 ≤ zeros_before b p = omega (arith, after, low.before, counts_grow b false (zero_position d i + 1) p (omega arith)) in
      let to : zeros_before b (p + 1) ≤ i + 1 = omega (arith, high.before, counts_grow b false (p + 1) (zero_position d (i + 1)) below) in
      let to_here : zeros_before b p ≤ zeros_before b (p + 1) = counts_grow b false p (p + 1) (omega arith) in
      record {
        inside = inside;
        item = one_where p (i + 1) inside from to;
        before = omega (arith, ones_and_zeros b p (omega arith), from, to, to_here, c.number);
      }

  -- each node has a one
  pub picked_one : (v : ℕ) → v < n → (p : ℕ) × Picks b true v p × IsOneOf d v p
  picked_one v less =
      ⊎_elim
      (λ none. (0, subst (λ (x : ℕ). Picks b true x 0) (sym none) root_one, ((λ _. refl), (λ some. absurd (omega arith)))))
      (λ other.
      let some : 0 < v = omega arith in
      let found = parent_of d v h.tree some (omega (arith, h.count)) in
      let i = found.0 in
      let k = found.1 in
      (zero_position d i + 1 + k, child_one i k v found.3, ((λ none. absurd (omega arith)), (λ _. (i, k, found.2, found.3, refl)))))
      (cases_eq v 0)

  pub has_one : (v : ℕ) → v < n → v < ones_of b
  has_one v less = let o = picked_one v less in one_below b v o.0 o.1

  pub one_is : (v p : ℕ) → v < n → Picks b true v p → IsOneOf d v p
  one_is v p less picked =
      let o = picked_one v less in
      let same : o.0 ≡ p = at_most_one_picked b true v o.0 p o.1 picked in
      subst (λ (q : ℕ). IsOneOf d v q) same o.2

  -- ---- the bit after a position

  -- after the zero before a node's ones
  pub bit_after_zero : (v : ℕ) → v < n → not (item b (zero_position d v + 1)) ≡ eqb (get_or d v 0) 0
  bit_after_zero v less =
      let inside : v < length d = omega (arith, h.count) in
      let more = zero_position_more d v inside in
      ⊎_elim
      (λ none.
      let there : zero_position d v + 1 ≡ zero_position d (v + 1) = omega (arith, more) in
      ap (λ p. not (item b p)) there ∙ ap not (h.zeros (v + 1) (omega arith)).item ∙ sym (eq-eqb (get_or d v 0) 0 none))
      (λ some.
      let c : IsChild d v 0 (1 + sum (take v d) + 0) = record { node = inside; some = omega arith; number = refl } in
      let there : zero_position d v + 1 ≡ zero_position d v + 1 + 0 = omega arith in
      ap (λ p. not (item b p)) there ∙ ap not (child_one v 0 _ c).item ∙ sym (ne_eqb (get_or d v 0) 0 some))
      (cases_eq (get_or d v 0) 0)

  pub after_zero_inside : (v : ℕ) → v < n → zero_position d v + 1 < length b
  after_zero_inside v less =
      omega (arith, zero_position_more d v (omega (arith, h.count)), (h.zeros (v + 1) (omega arith)).inside)

  -- after the one of a node
  pub next_of_one : (v p : ℕ) → v < n → IsOneOf d v p → item b (p + 1) ≡ true → IsNextSibling d v (v + 1)
  next_of_one v p less one is =
      ⊎_elim
      (λ none.
      let there : p + 1 ≡ zero_position d 0 = omega (arith, one.0 none, first) in
      absurd (clash b (p + 1) is (ap (item b) there ∙ (h.zeros 0 (omega arith)).item)))
      (λ other.
      let o = one.1 (omega arith) in
      let i = o.0 in
      let k = o.1 in
      let c = o.3 in
      let more = zero_position_more d i c.node in
      ⊎_elim
      (λ some. (i, k, c, record { node = c.node; some = some; number = omega (arith, c.number) }))
      (λ last.
      let there : p + 1 ≡ zero_position d (i + 1) = omega (arith, o.4, more, c.some) in
      absurd (clash b (p + 1) is (ap (item b) there ∙ (h.zeros (i + 1) (omega (arith, h.count, c.node))).item)))
      (cases_lt (k + 1) (get_or d i 0)))
      (cases_eq v 0)
    where
      first : zero_position d 0 ≡ 1
      first = refl

  pub last_of_one : (v p : ℕ) → v < n → IsOneOf d v p → item b (p + 1) ≡ false → IsLastChild d v
  last_of_one v p less one is i k c =
      ⊎_elim
      (λ none. absurd (omega (arith, c.number)))
      (λ other.
      let o = one.1 (omega arith) in
      let same = one_parent d i o.0 k o.1 v c o.3 in
      let at : zero_position d i + 1 + (k + 1) ≡ p + 1 = omega (arith, o.4, ap (zero_position d) same.0, same.1) in
      ⊎_elim
      (λ some.
      let next : IsChild d i (k + 1) (v + 1) = record { node = c.node; some = some; number = omega (arith, c.number) } in
      absurd (clash b (p + 1) (ap (item b) (sym at) ∙ (child_one i (k + 1) (v + 1) next).item) is))
      (λ last. omega (arith, c.some))
      (cases_lt (k + 1) (get_or d i 0)))
      (cases_eq v 0)

  -- ---- the bit before a one

  pub previous_of_one : (v p q : ℕ) → 0 < v → IsOneOf d v p → q + 1 ≡ p → item b q ≡ true → IsNextSibling d (v - 1) v
  previous_of_one v p q some one at is =
      let o = one.1 some in
      let i = o.0 in
      let k = o.1 in
      let c = o.3 in
      ⊎_elim
      (λ none.
      let there : q ≡ zero_position d i = omega (arith, o.4) in
      absurd (clash b q is (ap (item b) there ∙ (h.zeros i (omega (arith, h.count, c.node))).item)))
      (λ more.
      let next : k - 1 + 1 ≡ k = omega arith in (
        i,
        k - 1,
        record { node = c.node; some = omega (arith, c.some); number = omega (arith, c.number) },
        subst (λ (j : ℕ). IsChild d i j v) (sym next) c,
      ))
      (cases_zero k)
    where
      cases_zero : (k : ℕ) → (k ≡ 0) ⊎ (0 < k)
      cases_zero zero = inl refl
      cases_zero (suc k) = inr (omega arith)

  pub first_of_one : (v p q : ℕ) → 0 < v → IsOneOf d v p → q + 1 ≡ p → item b q ≡ false → IsFirstChild d v
  first_of_one v p q some one at is i k c =
      let o = one.1 some in
      let same = one_parent d i o.0 k o.1 v c o.3 in
      let here : zero_position d i + k ≡ q = omega (arith, o.4, ap (zero_position d) same.0, same.1) in
      ⊎_elim
      (λ none. omega arith)
      (λ more.
      let at_k : zero_position d i + 1 + (k - 1) ≡ q = omega arith in
      let before : IsChild d i (k - 1) (v - 1) = record { node = c.node; some = omega (arith, c.some); number = omega (arith, c.number) } in
      absurd (clash b q (ap (item b) (sym at_k) ∙ (child_one i (k - 1) (v - 1) before).item) is))
      (cases_lt k 1)

  -- they hold what they hold
  pub held_degrees : IsHeld (degrees_of b n) n b
  held_degrees = subst (λ (xs : List ℕ). IsHeld xs n b) (sym degrees_of-is) h

-- ---- the run of a node's ones

-- the last zero before the one of a child is that before its parent's ones
pub run_start : (d : List ℕ) (n : ℕ) (b : List Bool) (i k v p : ℕ) → IsHeld d n b → IsChild d i k v
    → IsLastTo b false (zero_position d i + 1 + k) p → p ≡ zero_position d i
run_start d n b i k v p h c last =
    ⊎_elim
    (λ same. same)
    (λ apart. absurd (⊎_elim early late apart))
    (cases_order p (zero_position d i))
  where
    early : p < zero_position d i → ⊥
    early before =
        clash b (zero_position d i) (last.greatest (zero_position d i) before (omega arith)) (h.zeros i (omega (arith, h.count, c.node))).item

    late : zero_position d i < p → ⊥
    late behind =
        let j = p - (zero_position d i + 1) in
        let at : zero_position d i + 1 + j ≡ p = omega arith in
        let child : IsChild d i j (1 + sum (take i d) + j) =
        record { node = c.node; some = omega (arith, last.to, c.some); number = refl } in
        clash b p (ap (item b) (sym at) ∙ (child_one d n b h i j (1 + sum (take i d) + j) child).item) last.is

-- the one of a child is so many positions after the zero before its parent's ones
pub one_of_child : (d : List ℕ) (i k v p : ℕ) → 0 < v → IsOneOf d v p → IsChild d i k v → p ≡ zero_position d i + 1 + k
one_of_child d i k v p some one c =
    let o = one.1 some in
    let same = one_parent d o.0 i o.1 k v o.3 c in
    omega (arith, o.4, same.1, ap (zero_position d) same.0)

-- no one stands where the zero before the ones of a child's parent does
pub no_one_at_start : (d : List ℕ) (n : ℕ) (b : List Bool) (i k v : ℕ) → IsHeld d n b → IsChild d i k v
    → item b (zero_position d i) ≡ true → ⊥
no_one_at_start d n b i k v h c one = clash b (zero_position d i) one (h.zeros i (omega (arith, h.count, c.node))).item

-- the bits of the first words are those of all
item_front : (ws : List ℕ) (m i : ℕ) → i < length (bits_of (take m ws)) → item (bits_of (take m ws)) i ≡ item (bits_of ws) i
item_front ws m i inside =
    let len = bits_are_counted (take m ws) in
    let cut = length-take m ws in
    bit_is_digit (take m ws) i (omega (arith, len))
    ∙ ap (λ x. digit x (i % 64)) (get_or-take m ws (i / 64) 0 (omega (arith, len, cut)))
    ∙ sym (bit_is_digit ws i (omega (arith, len, cut)))

-- the first zero behind that before a node's ones, in the first words, is that after them
pub run_end : (d : List ℕ) (n : ℕ) (ws : List ℕ) (m v p : ℕ) → IsHeld d n (bits_of ws) → v < n
    → IsFirstFrom (bits_of (take m ws)) false (zero_position d v + 1) p → p ≡ zero_position d (v + 1)
run_end d n ws m v p h less first =
    ⊎_elim (λ same. same) (λ apart. absurd (⊎_elim early late apart)) (cases_order p e)
  where
    b : List Bool
    b = bits_of ws

    e : ℕ
    e = zero_position d (v + 1)

    inside : v < length d
    inside = omega (arith, h.count)

    more : e ≡ zero_position d v + 1 + get_or d v 0
    more = zero_position_more d v inside

    early : p < e → ⊥
    early before =
        let k = p - (zero_position d v + 1) in
        let at : zero_position d v + 1 + k ≡ p = omega (arith, first.from) in
        let child : IsChild d v k (1 + sum (take v d) + k) =
        record { node = inside; some = omega (arith, more, before, first.from); number = refl } in
        clash b p (ap (item b) (sym at) ∙ (child_one d n b h v k (1 + sum (take v d) + k) child).item)
        (sym (item_front ws m p first.inside) ∙ first.is)

    late : e < p → ⊥
    late behind =
        clash b e
        (sym (item_front ws m e (omega (arith, behind, first.inside))) ∙ first.least e (omega (arith, more)) behind)
        (h.zeros (v + 1) (omega arith)).item

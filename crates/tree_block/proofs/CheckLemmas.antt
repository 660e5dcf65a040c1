-- Bits hold a tree exactly where each of its zeros stands where that of a tree can, and so where each zero before the
-- last has more ones before it than zeros.
use Rattle.std.proofs.Common.{◌≡◌, ℕ, zero, suc, ◌+◌, ◌-◌, ◌*◌, ◌^◌, ◌<◌, ◌≤◌, ◌⊎◌, ◌↔◌, inl, inr, cond, Bool, true, false, List, length, take, get_or, refl, sym, ap, ◌∙◌, ⊎_elim, subst, arith}
use Rattle.std.proofs.lemmas.Bool.{cases_lt}
use Rattle.std.proofs.lemmas.List.FromFn.{length-map-range_with_len, get_or-map-range_with_len}
use Rattle.std.specs.List.{sum}
use Rattle.std.specs.Int.{bit_at}
use Rattle.bit_lists.proofs.lemmas.BitsLemmas.{item-bits_of_at}
use Rattle.bit_lists.proofs.lemmas.CountLemmas.{ones_before_more, ones_before-bits_of_in_word}
use Rattle.bit_lists.proofs.lemmas.WordLemmas.{truth, truth-digit}
use Rattle.bit_lists.specs.Bits.{bits_of, item}
use Rattle.bit_lists.specs.Count.{ones_before, zeros_before, is_same, bit_positions, Picks}
use Rattle.bit_lists.proofs.BitLaws.{at_most_one_picked, bits_are_counted, count_after_item, counts_grow, ones_and_zeros, positions_are_counted, positions_are_picked}
use Rattle.bit_lists.proofs.Callers.{zero_below}
use Rattle.louds.proofs.lemmas.TreeLemmas.{sum_all, zero_position_more}
use Rattle.louds.specs.Held.{degrees_of, tree_words, zero_position, IsHeld}
use Rattle.tree_block.specs.Check.{KeepsLead, OnesLead}

-- of a tree of n nodes the zero of rank v can stand at position p: the first one at 1, each before the last after at least as
-- many ones as nodes are known then, and the last one at 2 n
record IsZeroOfTree (n v p : ℕ) : Type 0 where
  first : v ≡ 0 → p ≡ 1
  known : v < n → 2 * v < p
  last : v ≡ n → p ≡ 2 * n

-- the zero of rank v stands where that of a tree of n nodes can
record StandsRight (b : List Bool) (n v : ℕ) : Type 0 where
  position : ℕ
  picks : Picks b false v position
  right : IsZeroOfTree n v position

-- where the bits hold a tree, each does
right_of_held : (d : List ℕ) (n : ℕ) (b : List Bool) → IsHeld d n b → (v : ℕ) → v ≤ n → IsZeroOfTree n v (zero_position d v)
right_of_held d n b h v within = record {
  first = λ e. ap (zero_position d) e;
  known = λ less.
      ⊎_elim
      (λ none. omega (arith, none))
      (λ some. omega (arith, h.tree.parents v some (omega (arith, h.count))))
      (cases_eq0 v);
  last = λ e. omega (arith, ap (λ k. sum (take k d)) e, e, sum_all d n h.count, h.tree.count, h.count);
}
  where
    cases_eq0 : (k : ℕ) → (k ≡ 0) ⊎ (0 < k)
    cases_eq0 zero = inl refl
    cases_eq0 (suc k) = inr (omega arith)

-- behind the zero of a rank there is one more
zero_more : (b : List Bool) (v p : ℕ) → Picks b false v p → zeros_before b (p + 1) ≡ v + 1
zero_more b v p picked =
    count_after_item b false p picked.inside
    ∙ omega (arith, picked.before, ap (λ x. zeros_before b p + cond (is_same false x) 1 0) picked.item)

-- a zero of a rank that was counted stands from there on
zero_behind : (b : List Bool) (s v p : ℕ) → zeros_before b s ≡ v → Picks b false v p → s ≤ p
zero_behind b s v p counted picked =
    ⊎_elim
    (λ less. absurd (omega (arith, counted, zero_more b v p picked, counts_grow b false (p + 1) s (omega (arith, less)))))
    (λ from. from)
    (cases_lt p s)

-- where the bits hold a tree, each zero of such a rank stands where that of a tree can
next_right : (d : List ℕ) (n : ℕ) (b : List Bool) (v p : ℕ) → IsHeld d n b → v ≤ n → Picks b false v p → IsZeroOfTree n v p
next_right d n b v p h within picked =
    subst (IsZeroOfTree n v) (at_most_one_picked b false v (zero_position d v) p (h.zeros v within) picked) (right_of_held d n b h v within)

module _ (b : List Bool) (n : ℕ) (zeros : (v : ℕ) → v ≤ n → StandsRight b n v) where
  abbrev d : List ℕ
  d = degrees_of b n

  abbrev at : ℕ → ℕ
  at v = get_or (bit_positions false 0 b) v 0

  abbrev degree : ℕ → ℕ
  degree i = at (i + 1) - at i - 1

  len : length d ≡ n
  len = length-map-range_with_len degree 0 n

  picked : (v : ℕ) → v ≤ n → Picks b false v (at v)
  picked v within =
      positions_are_picked b false v (omega (arith, positions_are_counted b false, zero_below b v _ (zeros v within).picks))

  right : (v : ℕ) → v ≤ n → IsZeroOfTree n v (at v)
  right v within =
      subst (IsZeroOfTree n v) (at_most_one_picked b false v _ (at v) (zeros v within).picks (picked v within)) (zeros v within).right

  order : (v : ℕ) → v < n → at v < at (v + 1)
  order v less =
      let behind : at v + 1 ≤ at (v + 1) =
      zero_behind b (at v + 1) (v + 1) (at (v + 1)) (zero_more b v (at v) (picked v (omega arith))) (picked (v + 1) (omega arith)) in
      omega (arith, behind)

  stands : (v : ℕ) → v ≤ n → zero_position d v ≡ at v
  stands zero within = sym ((right 0 within).first refl)
  stands (suc v) within =
      let next : suc v ≡ v + 1 = omega arith in
      let inside : v < length d = omega (arith, len) in
      let own : get_or d v 0 ≡ degree v = get_or-map-range_with_len degree 0 n v v 0 (omega arith) (omega arith) in
      ap (zero_position d) next
      ∙ omega (arith, zero_position_more d v inside, own, stands v (omega arith), order v (omega arith))
      ∙ ap at (sym next)

  held_of : n < 2 ^ 60 → length b ≡ 64 * tree_words n → IsHeld (degrees_of b n) n b
  held_of short tight =
      let total : sum (take n d) ≡ sum d = sum_all d n (sym len) in
      let last : zero_position d n ≡ 2 * n = stands n (omega arith) ∙ (right n (omega arith)).last refl in
      let some : zero_position d n ≡ 1 + n + sum (take n d) = refl in
      record {
        count = sym len;
        short = short;
        tight = tight;
        tree = record {
          count = omega (arith, total, last, some, len);
          parents = λ v some inside.
              omega (arith, stands v (omega (arith, inside, len)), (right v (omega (arith, inside, len))).known (omega (arith, inside, len)));
        };
        zeros = λ v within. subst (Picks b false v) (sym (stands v within)) (picked v within);
      }

-- ---- more ones than zeros before each zero

pub leads_fewer : (b : List Bool) (m n : ℕ) → m ≤ n → OnesLead b n → OnesLead b m
leads_fewer b m n within leads = λ p inside zero_here. leads p (omega (arith, inside, within)) zero_here

-- there are no fewer ones than zeros
pub lead_left : (b : List Bool) (m : ℕ) → m ≤ length b → OnesLead b m → m ≤ 2 * ones_before b m
lead_left b zero within leads = omega arith
lead_left b (suc m) within leads =
    let before = lead_left b m (omega (arith, within)) (leads_fewer b m (suc m) (omega arith) leads) in
    let more = ones_before_more b m (omega (arith, within)) in
    let step : m + 1 ≡ suc m = omega arith in
    ⊎_elim
    (λ one. omega (arith, before, more, ap (ones_before b) step, ap truth one))
    (λ none. omega (arith, leads m (omega arith) none, more, ap (ones_before b) step))
    (true_or_false (item b m))
  where
    true_or_false : (x : Bool) → (x ≡ true) ⊎ (x ≡ false)
    true_or_false true = inl refl
    true_or_false false = inr refl

-- the bits are those of a tree of n nodes
pub record AreOfTree (b : List Bool) (n : ℕ) : Type 0 where
  pub some : 0 < n
  pub second : item b 1 ≡ false
  pub leads : OnesLead b (2 * n)
  pub last : item b (2 * n) ≡ false
  pub count : ones_before b (2 * n) ≡ n

pub tree_of_held : (d : List ℕ) (n : ℕ) (b : List Bool) → length b ≡ 64 * tree_words n → IsHeld d n b → AreOfTree b n
tree_of_held d n b tight h =
    let first = right_of_held d n b h 0 (omega arith) in
    let end = right_of_held d n b h n (omega arith) in
    let at_one : zero_position d 0 ≡ 1 = first.first refl in
    let at_end : zero_position d n ≡ 2 * n = end.last refl in
    let last : Picks b false n (2 * n) = subst (Picks b false n) at_end (h.zeros n (omega arith)) in
    record {
      some = some_of n at_one at_end;
      second = ap (item b) (sym at_one) ∙ (h.zeros 0 (omega arith)).item;
      leads = λ p inside zero_here.
          let v = zeros_before b p in
          let picked : Picks b false v p = record { inside = omega (arith, inside, last.inside); item = zero_here; before = refl } in
          let grow = counts_grow b false p (2 * n) (omega (arith, inside)) in
          let both = ones_and_zeros b p (omega (arith, inside, last.inside)) in
          ⊎_elim
          (λ less. omega (arith, both, (next_right d n b v p h (omega (arith, less)) picked).known less))
          (λ more.
          let e : n ≡ v = omega (arith, more, grow, last.before) in
          absurd (omega (arith, inside, at_most_one_picked b false v p (2 * n) picked (subst (λ r. Picks b false r (2 * n)) e last))))
          (cases_lt v n);
      last = last.item;
      count = omega (arith, ones_and_zeros b (2 * n) (omega (arith, last.inside)), last.before);
    }
  where
    some_of : (m : ℕ) → zero_position d 0 ≡ 1 → zero_position d m ≡ 2 * m → 0 < m
    some_of zero one none = absurd (omega (arith, one, none))
    some_of (suc m) one none = omega arith

pub held_of_tree : (b : List Bool) (n : ℕ) → n < 2 ^ 60 → length b ≡ 64 * tree_words n → AreOfTree b n → IsHeld (degrees_of b n) n b
held_of_tree b n short tight tree = held_of b n zeros short tight
  where
    room : 2 * n < length b
    room = omega (arith, tight)

    last : Picks b false n (2 * n)
    last = record {
      inside = room;
      item = tree.last;
      before = omega (arith, ones_and_zeros b (2 * n) (omega (arith, room)), tree.count);
    }

    first : Picks b false 0 1
    first = record {
      inside = omega (arith, room, tree.some);
      item = tree.second;
      before =
          omega (
            arith,
            ones_and_zeros b 1 (omega (arith, room, tree.some)),
            lead_left b 1 (omega (arith, room, tree.some)) (leads_fewer b 1 (2 * n) (omega (arith, tree.some)) tree.leads),
          );
    }

    zeros : (v : ℕ) → v ≤ n → StandsRight b n v
    zeros v within =
        let p = get_or (bit_positions false 0 b) v 0 in
        let picked : Picks b false v p = positions_are_picked b false v (omega (arith, within, positions_are_counted b false, zero_below b n (2 * n) last)) in
        record {
          position = p;
          picks = picked;
          right = record {
            first = λ e. at_most_one_picked b false v p 1 picked (subst (λ r. Picks b false r 1) (sym e) first);
            known = λ less.
                ⊎_elim
                (λ inside. omega (arith, tree.leads p inside picked.item, ones_and_zeros b p (omega (arith, picked.inside)), picked.before))
                (λ past. absurd (omega (arith, less, counts_grow b false (2 * n) p past, picked.before, last.before)))
                (cases_lt p (2 * n));
            last = λ e. at_most_one_picked b false v p (2 * n) picked (subst (λ r. Picks b false r (2 * n)) (sym e) last);
          };
        }

-- ---- word by word

-- the ones before a position are at most as many as the bits before it
pub ones_few : (words : List ℕ) (p : ℕ) → p ≤ 64 * length words → ones_before (bits_of words) p ≤ p
ones_few words p within = omega (arith, ones_and_zeros (bits_of words) p (omega (arith, within, bits_are_counted words)))

-- and at least as many as the zeros
pub ones_left : (words : List ℕ) (q : ℕ) → q ≤ length words → OnesLead (bits_of words) (64 * q) → 64 * q ≤ 2 * ones_before (bits_of words) (64 * q)
ones_left words q within leads = lead_left (bits_of words) (64 * q) (omega (arith, within, bits_are_counted words)) leads

-- item j of a word is a zero exactly where digit j is
pub digit_zero : (words : List ℕ) (q j : ℕ) → q < length words → j < 64
    → (item (bits_of words) (64 * q + j) ≡ false) ↔ (bit_at (get_or words q 0) j ≡ 0)
digit_zero words q j within inside =
    let is = ap truth (item-bits_of_at words (64 * q + j) q j refl inside within) ∙ truth-digit (get_or words q 0) j in
    (λ none. sym is ∙ ap truth none, λ none. no_truth (item (bits_of words) (64 * q + j)) (is ∙ none))
  where
    no_truth : (x : Bool) → truth x ≡ 0 → x ≡ false
    no_truth true e = absurd (omega (arith, e))
    no_truth false e = refl

module _ (words : List ℕ) (q n lead : ℕ) (within : q < length words) (few : n ≤ 64)
    (same : lead + 64 * q ≡ 2 * ones_before (bits_of words) (64 * q)) where
  pub leads_on : OnesLead (bits_of words) (64 * q) → KeepsLead (get_or words q 0) n lead → OnesLead (bits_of words) (64 * q + n)
  leads_on leads keeps = λ p inside zero_here.
      ⊎_elim
      (λ before. leads p before zero_here)
      (λ from.
      let j = p - 64 * q in
      let e : 64 * q + j ≡ p = omega (arith, from) in
      let less : j < n = omega (arith, inside, e) in
      let here = keeps j less ((digit_zero words q j within (omega (arith, less, few))).0 (ap (item (bits_of words)) e ∙ zero_here)) in
      omega (arith, here, e, same, ones_before-bits_of_in_word words q within j (omega (arith, less, few)), ap (ones_before (bits_of words)) e))
      (cases_lt p (64 * q))

  pub keeps_where_leads : OnesLead (bits_of words) (64 * q + n) → KeepsLead (get_or words q 0) n lead
  keeps_where_leads leads = λ j inside zero_here.
      let here = leads (64 * q + j) (omega (arith, inside)) ((digit_zero words q j within (omega (arith, inside, few))).1 zero_here) in
      omega (arith, here, same, ones_before-bits_of_in_word words q within j (omega (arith, inside, few)))

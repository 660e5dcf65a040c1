-- Numbers of levels, while a word adds its nodes.
use Rattle.std.proofs.Common.{◌≡◌, ℕ, zero, suc, ◌+◌, ◌<◌, ◌≤◌, inr, List, length, get_or, set, take, replicate, slice_index, refl, sym, ap, ◌∙◌, subst, ⊎_elim, arith, get_or-set_other, get_or-set_same, length-set}
use Rattle.std.proofs.lemmas.Bool.{cases_eq, cases_lt}
use Rattle.std.proofs.lemmas.List.{get_or-replicate}
use Rattle.std.proofs.lemmas.List.Sums.{sum_by-set}
use Rattle.std.specs.List.{sum}
use Rattle.louds.proofs.lemmas.TreeLemmas.{sum_all, sum_more}
use Rattle.tree_block.specs.Levels.{above, count_at, next_at, AreOf}
use Rattle.tree_block.specs.Words.{nodes_of, shared_of, Words}
use Rattle.tree_block.proofs.LevelLemmas.{above_more, above_none, count_none, count_old, count_root}
use Rattle.tree_block.proofs.OrderLemmas.{count_shared}

-- word j is taken into account up to level `depth`
pub record IsStep (f : ℕ → ℕ → ℕ) (xs : List ℕ) (j depth : ℕ) : Type 0 where
  pub done : (k : ℕ) → k ≤ depth → k < length xs → slice_index xs k ≡ f k (j + 1)
  pub rest : (k : ℕ) → depth < k → k < length xs → slice_index xs k ≡ f k j

module _ (f : ℕ → ℕ → ℕ) (xs : List ℕ) (j depth : ℕ) where
  pub step_begin : AreOf f xs j → ((k : ℕ) → k ≤ depth → f k (j + 1) ≡ f k j) → IsStep f xs j depth
  step_begin are same = record {
    done = λ k le inside. omega (arith, are k inside, same k le);
    rest = λ k more inside. are k inside;
  }

  pub step_more : (x : ℕ) → IsStep f xs j depth → depth + 1 < length xs → x ≡ f (depth + 1) (j + 1) → IsStep f (set xs (depth + 1) x) j (depth + 1)
  step_more x h room is = record {
    done = λ k le inside.
        ⊎_elim
        (λ same.
        subst (λ (i : ℕ). get_or (set xs (depth + 1) x) i 0 ≡ f i (j + 1)) (sym same)
        (omega (arith, is, get_or-set_same xs (depth + 1) x 0 room)))
        (λ other.
        omega (
          arith,
          get_or-set_other xs (depth + 1) k x 0 other,
          h.done k (omega (arith, le, other)) (omega (arith, inside, length-set xs (depth + 1) x)),
        ))
        (cases_eq k (depth + 1));
    rest = λ k more inside.
        let other : k ≡ depth + 1 → ⊥ = λ e. omega (arith, e, more) in
        omega (
          arith,
          get_or-set_other xs (depth + 1) k x 0 other,
          h.rest k (omega (arith, more)) (omega (arith, inside, length-set xs (depth + 1) x)),
        );
  }

  pub step_end : IsStep f xs j depth → ((k : ℕ) → depth < k → f k (j + 1) ≡ f k j) → AreOf f xs (j + 1)
  step_end h same k inside =
      ⊎_elim (λ more. omega (arith, h.rest k more inside, same k more)) (λ le. h.done k le inside) (cases_lt depth k)

module _ (ws : Words) (j : ℕ) where
  -- a word adds no node to a level that it shares, or past its last letter
  pub counts_low : (k : ℕ) → k ≤ shared_of ws j → count_at ws k (j + 1) ≡ count_at ws k j
  counts_low k le = count_shared ws k j le

  pub counts_past : (depth k : ℕ) → depth ≡ length (ws.word j) → depth < k → count_at ws k (j + 1) ≡ count_at ws k j
  counts_past depth zero is more = absurd (omega (arith, more))
  counts_past depth (suc k) is more =
      let e : k + 1 ≡ suc k = omega arith in
      subst (λ (l : ℕ). count_at ws l (j + 1) ≡ count_at ws l j) e (count_old ws k j (inr (omega (arith, is, more))))

  pub nexts_low : (k : ℕ) → k ≤ shared_of ws j → next_at ws k (j + 1) ≡ next_at ws k j
  nexts_low k le = omega (arith, counts_low k le)

  pub nexts_past : (depth k : ℕ) → depth ≡ length (ws.word j) → depth < k → next_at ws k (j + 1) ≡ next_at ws k j
  nexts_past depth k is more = omega (arith, counts_past depth k is more)

-- ---- numbers of levels before the first word

pub no_sum : (n : ℕ) → sum (replicate n 0) ≡ 0
no_sum zero = refl
no_sum (suc n) = omega (arith, no_sum n)

module _ (ws : Words) (xs : List ℕ) where
  pub root_counted : (zeros : List ℕ) → xs ≡ set zeros 0 1 → zeros ≡ replicate (length zeros) 0 → AreOf (count_at ws) xs 0
  root_counted zeros is clear zero inside =
      let same : length zeros ≡ length xs = omega (arith, ap length is, length-set zeros 0 1) in
      ap (λ ys. get_or ys 0 0) is ∙ get_or-set_same zeros 0 1 0 (omega (arith, same, inside)) ∙ sym (count_root ws 0)
  root_counted zeros is clear (suc k) inside =
      let same : length zeros ≡ length xs = omega (arith, ap length is, length-set zeros 0 1) in
      let e : k + 1 ≡ suc k = omega arith in
      let none : count_at ws (suc k) 0 ≡ 0 = ap (λ l. count_at ws l 0) (sym e) ∙ count_none ws k in
      ap (λ ys. get_or ys (suc k) 0) is
      ∙ get_or-set_other zeros 0 (suc k) 1 0 (λ z. omega (arith, z))
      ∙ ap (λ ys. get_or ys (suc k) 0) clear
      ∙ get_or-replicate (length zeros) (suc k) 0 0 (omega (arith, same, inside))
      ∙ sym none

  pub root_summed : (zeros : List ℕ) → xs ≡ set zeros 0 1 → zeros ≡ replicate (length zeros) 0 → 0 < length zeros → sum xs ≡ 1
  root_summed zeros is clear some =
      let first : get_or zeros 0 0 ≡ 0 = ap (λ ys. get_or ys 0 0) clear ∙ get_or-replicate (length zeros) 0 0 0 some in
      omega (
        arith,
        ap sum is,
        sum_by-set (λ x. x) zeros 0 1 0 some,
        first,
        ap sum clear,
        no_sum (length zeros),
      )

  -- ---- where levels begin

  pub above_sum : AreOf (count_at ws) xs ws.count → (k : ℕ) → k ≤ length xs → above ws k ≡ sum (take k xs)
  above_sum are zero inside = let e : sum (take 0 xs) ≡ 0 = refl in omega (arith, e, above_none ws)
  above_sum are (suc k) inside =
      let e : k + 1 ≡ suc k = omega arith in
      omega (
        arith,
        ap (above ws) e,
        ap (λ l. sum (take l xs)) e,
        above_more ws k,
        above_sum are k (omega (arith, inside)),
        sum_more xs k (omega (arith, inside)),
        are k (omega (arith, inside)),
      )

  pub all_above : AreOf (count_at ws) xs ws.count → sum xs ≡ nodes_of ws → length xs ≡ nodes_of ws → above ws (nodes_of ws) ≡ nodes_of ws
  all_above are total len =
      omega (arith, above_sum are (nodes_of ws) (omega (arith, len)), sum_all xs (nodes_of ws) (sym len), total)

  pub levels_begin : (new : List ℕ) → AreOf (count_at ws) xs ws.count → length new ≡ length xs
      → ((k : ℕ) → k < length xs → slice_index new k ≡ sum (take k xs)) → AreOf (next_at ws) (set new 0 1) 0
  levels_begin new are len each zero inside =
      let room : 0 < length new = omega (arith, inside, length-set new 0 1) in
      omega (arith, get_or-set_same new 0 1 0 room, count_root ws 0, above_none ws)
  levels_begin new are len each (suc k) inside =
      let room : suc k < length xs = omega (arith, inside, length-set new 0 1, len) in
      let e : k + 1 ≡ suc k = omega arith in
      let none : count_at ws (suc k) 0 ≡ 0 = ap (λ l. count_at ws l 0) (sym e) ∙ count_none ws k in
      omega (
        arith,
        get_or-set_other new 0 (suc k) 1 0 (λ z. omega (arith, z)),
        each (suc k) room,
        above_sum are (suc k) (omega (arith, room)),
        none,
      )

-- Counting the nodes of levels, and where levels begin.
use Rattle.std.proofs.Common.{◌≡◌, ℕ, ◌+◌, ◌<◌, ◌≤◌, List, length, get_or, set, take, slice_index, refl, sym, ap, ◌∙◌, ⊎_elim, arith, get_or-set_other, get_or-set_same, length-set}
use Rattle.std.proofs.lemmas.Bool.{cases_eq}
use Rattle.std.proofs.lemmas.List.Sums.{get_or-le-sum_by, sum_by-set}
use Rattle.std.specs.List.{sum}
use Rattle.louds.proofs.lemmas.TreeLemmas.{sum_more, sum_part}
use Rattle.tree_block.specs.Levels.{count_at, AreOf, IsNew}
use Rattle.tree_block.specs.Words.{added, shared_of, Words}
use Rattle.tree_block.proofs.LevelLemmas.{added_more, count_new}
use Rattle.tree_block.proofs.OrderLemmas.{shared_fits}
use Rattle.tree_block.proofs.StepLemmas.{counts_low, counts_past, step_begin, step_end, step_more, IsStep}

-- the nodes of word j on levels up to `depth` are counted
pub record IsCounting (ws : Words) (xs : List ℕ) (j depth : ℕ) : Type 0 where
  pub step : IsStep (count_at ws) xs j depth
  pub total : sum xs + shared_of ws j ≡ 1 + added ws j + depth

module _ (ws : Words) (xs : List ℕ) (j depth : ℕ) where
  pub counting_begin : AreOf (count_at ws) xs j → sum xs ≡ 1 + added ws j → depth ≡ shared_of ws j → IsCounting ws xs j depth
  counting_begin are total is = record {
    step = step_begin (count_at ws) xs j depth are (λ k le. counts_low ws j k (omega (arith, le, is)));
    total = omega (arith, total, is);
  }

  pub counting_more : IsCounting ws xs j depth → depth + 1 < length xs → IsNew ws depth j
      → IsCounting ws (set xs (depth + 1) (get_or xs (depth + 1) 0 + 1)) j (depth + 1)
  counting_more h room new =
      let x = get_or xs (depth + 1) 0 in
      record {
        step =
            step_more (count_at ws) xs j depth (x + 1) h.step room
            (omega (arith, h.step.rest (depth + 1) (omega arith) room, count_new ws depth j new.from new.to));
        total = omega (arith, sum_by-set (λ y. y) xs (depth + 1) (x + 1) 0 room, h.total);
      }

  pub counting_end : IsCounting ws xs j depth → depth ≡ length (ws.word j)
      → AreOf (count_at ws) xs (j + 1) × (sum xs ≡ 1 + added ws (j + 1))
  counting_end h all = (
    step_end (count_at ws) xs j depth h.step (λ k more. counts_past ws j depth k all more),
    omega (arith, h.total, added_more ws j, shared_fits ws j, all),
  )

  -- no count is more than all of them
  pub count_fits : IsCounting ws xs j depth → depth + 1 < length xs → get_or xs (depth + 1) 0 + shared_of ws j ≤ 1 + added ws j + depth
  count_fits h room = omega (arith, get_or-le-sum_by (λ y. y) xs (depth + 1) 0 room, h.total)

-- ---- sums

-- the first k numbers are the sums of those before them
pub record IsSummed (old xs : List ℕ) (total k : ℕ) : Type 0 where
  pub total_is : total ≡ sum (take k old)
  pub done : (i : ℕ) → i < k → slice_index xs i ≡ sum (take i old)
  pub rest : (i : ℕ) → k ≤ i → slice_index xs i ≡ slice_index old i
  pub len : length xs ≡ length old

pub summed_begin : (old : List ℕ) → IsSummed old old 0 0
summed_begin old = record {
  total_is = refl;
  done = λ i less. absurd (omega (arith, less));
  rest = λ i from. refl;
  len = refl;
}

module _ (old xs : List ℕ) (total k : ℕ) (h : IsSummed old xs total k) (inside : k < length old) where
  pub summed_more : IsSummed old (set xs k total) (total + get_or xs k 0) (k + 1)
  summed_more = record {
    total_is = omega (arith, h.total_is, h.rest k (omega arith), sum_more old k inside);
    done = λ i less.
        ⊎_elim
        (λ same.
        ap (λ m. get_or (set xs k total) m 0) same
        ∙ get_or-set_same xs k total 0 (omega (arith, inside, h.len))
        ∙ h.total_is
        ∙ ap (λ m. sum (take m old)) (sym same))
        (λ other. get_or-set_other xs k i total 0 other ∙ h.done i (omega (arith, less, other)))
        (cases_eq i k);
    rest = λ i from. get_or-set_other xs k i total 0 (λ e. omega (arith, e, from)) ∙ h.rest i (omega (arith, from));
    len = omega (arith, length-set xs k total, h.len);
  }

  -- and no sum is more than all
  pub summed_fits : total + get_or xs k 0 ≤ sum old
  summed_fits = omega (arith, h.total_is, h.rest k (omega arith), sum_more old k inside, sum_part old (k + 1))

-- What queries of sparse bits answer, from the positions of their 1 bits.
use Rattle.std.proofs.Common.{ℕ, ◌-◌, ◌<◌, ◌≤◌, true, List, length, get_or, sym, arith, ⊎_elim}
use Rattle.std.proofs.lemmas.Bool.{cases_lt}
use Rattle.std.specs.List.{All}
use Rattle.bitm_tables.specs.declared.answer.Answer.TheVariants.{Found}
use Rattle.elias_fano.specs.Sequence.{Reaches}
use Rattle.tables_view.specs.Ranks.{IsRanked}
use Rattle.sparse_bits.proofs.lemmas.PositionLemmas.{at_least_position, bits_count, rank_none, rank_some}
use Rattle.sparse_bits.specs.Positions.{bits_at, AreBitPositions}

module _ (n : ℕ) (xs : List ℕ) (are : AreBitPositions n 0 xs) where
  -- no more positions are less than i than there are numbers below i
  pub few_before : (i c : ℕ) → c ≤ length xs → ((j : ℕ) → j < c → get_or xs j 0 < i) → c ≤ i
  few_before i c inside less = ⊎_elim
      (λ (none : c < 1). omega (arith, none))
      (λ (some : 1 ≤ c).
      omega (arith, some, at_least_position xs (c - 1) are.rising (omega (arith, some, inside)), less (c - 1) (omega (arith, some))))
      (cases_lt c 1)

  pub ranked_at : (i c : ℕ) → i ≤ n → Reaches xs i c → IsRanked (bits_at n 0 xs) true i (Found c)
  ranked_at i c inside reach = (omega (arith, inside, bits_count n xs are), sym (rank_some n xs are i c inside reach))

  pub ranked_past : (i : ℕ) → i ≤ n → All (λ x. x < i) xs → IsRanked (bits_at n 0 xs) true i (Found (length xs))
  ranked_past i inside all = (omega (arith, inside, bits_count n xs are), sym (rank_none n xs are i inside all))

-- Prefix counts of any bit vectors: the numbers of the bits before each.
use Rattle.std.proofs.Common.{◌≡◌, ℕ, ◌+◌, ◌≤◌, Bool, List, All, length, map, slice_index, ap, ⊎_elim, arith, take_all}
use Rattle.std.proofs.lemmas.Bool.{cases_lt}
use Rattle.std.proofs.lemmas.List.Elements.{All-map, All-from_get_or}
use Rattle.std.proofs.lemmas.List.FromFn.{get_or-map-range_with_len, length-map-range_with_len}
use Rattle.std.specs.List.{range_with_len}
use Rattle.bit_lists.proofs.lemmas.CountLemmas.{ones_before-add-zeros_before}
use Rattle.sharded_index.specs.Joined.{count_of_kind, joined, joined_to}
use Rattle.sharded_index.specs.Prefixes.{ArePrefixes, Prefixes, prefixes_of}
use Rattle.sharded_index.specs.declared.counts.Kind.{Kind}
use Rattle.sharded_index.specs.declared.counts.Kind.TheVariants.{Positions, Ones}
use Rattle.sharded_index.proofs.JoinedLemmas.{shard_is_within}

module _ (bs : List (List Bool)) where
  -- how many bits of a kind there are before each bit vector, and in all
  abbrev pub numbers_of : Kind → List ℕ
  numbers_of of = map (λ k. count_of_kind of (joined_to bs k)) (range_with_len 0 (length bs + 1))

  abbrev pub counted : Prefixes
  counted = prefixes_of (numbers_of Positions) (numbers_of Ones)

  number_at : (of : Kind) (k : ℕ) → k ≤ length bs → slice_index (numbers_of of) k ≡ count_of_kind of (joined_to bs k)
  number_at of k l = get_or-map-range_with_len (λ k. count_of_kind of (joined_to bs k)) 0 (length bs + 1) k k 0 (omega (arith, l)) (omega arith)

  -- they are the prefix counts
  pub counted_are : ArePrefixes bs counted
  counted_are = record {
    bits_len = length-map-range_with_len (λ k. count_of_kind Positions (joined_to bs k)) 0 (length bs + 1);
    ones_len = length-map-range_with_len (λ k. count_of_kind Ones (joined_to bs k)) 0 (length bs + 1);
    bits_before = number_at Positions;
    ones_before = number_at Ones;
  }

  -- the bits before a bit vector are some of all
  joined_to_short : (k : ℕ) → length (joined_to bs k) ≤ length (joined bs)
  joined_to_short k =
      ⊎_elim
      (λ l. omega (arith, shard_is_within bs k l))
      (λ l. omega (arith, ap (λ (l : List (List Bool)). length (joined l)) (take_all k bs l)))
      (cases_lt k (length bs))

  -- and no more of them are 1 bits
  ones_small : (k : ℕ) → count_of_kind Ones (joined_to bs k) ≤ length (joined bs)
  ones_small k =
      omega (
        arith,
        joined_to_short k,
        ones_before-add-zeros_before (joined_to bs k) (length (joined_to bs k)) (omega arith),
      )

  small : (of : Kind) → ((k : ℕ) → count_of_kind of (joined_to bs k) ≤ length (joined bs))
      → All (λ n. n ≤ length (joined bs)) (numbers_of of)
  small of each =
      let P : ℕ → Type 0 = λ n. n ≤ length (joined bs) in
      let f : ℕ → ℕ = λ k. count_of_kind of (joined_to bs k) in
      All-map P f (range_with_len 0 (length bs + 1)) (All-from_get_or (λ k. P (f k)) (range_with_len 0 (length bs + 1)) 0 (λ i _. each _))

  pub bits_small : All (λ n. n ≤ length (joined bs)) counted.bits
  bits_small = small Positions joined_to_short

  pub ones_all_small : All (λ n. n ≤ length (joined bs)) counted.ones
  ones_all_small = small Ones ones_small

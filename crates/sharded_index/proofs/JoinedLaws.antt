-- Each law by its own name, for attributes and answers of callers.
use Rattle.std.proofs.Common.{ℕ, ◌+◌, Bool, List, length, subst, sym, ap, ◌∙◌, arith}
use Rattle.std.proofs.lemmas.List.{length-map}
use Rattle.bit_lists.proofs.lemmas.CutLemmas.{cut_count, cut_pick, item-stretch}
use Rattle.bit_lists.specs.Bits.{item}
use Rattle.bit_lists.specs.Count.{count_before, Picks}
use Rattle.sharded_index.specs.Joined.{count_of_kind, joined, joined_to, shard_at}
use Rattle.sharded_index.specs.Laws.{ItemOfJoined, PickedInJoined, PrefixesAreSums, RankInJoined}
use Rattle.sharded_index.specs.declared.counts.Kind.TheVariants.{Positions, Ones}
use Rattle.sharded_index.proofs.JoinedLemmas.{number_of-joined_to, count_to_shard, shard_is_stretch, shard_is_within}

-- an item of a bit vector is one of the joined bits
pub item_of_joined : ItemOfJoined
item_of_joined bs k i l inside =
    let P = length (joined_to bs k) in
    sym (item-stretch (joined bs) P (length (shard_at bs k)) i inside) ∙ ap (λ (b : List Bool). item b i) (shard_is_stretch bs k l)

-- the rank of a position of a bit vector, and those before
pub rank_in_joined : RankInJoined
rank_in_joined bs v k i l inside =
    let P = length (joined_to bs k) in
    let n = length (shard_at bs k) in
    sym (
    ap (λ (m : ℕ). m + count_before (shard_at bs k) v i) (sym (count_to_shard bs k l v))
    ∙ ap (λ (b : List Bool). count_before (joined bs) v P + count_before b v i) (sym (shard_is_stretch bs k l))
    ∙ cut_count (joined bs) v P n i (shard_is_within bs k l) inside
    )

-- a rank selects a position of a bit vector where, with those before it, it selects that of the joined bits
pub picked_in_joined : PickedInJoined
picked_in_joined bs v k r p l inside =
    let P = length (joined_to bs k) in
    let n = length (shard_at bs k) in
    let at = cut_pick (joined bs) v P n r p (shard_is_within bs k l) inside in
    let there : ℕ → Type 0 = λ m. Picks (joined bs) v (m + r) (P + p) in
    let here : List Bool → Type 0 = λ b. Picks b v r p in (
      λ h. subst there (count_to_shard bs k l v) (at.0 (subst here (sym (shard_is_stretch bs k l)) h)),
      λ t. subst here (shard_is_stretch bs k l) (at.1 (subst there (sym (count_to_shard bs k l v)) t)),
    )

-- prefix sums of the numbers of each bit vector are the prefix counts
pub prefixes_are_sums : PrefixesAreSums
prefixes_are_sums bs c =
    let bits_len = length-map bs (count_of_kind Positions) in
    let ones_len = length-map bs (count_of_kind Ones) in (
      λ h. (
        record {
          len = omega (arith, h.bits_len, bits_len);
          sum_before = λ k l. h.bits_before k (omega (arith, l, bits_len)) ∙ sym (number_of-joined_to Positions bs k);
        },
        record {
          len = omega (arith, h.ones_len, ones_len);
          sum_before = λ k l. h.ones_before k (omega (arith, l, ones_len)) ∙ sym (number_of-joined_to Ones bs k);
        },
      ),
      λ s. record {
        bits_len = omega (arith, s.0.len, bits_len);
        ones_len = omega (arith, s.1.len, ones_len);
        bits_before = λ k l. s.0.sum_before k (omega (arith, l, bits_len)) ∙ number_of-joined_to Positions bs k;
        ones_before = λ k l. s.1.sum_before k (omega (arith, l, ones_len)) ∙ number_of-joined_to Ones bs k;
      },
    )

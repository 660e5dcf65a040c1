-- How positions, ranks and selections of joined bits come from those of the bit vector that holds them. Each law is the
-- contract of a function of `laws`.
use Rattle.std.specs.Prelude.{◌≡◌, ℕ, ◌+◌, ◌<◌, ◌≤◌, ◌↔◌, Bool, List, length, map}
use Rattle.bit_lists.specs.Bits.{item}
use Rattle.bit_lists.specs.Count.{count_before, count_of, Picks}
use Rattle.sharded_index.specs.Joined.{count_of_kind, joined, joined_to, shard_at, IsPrefixSums}
use Rattle.sharded_index.specs.Prefixes.{ArePrefixes, Prefixes}
use Rattle.sharded_index.specs.declared.counts.Kind.TheVariants.{Positions, Ones}

-- item i of bit vector k is an item of the joined bits, after all before it
abbrev pub ItemOfJoined : Type 0
ItemOfJoined =
    (bs : List (List Bool)) (k i : ℕ) → k < length bs → i < length (shard_at bs k)
    → item (joined bs) (length (joined_to bs k) + i) ≡ item (shard_at bs k) i

-- before a location of bit vector k there are the bits v before it there, and those of all bit vectors before
abbrev pub RankInJoined : Type 0
RankInJoined =
    (bs : List (List Bool)) (v : Bool) (k i : ℕ) → k < length bs → i ≤ length (shard_at bs k)
    → count_before (joined bs) v (length (joined_to bs k) + i) ≡ count_of (joined_to bs k) v + count_before (shard_at bs k) v i

-- a rank picks a location in bit vector k exactly where it picks it in the joined bits, after all before it
abbrev pub PickedInJoined : Type 0
PickedInJoined =
    (bs : List (List Bool)) (v : Bool) (k r p : ℕ) → k < length bs → p < length (shard_at bs k)
    → Picks (shard_at bs k) v r p ↔ Picks (joined bs) v (count_of (joined_to bs k) v + r) (length (joined_to bs k) + p)

-- the prefix sums of the lengths and of the numbers of 1 bits are the numbers of the shards, and no others are
abbrev pub PrefixesAreSums : Type 0
PrefixesAreSums =
    (bs : List (List Bool)) (c : Prefixes)
    → ArePrefixes bs c ↔ (IsPrefixSums (map (count_of_kind Positions) bs) c.bits × IsPrefixSums (map (count_of_kind Ones) bs) c.ones)

-- What is answered of joined bits: over prefix counts and tables that may hold anything, and over those of the shards.
use Rattle.std.specs.Prelude.{◌≡◌, ⊤, ℕ, ◌+◌, ◌<◌, ◌≤◌, Bool, List, length}
use Rattle.bit_lists.specs.Bits.{item}
use Rattle.bitm_tables.specs.declared.answer.Answer.{Answer}
use Rattle.bitm_tables.specs.declared.answer.Answer.TheVariants.{Found, Absent, Wrong}
use Rattle.bitm_select.specs.Answers.{IsSelected}
use Rattle.tables_view.specs.Ranks.{IsCountWithin, IsRanked}
use Rattle.sharded_index.specs.Joined.{joined, kind_of, shard_at}
use Rattle.sharded_index.specs.Prefixes.{claimed, claimed_in_all, Prefixes}
use Rattle.sharded_index.specs.declared.counts.Kind.TheVariants.{Positions}

-- a position is one of the claimed bits, and in some shard, after as many bits as are claimed before it, bit v stands there
pub record HasBitAt (v : Bool) (bs : List (List Bool)) (c : Prefixes) (p : ℕ) : Type 0 where
  pub shard : ℕ
  pub within : ℕ
  pub is : p ≡ claimed Positions c shard + within
  pub before_end : p < claimed_in_all Positions c
  pub inside : within < length (shard_at bs shard)
  pub bit : item (shard_at bs shard) within ≡ v

-- of a position that is found
abbrev pub IfFoundHasBit : Bool → List (List Bool) → Prefixes → Answer ℕ → Type 0
IfFoundHasBit v bs c (Found p) = HasBitAt v bs c p
IfFoundHasBit v bs c Absent = ⊤
IfFoundHasBit v bs c Wrong = ⊤

-- Absent is answered exactly where there are no more than rank
abbrev pub IsOfRank : ℕ → ℕ → Answer ℕ → Type 0
IsOfRank total rank (Found p) = rank < total
IsOfRank total rank Absent = total ≤ rank
IsOfRank total rank Wrong = rank < total

-- of a rank of joined bits: whatever the counts and tables hold, a count is at most the index; where they are right, the
-- answer is counting
pub record IsJoinedRank (bs : List (List Bool)) (c : Prefixes) (right : Type 0) (v : Bool) (index : ℕ) (answer : Answer ℕ) : Type 0 where
  pub within : IsCountWithin (claimed_in_all Positions c) index answer
  pub counts : right → IsRanked (joined bs) v index answer

-- of a selection, likewise: a position has the bit in some shard
pub record IsJoinedSelection (bs : List (List Bool)) (c : Prefixes) (right : Type 0) (v : Bool) (rank : ℕ) (answer : Answer ℕ) : Type 0 where
  pub bit : IfFoundHasBit v bs c answer
  pub absent : IsOfRank (claimed_in_all (kind_of v) c) rank answer
  pub counts : right → IsSelected (joined bs) v rank answer

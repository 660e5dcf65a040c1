-- What prefix counts claim is so where they are those of the shards.
use Rattle.std.proofs.Common.{◌≡◌, ℕ, ◌+◌, ◌-◌, ◌<◌, ◌≤◌, Bool, true, false, List, length, refl, ap, ◌∙◌, arith, take_all}
use Rattle.bit_lists.proofs.lemmas.CountLemmas.{ones_before-add-zeros_before}
use Rattle.bit_lists.specs.Count.{count_of}
use Rattle.bitm_tables.specs.declared.answer.Answer.{Answer}
use Rattle.bitm_tables.specs.declared.answer.Answer.TheVariants.{Found, Absent, Wrong}
use Rattle.sharded_index.proofs.JoinedLemmas.{number_of-next, number_of-nil}
use Rattle.sharded_index.specs.Joined.{count_of_kind, joined, joined_to, kind_of}
use Rattle.sharded_index.specs.Prefixes.{claimed, claimed_in_all, ArePrefixes, IsClaimed, IsClaimedBy, IsShardFound, IsLocationWithin, Prefixes}
use Rattle.sharded_index.specs.declared.counts.Kind.{Kind}
use Rattle.sharded_index.specs.declared.counts.Kind.TheVariants.{Positions, Zeros, Ones}
use Rattle.sharded_index.specs.declared.counts.Location.{Location}

-- bits of a kind are those of the bit
pub number_of-kind : (v : Bool) (b : List Bool) → count_of_kind (kind_of v) b ≡ count_of b v
number_of-kind true b = refl
number_of-kind false b = refl

module _ (bs : List (List Bool)) (c : Prefixes) (h : ArePrefixes bs c) where
  -- what is claimed before a shard
  pub claimed_is : (of : Kind) (k : ℕ) → k ≤ length bs → claimed of c k ≡ count_of_kind of (joined_to bs k)
  claimed_is Positions k l = h.bits_before k l
  claimed_is Zeros k l =
      omega (
        arith,
        h.bits_before k l,
        h.ones_before k l,
        ones_before-add-zeros_before (joined_to bs k) (length (joined_to bs k)) (omega arith),
      )
  claimed_is Ones k l = h.ones_before k l

  -- and in all
  pub claimed_all : (of : Kind) → claimed_in_all of c ≡ count_of_kind of (joined bs)
  claimed_all of =
      let e : length c.bits - 1 ≡ length bs = omega (arith, h.bits_len) in
      ap (claimed of c) e
      ∙ claimed_is of (length bs) (omega arith)
      ∙ ap (λ (l : List (List Bool)). count_of_kind of (joined l)) (take_all (length bs) bs (omega arith))

  module _ (of : Kind) (number : ℕ) where
    -- a shard that is claimed to hold a number holds it
    pub placed : (location : Location) → IsClaimed of c number location → IsLocationWithin of bs number location
    placed location is =
        let k = location.shard in
        let inside : k < length bs = omega (arith, is.inside, h.bits_len) in
        let here = claimed_is of k (omega (arith, inside)) in
        record {
          inside = inside;
          within = omega (arith, is.is, is.next, here, claimed_is of (k + 1) (omega (arith, inside)), number_of-next of bs k inside);
          is = omega (arith, is.is, here);
        }

    pub placed_by : (r : Answer Location) → IsClaimedBy of c number r → IsShardFound of bs number r
    placed_by (Found location) is = placed location is.0
    placed_by Absent is = omega (arith, is, claimed_all of)
    placed_by Wrong is = omega (arith, is.0, claimed_is of 0 (omega arith), number_of-nil of)

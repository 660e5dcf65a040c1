-- Ranks and selections in one shard, and what they say of the joined bits.
use Rattle.std.proofs.Common.{◌≡◌, ℕ, ◌+◌, ◌^◌, ◌<◌, ◌≤◌, Bool, true, false, List, Option, Some, None, MatchOption, length, sym, ap, ◌∙◌, subst, arith, ⊎_elim}
use Rattle.std.specs.Option.{SomeIff}
use Rattle.std.proofs.lemmas.Bool.{cases_lt}
use Rattle.bit_lists.proofs.lemmas.CountLemmas.{ones_before-add-zeros_before}
use Rattle.bit_lists.specs.Count.{count_before, count_of, Picks}
use Rattle.bitm_tables.specs.declared.answer.Answer.{Answer}
use Rattle.bitm_tables.specs.declared.answer.Answer.TheVariants.{Found, Wrong}
use Rattle.bitm_select.specs.Answers.{IsSelected}
use Rattle.tables_view.specs.Ranks.{IsCountWithin, IsRanked}
use Rattle.sharded_index.proofs.JoinedLaws.{picked_in_joined, rank_in_joined}
use Rattle.sharded_index.proofs.JoinedLemmas.{shard_is_within}
use Rattle.sharded_index.proofs.LocationLemmas.{claimed_is, number_of-kind, placed}
use Rattle.sharded_index.specs.Joined.{joined, joined_to, kind_of, shard_at}
use Rattle.sharded_index.specs.Prefixes.{claimed, ArePrefixes, IsClaimed, Prefixes}
use Rattle.sharded_index.specs.declared.counts.Kind.TheVariants.{Positions}
use Rattle.sharded_index.specs.declared.counts.Location.{Location}

-- no more are counted before a location than there are
few : (b : List Bool) (v : Bool) (i : ℕ) → i ≤ length b → count_before b v i ≤ i
few b true i l = omega (arith, ones_before-add-zeros_before b i l)
few b false i l = omega (arith, ones_before-add-zeros_before b i l)

-- a sum is answered where it fits and is at most a number, or less than it
abbrev pub IsUpTo : ℕ → Option ℕ → Answer ℕ → Type 0
IsUpTo most sum r = MatchOption sum (r ≡ Wrong) (λ n. (n ≤ most → r ≡ Found n) × (most < n → r ≡ Wrong))

abbrev pub IsBelow : ℕ → Option ℕ → Answer ℕ → Type 0
IsBelow end sum r = MatchOption sum (r ≡ Wrong) (λ n. (n < end → r ≡ Found n) × (end ≤ n → r ≡ Wrong))

-- a rank is at most its index
pub within : (total index : ℕ) (sum : Option ℕ) (r : Answer ℕ) → index ≤ total → IsUpTo index sum r → IsCountWithin total index r
within total index None r l h = subst (IsCountWithin total index) (sym h) l
within total index (Some n) r l h =
    ⊎_elim
    (λ (more : index < n). subst (IsCountWithin total index) (sym (h.1 more)) l)
    (λ (most : n ≤ index). subst (IsCountWithin total index) (sym (h.0 most)) (l, most))
    (cases_lt index n)

-- a sum that is the count is answered
pub ranked : (b : List Bool) (v : Bool) (index n : ℕ) (sum : Option ℕ) (r : Answer ℕ) → index ≤ length b → count_before b v index ≡ n
    → SomeIff sum (n < 2 ^ 64) n → index < 2 ^ 64 → IsUpTo index sum r → IsRanked b v index r
ranked b v index n None r l e s fits h = absurd (s (omega (arith, few b v index l, e, fits)))
ranked b v index n (Some m) r l e s fits h =
    let most : m ≤ index = omega (arith, few b v index l, e, s.1) in
    subst (IsRanked b v index) (sym (h.0 most)) (l, s.1 ∙ sym e)

-- a sum that is the position is answered
pub selected : (b : List Bool) (v : Bool) (rank p end : ℕ) (sum : Option ℕ) (r : Answer ℕ) → Picks b v rank p → end ≡ length b
    → SomeIff sum (p < 2 ^ 64) p → end < 2 ^ 64 → IsBelow end sum r → IsSelected b v rank r
selected b v rank p end None r picked e s fits h = absurd (s (omega (arith, picked.inside, e, fits)))
selected b v rank p end (Some m) r picked e s fits h =
    let less : m < end = omega (arith, picked.inside, e, s.1) in
    subst (IsSelected b v rank) (sym (h.0 less)) (subst (Picks b v rank) (sym s.1) picked)

module _ (bs : List (List Bool)) (c : Prefixes) (h : ArePrefixes bs c) (v : Bool) (location : Location) where
  -- the count up to an index that a shard holds
  pub count_is : (index n : ℕ) → IsClaimed Positions c index location → n ≡ count_before (shard_at bs location.shard) v location.within
      → count_before (joined bs) v index ≡ claimed (kind_of v) c location.shard + n
  count_is index n is e =
      let k = location.shard in
      let at = placed bs c h Positions index location is in
      ap (count_before (joined bs) v) (sym at.is)
      ∙ (rank_in_joined bs v k location.within at.inside (omega (arith, at.within))
      ∙ ap (λ (m : ℕ). m + count_before (shard_at bs k) v location.within) (sym (number_of-kind v (joined_to bs k)) ∙ sym (claimed_is bs c h (kind_of v) k (omega (arith, at.inside))))
      ∙ ap (λ (m : ℕ). claimed (kind_of v) c k + m) (sym e))

  -- an index that a shard holds is one of the joined bits
  pub index_inside : (index : ℕ) → IsClaimed Positions c index location → index ≤ length (joined bs)
  index_inside index is =
      let at = placed bs c h Positions index location is in
      omega (arith, at.is, at.within, shard_is_within bs location.shard at.inside)

  module _ (rank : ℕ) (is : IsClaimed (kind_of v) c rank location) where
    -- the position that a shard has for a rank
    pub picked_is : (q : ℕ) → Picks (shard_at bs location.shard) v location.within q
        → Picks (joined bs) v rank (claimed Positions c location.shard + q)
    picked_is q picked =
        let k = location.shard in
        let at = placed bs c h (kind_of v) rank location is in
        let r : count_of (joined_to bs k) v + location.within ≡ rank = omega (arith, at.is, number_of-kind v (joined_to bs k)) in
        let p : length (joined_to bs k) + q ≡ claimed Positions c k + q =
        ap (λ (m : ℕ). m + q) (sym (claimed_is bs c h Positions k (omega (arith, at.inside)))) in
        let there = (picked_in_joined bs v k location.within q at.inside picked.inside).0 picked in
        subst (λ (m : ℕ). Picks (joined bs) v m (claimed Positions c k + q)) r
        (subst (Picks (joined bs) v (count_of (joined_to bs k) v + location.within)) p there)

    -- a shard has the rank that it is claimed to hold
    pub is_there : count_of (shard_at bs location.shard) v ≤ location.within → ⊥
    is_there few =
        let at = placed bs c h (kind_of v) rank location is in
        omega (arith, at.within, few, number_of-kind v (shard_at bs location.shard))

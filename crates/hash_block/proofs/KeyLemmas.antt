-- Keys at their numbers.
use Rattle.std.proofs.Common.{◌≡◌, ℕ, ◌+◌, ◌<◌, ◌≤◌, List, length, Option, Some, None, set, get_or-set_same, get_or-set_other, refl, sym, ap, ◌∙◌, subst, arith, ⊎_elim}
use Rattle.std.proofs.lemmas.Bool.{cases_lt}
use Rattle.std.proofs.lemmas.Option.{slice_get_within, get_or_from_slice_get}
use Rattle.std.specs.List.{slice_get, slice_index}
use Rattle.std.specs.Option.{IfSome, IsSome}
use Rattle.perfect_hash.specs.Perfect.{IsMinimalPerfect}
use Rattle.hash_block.specs.Dictionary.{AreKeys, StandAtNumbers}

-- the first i keys stand at their numbers
pub record StandTo (number : ℕ → Option ℕ) (keys stored : List ℕ) (i : ℕ) : Type 0 where
  pub each : (j v key : ℕ) → j < i → slice_get keys j ≡ Some key → number key ≡ Some v → slice_index stored v ≡ key

some_value : (o p : Option ℕ) → p ≡ o → IsSome o → (v : ℕ) × (p ≡ Some v)
some_value None p is some = cc
some_value (Some v) p is some = (v, is)

module _ (number : ℕ → Option ℕ) (keys : List ℕ) (perfect : IsMinimalPerfect number keys) where
  -- a number that is given is below the count of keys
  pub below : (key v : ℕ) → number key ≡ Some v → v < length keys
  below key v is = subst (λ (o : Option ℕ). IfSome o (λ w. w < length keys)) is (perfect.below key)

  -- each key has a number
  pub numbered : (i key : ℕ) → slice_get keys i ≡ Some key → (v : ℕ) × (number key ≡ Some v)
  numbered i key here =
      some_value (number key) (number key) refl
      (subst (λ (x : ℕ). IsSome (number x)) (get_or_from_slice_get keys i key key here) (perfect.some i key (slice_get_within keys i key here)))

  -- one more is written
  pub StandTo-next : (stored : List ℕ) (i n key : ℕ) → StandTo number keys stored i → length stored ≡ length keys → slice_get keys i ≡ Some key
      → number key ≡ Some n → StandTo number keys (set stored n key) (i + 1)
  StandTo-next stored i n key so_far len here is = record {
    each = λ j v other less at_j is_v.
        ⊎_elim
        (λ before.
        get_or-set_other stored n v key 0 (λ same. different j v other before at_j is_v same)
        ∙ so_far.each j v other before at_j is_v)
        (λ from. last j v other (omega (arith, from, less)) at_j is_v)
        (cases_lt j i);
  }
    where
      different : (j v other : ℕ) → j < i → slice_get keys j ≡ Some other → number other ≡ Some v → v ≡ n → ⊥
      different j v other less at_j is_v same =
          omega (arith, less, perfect.apart j i other key at_j here (is_v ∙ ap Some same ∙ sym is))

      last : (j v other : ℕ) → j ≡ i → slice_get keys j ≡ Some other → number other ≡ Some v → slice_index (set stored n key) v ≡ other
      last j v other at at_j is_v =
          let both : Some other ≡ Some key = sym at_j ∙ ap (slice_get keys) at ∙ here in
          let key_is : other ≡ key = cc in
          let value : Some v ≡ Some n = sym is_v ∙ ap number key_is ∙ is in
          let v_is : v ≡ n = cc in
          ap (slice_index (set stored n key)) v_is ∙ get_or-set_same stored n key 0 (omega (arith, below key n is, len)) ∙ sym key_is

  pub all_stand : (stored : List ℕ) (i : ℕ) → StandTo number keys stored i → length keys ≤ i → StandAtNumbers number keys stored
  all_stand stored i so_far past = λ j v key here is. so_far.each j v key (omega (arith, slice_get_within keys j key here, past)) here is

  module _ (stored : List ℕ) (stand : StandAtNumbers number keys stored) (len : length stored ≡ length keys) where
    -- what stands at a number has that number
    pub own : (v : ℕ) → v < length stored → number (slice_index stored v) ≡ Some v
    own v less =
        let at = perfect.onto v (omega (arith, less, len)) in
        ap number (stand at.0 v at.1 at.2 at.3) ∙ at.3

    -- nothing but keys stands there
    pub only : AreKeys keys stored
    only = λ v less.
        let at = perfect.onto v (omega (arith, less, len)) in
        (at.0, at.2 ∙ ap Some (sym (stand at.0 v at.1 at.2 at.3)))

-- Fingerprints of keys at their numbers.
use Rattle.std.proofs.Common.{◌≡◌, ◌≢◌, ℕ, ◌+◌, ◌*◌, ◌^◌, ◌<◌, ◌≤◌, ◌⊎◌, Bool, true, false, cond, List, length, Option, Some, None, refl, sym, ap, ◌∙◌, ⊎_elim, inl, inr, arith, eqb, subst, get_or}
use Rattle.std.proofs.lemmas.Bool.{cases_lt, cases_order, eqb-true, eq-eqb}
use Rattle.std.proofs.lemmas.Nat.{row_fits}
use Rattle.std.proofs.lemmas.Option.{slice_get-get_or, slice_get_within, get_or_from_slice_get}
use Rattle.std.specs.List.{slice_get}
use Rattle.std.specs.Option.{IfSome, IsSome, is_some}
use Rattle.bit_lists.specs.Bits.{bits_of}
use Rattle.bit_lists.specs.Number.{number_at, with_number}
use Rattle.bit_lists.proofs.BitLaws.{bits_are_counted, number_beside_is_kept, read_after_write}
use Rattle.perfect_hash.specs.Dictionary.{ArePrints, IsDictionary, kept_if, print_at}
use Rattle.perfect_hash.specs.Perfect.{IsMinimalPerfect}

-- what is kept was there, and passed
pub kept_was : (test : ℕ → Bool) (o : Option ℕ) (v : ℕ) → kept_if test o ≡ Some v → (o ≡ Some v) × (test v ≡ true)
kept_was test None v here = cc
kept_was test (Some w) v here = passed (test w) refl here
  where
    passed : (b : Bool) → test w ≡ b → cond b (Some w) None ≡ Some v → (Some w ≡ Some v) × (test v ≡ true)
    passed true is e = (e, (let same : w ≡ v = cc in ap test (sym same) ∙ is))
    passed false is e = cc

-- what passes is kept
pub kept_is : (test : ℕ → Bool) (o : Option ℕ) (v : ℕ) → o ≡ Some v → test v ≡ true → kept_if test o ≡ Some v
kept_is test o v is passes = ap (kept_if test) is ∙ ap (λ (b : Bool). cond b (Some v) None) passes

some_value : (o p : Option ℕ) → p ≡ o → IsSome o → (v : ℕ) × (p ≡ Some v)
some_value None p is some = cc
some_value (Some v) p is some = (v, is)

-- the fingerprints of the first i keys stand at their numbers
pub record PrintsTo {K : Type 0} (number : K → Option ℕ) (print : K → ℕ) (keys : List K) (width : ℕ) (prints : List ℕ) (i : ℕ) : Type 0 where
  pub each : (j v : ℕ) (k : K) → j < i → slice_get keys j ≡ Some k → number k ≡ Some v → print_at prints width v ≡ print k

module _ {K : Type 0} (number : K → Option ℕ) (print : K → ℕ) (keys : List K) (width : ℕ) (perfect : IsMinimalPerfect number keys) where
  -- a number that is given is below the count of keys
  bound : (k : K) (v : ℕ) → number k ≡ Some v → v < length keys
  bound k v is = subst (λ (o : Option ℕ). IfSome o (λ w. w < length keys)) is (perfect.below k)

  -- each key has a number
  pub numbered : (i : ℕ) (k : K) → slice_get keys i ≡ Some k → (v : ℕ) × (number k ≡ Some v)
  numbered i k here =
      some_value (number k) (number k) refl
      (subst (λ (x : K). IsSome (number x)) (get_or_from_slice_get keys i k k here) (perfect.some i k (slice_get_within keys i k here)))

  -- one more is written
  pub PrintsTo-next : (old new : List ℕ) (i n : ℕ) (key : K) → PrintsTo number print keys width old i → slice_get keys i ≡ Some key → number key ≡ Some n
      → bits_of new ≡ with_number (bits_of old) (n * width) width (print key) → n * width + width ≤ 64 * length old
      → print key < 2 ^ width → PrintsTo number print keys width new (i + 1)
  PrintsTo-next old new i n key so_far here is written room fits = record {
    each = λ j v k less at_j is_v.
        ⊎_elim
        (λ before. ap (λ b. number_at b (v * width) width) written
        ∙ number_beside_is_kept (bits_of old) (n * width) width (print key) (v * width) width inside
        (beside v (λ same. different j v k before at_j is_v same))
        ∙ so_far.each j v k before at_j is_v)
        (λ from. last j v k (omega arith) at_j is_v)
        (cases_lt j i);
  }
    where
      inside : n * width + width ≤ length (bits_of old)
      inside = omega (arith, room, bits_are_counted old)

      beside : (v : ℕ) → v ≢ n → (v * width + width ≤ n * width) ⊎ (n * width + width ≤ v * width)
      beside v other =
          ⊎_elim (λ same. absurd (other same))
          (λ apart. ⊎_elim (λ less. inl (row_fits v width n width less (omega arith))) (λ more. inr (row_fits n width v width more (omega arith))) apart)
          (cases_order v n)

      different : (j v : ℕ) (k : K) → j < i → slice_get keys j ≡ Some k → number k ≡ Some v → v ≡ n → ⊥
      different j v k less at_j is_v same =
          omega (arith, less, perfect.apart j i k key at_j here (is_v ∙ ap Some same ∙ sym is))

      last : (j v : ℕ) (k : K) → j ≡ i → slice_get keys j ≡ Some k → number k ≡ Some v → print_at new width v ≡ print k
      last j v k at at_j is_v =
          let both : Some k ≡ Some key = sym at_j ∙ ap (slice_get keys) at ∙ here in
          let key_is : k ≡ key = cc in
          let value : Some v ≡ Some n = sym is_v ∙ ap number key_is ∙ is in
          let v_is : v ≡ n = cc in
          ap (λ b. number_at b (v * width) width) written
          ∙ ap (λ q. number_at (with_number (bits_of old) (n * width) width (print key)) (q * width) width) v_is
          ∙ read_after_write (bits_of old) (n * width) width (print key) inside fits
          ∙ ap print (sym key_is)

  pub all_prints : (prints : List ℕ) (i : ℕ) → PrintsTo number print keys width prints i → length keys ≤ i → ArePrints number print keys prints width
  all_prints prints i so_far past = λ j v k here is. so_far.each j v k (omega (arith, slice_get_within keys j k here, past)) here is

  module _ (prints : List ℕ) (are : ArePrints number print keys prints width) where
    -- whether the fingerprint of a key stands at a number
    abbrev stands : K → ℕ → Bool
    stands k v = eqb (print_at prints width v) (print k)

    found_key : (i : ℕ) (k : K) (v : ℕ) → slice_get keys i ≡ Some k → number k ≡ Some v → kept_if (stands k) (number k) ≡ Some v
    found_key i k v here is = kept_is (stands k) (number k) v is (eq-eqb (print_at prints width v) (print k) (are i v k here is))

    pub dictionary : IsDictionary (λ k. kept_if (stands k) (number k)) print keys
    dictionary = record {
      perfect = record {
        below = λ k. below k (kept_if (stands k) (number k)) refl;
        some = λ i d inside.
            let k = get_or keys i d in
            let here = slice_get-get_or keys i d inside in
            let n = numbered i k here in
            ap is_some (found_key i k n.0 here n.1);
        apart = λ i j k l at_i at_j same.
            let n = numbered i k at_i in
            let other = kept_was (stands l) (number l) n.0 (sym same ∙ found_key i k n.0 at_i n.1) in
            perfect.apart i j k l at_i at_j (n.1 ∙ sym other.0);
        onto = λ v less.
            let at = perfect.onto v less in
            (at.0, at.1, at.2, found_key at.0 at.1 v at.2 at.3);
      };
      alike = λ k v is.
          let was = kept_was (stands k) (number k) v is in
          let at = perfect.onto v (bound k v was.0) in (
            at.0,
            at.1,
            at.2,
            found_key at.0 at.1 v at.2 at.3,
            sym (are at.0 v at.1 at.2 at.3) ∙ eqb-true (print_at prints width v) (print k) was.1,
          );
    }
      where
        below : (k : K) (o : Option ℕ) → kept_if (stands k) (number k) ≡ o → IfSome o (λ v. v < length keys)
        below k None is = tt
        below k (Some v) is = bound k v (kept_was (stands k) (number k) v is).0

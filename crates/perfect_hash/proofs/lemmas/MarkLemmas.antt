-- Marking: the bits that some of the first keys fall on, and those that two do.
use Rattle.std.proofs.Common.{◌≡◌, ◌≢◌, ℕ, ◌+◌, ◌*◌, ◌<◌, ◌≤◌, Bool, true, false, List, length, take, get_or, sym, ap, ◌∙◌, ⊎_elim, arith, eqb, ltb}
use Rattle.std.proofs.lemmas.Bool.{cases_eq, eq-eqb, ne_eqb, lt-ltb, le-ltb, ltb-true, ltb-false}
use Rattle.std.proofs.lemmas.List.Sums.{sum_by_more}
use Rattle.bit_lists.specs.Bits.{item}
use Rattle.bit_lists.specs.Number.{with_number}
use Rattle.bit_lists.proofs.BitLaws.{item_after_write}
use Rattle.perfect_hash.specs.Levels.{hits}
use Rattle.perfect_hash.proofs.lemmas.CountingLemmas.{one_if}

-- hit has a one where some key falls, again where two do
pub record IsMarked {K : Type 0} (fall : K → ℕ → ℕ → ℕ) (keys : List K) (level words : ℕ) (hit again : List Bool) : Type 0 where
  pub once : (p : ℕ) → p < 64 * words → item hit p ≡ ltb 0 (hits fall keys level words p)
  pub twice : (p : ℕ) → p < 64 * words → item again p ≡ ltb 1 (hits fall keys level words p)

-- the same of lists that are the same
pub IsMarked-same : {K : Type 0} (fall : K → ℕ → ℕ → ℕ) (keys : List K) (level words : ℕ) (hit again hit' again' : List Bool)
    → IsMarked fall keys level words hit again → hit' ≡ hit → again' ≡ again → IsMarked fall keys level words hit' again'
IsMarked-same fall keys level words hit again hit' again' marked same same_again = record {
  once = λ p low. ap (λ (b : List Bool). item b p) same ∙ marked.once p low;
  twice = λ p low. ap (λ (b : List Bool). item b p) same_again ∙ marked.twice p low;
}

module _ {K : Type 0} (fall : K → ℕ → ℕ → ℕ) (keys : List K) (level words : ℕ) where
  pub IsMarked-none : (hit again : List Bool) → ((i : ℕ) → item hit i ≡ false) → ((i : ℕ) → item again i ≡ false)
      → IsMarked fall (take 0 keys) level words hit again
  IsMarked-none hit again clear clear_again = record {
    once = λ p _. clear p ∙ sym (le-ltb 0 0 (omega arith));
    twice = λ p _. clear_again p ∙ sym (le-ltb 1 0 (omega arith));
  }

  -- one more key
  hits-more : (i : ℕ) (k d : K) (p : ℕ) → i < length keys → k ≡ get_or keys i d
      → hits fall (take (i + 1) keys) level words p
      ≡ hits fall (take i keys) level words p + one_if (eqb (fall k level words) p)
  hits-more i k d p inside is =
      sum_by_more (λ x. one_if (eqb (fall x level words) p)) keys i d inside
      ∙ ap (λ (x : K). hits fall (take i keys) level words p + one_if (eqb (fall x level words) p)) (sym is)

  module _ (i : ℕ) (k d : K) (position : ℕ) (inside : i < length keys) (is : k ≡ get_or keys i d) (at : position ≡ fall k level words) where
    here : hits fall (take (i + 1) keys) level words position ≡ hits fall (take i keys) level words position + 1
    here = omega (arith, hits-more i k d position inside is, ap one_if (eq-eqb (fall k level words) position (sym at)))

    beside : (p : ℕ) → p ≢ position → hits fall (take (i + 1) keys) level words p ≡ hits fall (take i keys) level words p
    beside p other =
        omega (arith, hits-more i k d p inside is, ap one_if (ne_eqb (fall k level words) p (λ same. other (sym same ∙ sym at))))

    module _ (hit again : List Bool) (marked : IsMarked fall (take i keys) level words hit again) (within : position < 64 * words) where
      written : (b : List Bool) → position < length b → item (with_number b position 1 1) position ≡ true
      written b room = (item_after_write b position 1 room).0

      kept : (b : List Bool) (p : ℕ) → position < length b → p ≢ position → item (with_number b position 1 1) p ≡ item b p
      kept b p room other = (item_after_write b position 1 room).1 p other

      -- the first key that falls there
      pub IsMarked-first : position < length hit → item hit position ≡ false
          → IsMarked fall (take (i + 1) keys) level words (with_number hit position 1 1) again
      IsMarked-first room clear =
          let none : hits fall (take i keys) level words position ≤ 0 =
          ltb-false 0 (hits fall (take i keys) level words position) (sym (marked.once position within) ∙ clear) in
          record {
            once = λ p low. ⊎_elim
                (λ same. ap (item (with_number hit position 1 1)) same ∙ written hit room
                ∙ sym (lt-ltb 0 (hits fall (take (i + 1) keys) level words p) (omega (arith, here, ap (hits fall (take (i + 1) keys) level words) same))))
                (λ other. kept hit p room other ∙ marked.once p low ∙ ap (ltb 0) (sym (beside p other)))
                (cases_eq p position);
            twice = λ p low. ⊎_elim
                (λ same. ap (item again) same ∙ marked.twice position within
                ∙ le-ltb 1 (hits fall (take i keys) level words position) (omega arith)
                ∙ sym (le-ltb 1 (hits fall (take (i + 1) keys) level words p) (omega (arith, here, none, ap (hits fall (take (i + 1) keys) level words) same))))
                (λ other. marked.twice p low ∙ ap (ltb 1) (sym (beside p other)))
                (cases_eq p position);
          }

      -- another one
      pub IsMarked-again : position < length again → item hit position ≡ true
          → IsMarked fall (take (i + 1) keys) level words hit (with_number again position 1 1)
      IsMarked-again room set =
          let some : 0 < hits fall (take i keys) level words position =
          ltb-true 0 (hits fall (take i keys) level words position) (sym (marked.once position within) ∙ set) in
          record {
            once = λ p low. ⊎_elim
                (λ same. ap (item hit) same ∙ set
                ∙ sym (lt-ltb 0 (hits fall (take (i + 1) keys) level words p) (omega (arith, here, ap (hits fall (take (i + 1) keys) level words) same))))
                (λ other. marked.once p low ∙ ap (ltb 0) (sym (beside p other)))
                (cases_eq p position);
            twice = λ p low. ⊎_elim
                (λ same. ap (item (with_number again position 1 1)) same ∙ written again room
                ∙ sym (lt-ltb 1 (hits fall (take (i + 1) keys) level words p) (omega (arith, here, some, ap (hits fall (take (i + 1) keys) level words) same))))
                (λ other. kept again p room other ∙ marked.twice p low ∙ ap (ltb 1) (sym (beside p other)))
                (cases_eq p position);
          }

-- The number of a hash, by the words of the library.
use Rattle.std.proofs.Common.{◌≡◌, ℕ, ◌-◌, ◌^◌, ◌<◌, ◌≤◌, List, [], ◌∷◌, length, min, refl, sym, ap, ◌∙◌, subst, arith}
use Rattle.bit_lists.proofs.lemmas.CountLemmas.{few_ones}
use Rattle.bit_lists.proofs.lemmas.BitsLemmas.{length-bits_of}
use Rattle.bit_lists.specs.Count.{ones_of}
use Rattle.bitm_select.specs.Answers.{list_code}
use Rattle.bitm_tables.specs.Tables.{Lists, bits_in}
use Rattle.bitm_tables.specs.declared.answer.Answer.{Answer}
use Rattle.bitm_tables.specs.declared.answer.Answer.TheVariants.{Found, Absent, Wrong}
use Rattle.bitm_view.proofs.CodeLemmas.{selected_position}
use Rattle.bitm_view.specs.Queries.{ranked_by}
use Rattle.perfect_hash.specs.Levels.{fall_in}
use Rattle.perfect_hash.specs.Numbers.{number_in}
use Rattle.perfect_hash.specs.Positions.{position_by, position_in}
use Rattle.perfect_hash.specs.Asking.{IsBelow, IsNumbered}
use Rattle.perfect_hash.specs.Listed.{IsNumberClaimed, IsTotal}
use Rattle.bitm_abi.specs.Hash.{fall_of, HashLists, IsHashNumber, IsHashOf}

-- where hashes fall without seeds, and with some
pub falls_plain : (seeds : List ℕ) → length seeds ≡ 0 → fall_of seeds ≡ (λ _. position_in)
falls_plain [] none = refl
falls_plain (seed ∷ seeds) none = absurd (omega (arith, none))

pub falls_by : (seeds : List ℕ) → 0 < length seeds → fall_of seeds ≡ position_by seeds
falls_by [] some = absurd (omega (arith, some))
falls_by (seed ∷ seeds) some = refl

below_more : (m n : ℕ) (answer : Answer ℕ) → m ≤ n → IsBelow m answer → IsBelow n answer
below_more m n (Found k) l below = omega (arith, l, below)
below_more m n Absent l below = tt
below_more m n Wrong l below = tt

-- a code that is below a limit stands for its answer
coded : (limit : ℕ) (answer : Answer ℕ) → limit ≤ 2 ^ 64 - 2 → IsBelow limit answer → ranked_by (list_code answer) ≡ answer
coded limit (Found p) most below = selected_position p (omega (arith, below, most))
coded limit Absent most below = refl
coded limit Wrong most below = refl

module _ (h : HashLists) (by : ℕ → ℕ → ℕ → ℕ → ℕ) (same : fall_of h.seeds ≡ by) (lists : Lists) (are : lists ≡ h.lists) (hash : ℕ) where
  -- where it is sought below some limit
  below_limit : (limit : ℕ) (answer : Answer ℕ) → limit ≤ h.keys → (IsHashOf h → ones_of (bits_in h.lists) ≤ limit)
      → IsTotal by h.sizes limit lists hash answer → IsHashNumber h hash answer
  below_limit limit answer most enough total =
      let is : IsTotal by h.sizes limit h.lists hash answer = subst (λ (l : Lists). IsTotal by h.sizes limit l hash answer) are total in
      record {
        below = below_more limit h.keys answer most is.below;
        counts = λ right.
            subst (λ (f : ℕ → ℕ → ℕ → ℕ → ℕ). IsNumbered (number_in (fall_in f h.sizes) h.sizes (bits_in h.lists) hash) answer) (sym same)
            (is.number right.tables right.sized (enough right));
      }

  pub total_is : (answer : Answer ℕ) → IsTotal by h.sizes h.keys lists hash answer → IsHashNumber h hash answer
  total_is answer total = below_limit h.keys answer (omega arith) (λ right. right.enough) total

  -- whatever the number of keys, no number is a code
  pub claimed_is : (limit n : ℕ) → limit ≡ min h.keys (2 ^ 64 - 2) → IsNumberClaimed by h.sizes limit lists hash n → IsHashNumber h hash (ranked_by n)
  claimed_is limit n limit_is claimed =
      subst (IsHashNumber h hash) (sym (ap ranked_by claimed.claimed ∙ coded limit claimed.answer (omega (arith, limit_is)) claimed.is.below))
      (below_limit limit claimed.answer (omega (arith, limit_is))
      (λ right. omega (arith, limit_is, right.enough, few_ones h.lists.words, right.sized.short, length-bits_of h.lists.words))
      claimed.is)

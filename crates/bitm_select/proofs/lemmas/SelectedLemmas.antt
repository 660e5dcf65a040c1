-- What a selection among eight words says where the tables are right, and where they may hold anything.
use Rattle.std.proofs.Common.{◌≡◌, ℕ, ◌+◌, ◌*◌, ◌<◌, ◌≤◌, ◌-◌, ◌/◌, Bool, List, IfSome, length, refl, arith}
use Rattle.bit_lists.proofs.lemmas.BitsLemmas.{length-bits_of}
use Rattle.bit_lists.proofs.lemmas.PickLemmas.{rank_below}
use Rattle.bit_lists.specs.Bits.{bits_of, IsShort}
use Rattle.bit_lists.specs.Count.{ones_before, count_of, IsSelect}
use Rattle.bitm_select.specs.Answers.{position_in, list_code, HasBit, IsFoundFrom, IsSelected, IsSelectedFrom, IsSelectCode}
use Rattle.bitm_select.specs.Search.{sought_bits}
use Rattle.bitm_tables.specs.Tables.{HasTables, Lists, bits_in}
use Rattle.bitm_select.specs.Claims.{wrong_for_absent, ClaimsNone}
use Rattle.bitm_tables.specs.Answers.{IfAbsent}
use Rattle.bitm_tables.specs.declared.answer.Answer.{Answer}
use Rattle.bitm_tables.specs.declared.answer.Answer.TheVariants.{Found, Absent, Wrong}
use Rattle.bitm_select.proofs.lemmas.MarkLemmas.{none_counted}

module _ (words : List ℕ) (v : Bool) (k r : ℕ) where
  -- a position that is picked has the bit
  pub has_bit : (s : Answer ℕ) → IsSelectedFrom words v k r s → HasBit (bits_of words) v s
  has_bit (Found p) is = (is.inside, is.item)
  has_bit Absent is = tt
  has_bit Wrong is = tt

  -- where the rank stands before the words that follow, the tables are not called wrong
  pub selected : (s : Answer ℕ) → (k + 8 < length words → r < ones_before (sought_bits v (bits_of words)) (64 * (k + 8)))
      → IsSelectedFrom words v k r s → IsSelected (bits_of words) v r s
  selected (Found p) next is = is
  selected Absent next is = is
  selected Wrong next is = absurd (omega (arith, next is.0, is.1))

  -- nothing is left where the words end
  pub absent : (count : ℕ) → length words ≤ k + 8 → count ≡ length words - k
      → ones_before (sought_bits v (bits_of words)) (64 * (k + count)) ≤ r → count_of (bits_of words) v ≤ r
  absent count ends is le =
      none_counted (bits_of words) v r (64 * (k + count)) (omega (arith, length-bits_of words, is, ends)) le

module _ (b : List Bool) (v : Bool) (r : ℕ) where
  -- where the tables are right the position that is found is the one that is sought
  pub is_select : (s : Answer ℕ) → IsSelected b v r s → IsSelect b v r (position_in s)
  is_select (Found p) is = is
  is_select Absent is = is
  is_select Wrong is = absurd is

-- a position that is found between two others is between those around them
pub found_within : (i j i' j' : ℕ) → i' ≤ i → j ≤ j' → (s : Answer ℕ) → IsFoundFrom i j s → IsFoundFrom i' j' s
found_within i j i' j' low high (Found p) is = (omega (arith, is.0, low), omega (arith, is.1, high))
found_within i j i' j' low high Absent is = tt
found_within i j i' j' low high Wrong is = tt

-- a position from the entry's first bit on and before the next entry is in the entry
pub in_entry : (k : ℕ) (s : Answer ℕ) → IsFoundFrom (2048 * k) (2048 * (k + 1)) s → IfSome (position_in s) (λ p. p / 2048 ≡ k)
in_entry k (Found p) is = omega (arith, is.0, is.1)
in_entry k Absent is = tt
in_entry k Wrong is = tt

-- where Wrong stands for Absent, a position that was found is found, and nothing is absent
pub bit_kept : (b : List Bool) (v : Bool) (s : Answer ℕ) → HasBit b v s → HasBit b v (wrong_for_absent s)
bit_kept b v (Found p) is = is
bit_kept b v Absent is = tt
bit_kept b v Wrong is = tt

pub never_absent : (P : Type 0) (s : Answer ℕ) → IfAbsent (wrong_for_absent s) P
never_absent P (Found p) = tt
never_absent P Absent = tt
never_absent P Wrong = tt

-- what a list of answers says of a selection
pub claimed_is : (v : Bool) (lists : Lists) (r : ℕ) → IsShort lists.words → (s : Answer ℕ) → HasBit (bits_in lists) v s
    → IfAbsent s (ClaimsNone v lists r) → (HasTables lists → IsSelected (bits_in lists) v r s) → IsSelectCode v lists r (list_code s)
claimed_is v lists r short (Found p) bit none answer = record {
  bit = λ _. bit;
  absent = λ e. absurd (omega (arith, e, bit.0, short, length-bits_of lists.words));
  some = λ t _. answer t;
  none = λ t past. absurd (omega (arith, past, rank_below (bits_in lists) v r p (answer t)));
}
claimed_is v lists r short Absent bit none answer = record {
  bit = λ h. absurd (omega (arith, h));
  absent = λ _. none;
  some = λ t some. absurd (omega (arith, some, answer t));
  none = λ _ _. refl {A = ℕ};
}
claimed_is v lists r short Wrong bit none answer = record {
  bit = λ h. absurd (omega (arith, h));
  absent = λ e. absurd (omega (arith, e));
  some = λ t. absurd (answer t);
  none = λ t. absurd (answer t);
}

-- Fingerprints of keys, each at the number of its key, and what a look-up by them answers.
use Rattle.std.specs.Prelude.{◌≡◌, ◌↔◌, ⊤, ℕ, ◌+◌, ◌*◌, ◌%◌, ◌^◌, ◌<◌, ◌≤◌, Bool, false, List, Option, Some, length, slice_index, IsSomeAnd, IsTrue, MatchOption}
use Rattle.bit_lists.specs.Bits.{bits_of}
use Rattle.bit_lists.specs.Number.{with_number}
use Rattle.bitm_select.specs.Answers.{position_in}
use Rattle.bitm_tables.specs.declared.answer.Answer.{Answer}
use Rattle.bitm_tables.specs.declared.answer.Answer.TheVariants.{Found, Absent, Wrong}
use Rattle.perfect_hash.specs.Dictionary.{print_at}
use Rattle.bitm_abi.specs.Status.{Exported}
use Rattle.bitm_abi.specs.Hash.{hash_number, CanBeHash, HashLists, IsHashNumber}

-- the lengths that fingerprints have
abbrev pub ArePrintsSized : List ℕ → ℕ → Type 0
ArePrintsSized prints width = (length prints < 2 ^ 58) × (width ≤ 64)

-- the lengths that a look-up takes
abbrev pub CanBeFound : HashLists → List ℕ → ℕ → Type 0
CanBeFound h prints width = ArePrintsSized prints width × CanBeHash h

-- there is room for fingerprint n, of width bits
abbrev pub HasPrint : List ℕ → ℕ → ℕ → Type 0
HasPrint prints width n = n * width + width ≤ 64 * length prints

-- fingerprint n is the lowest bits of a number
abbrev pub IsPrint : List ℕ → ℕ → ℕ → ℕ → Type 0
IsPrint prints width n print = print_at prints width n ≡ print % 2 ^ width

-- what is answered of a key, by its number: the number if its fingerprint is that of the key, Absent if it is another,
-- Wrong where there is none
abbrev pub IsChecked : List ℕ → ℕ → ℕ → Answer ℕ → Answer ℕ → Type 0
IsChecked prints width print (Found n) (Found m) = (m ≡ n) × HasPrint prints width n × IsPrint prints width n print
IsChecked prints width print (Found n) Absent = HasPrint prints width n × (IsPrint prints width n print → ⊥)
IsChecked prints width print (Found n) Wrong = HasPrint prints width n → ⊥
IsChecked prints width print Absent answer = answer ≡ Absent
IsChecked prints width print Wrong answer = answer ≡ Wrong

-- what is answered of a key, by its hash and its fingerprint
pub record IsKey (h : HashLists) (prints : List ℕ) (width hash print : ℕ) (answer : Answer ℕ) : Type 0 where
  pub number : Answer ℕ
  pub hashed : IsHashNumber h hash number
  pub checked : IsChecked prints width print number answer

-- the status, and the number before and after the call
abbrev pub KeyAnswered : HashLists → List ℕ → ℕ → ℕ → ℕ → ℕ → ℕ → ℕ → Type 0
KeyAnswered h prints width hash print = Exported (CanBeFound h prints width) (IsKey h prints width hash print)

-- the number of key j
abbrev pub number_of_key_in : HashLists → List ℕ → ℕ → Option ℕ
number_of_key_in h hashes j = hash_number h (slice_index hashes j)

-- one of the keys from key j to before key m has this number
abbrev pub HaveNumber : (ℕ → Option ℕ) → ℕ → ℕ → ℕ → Type 0
HaveNumber number j m n = (i : ℕ) × (j ≤ i) × (i < m) × (number i ≡ Some n)

-- of the first m keys, each number has the fingerprint of the last key with that number
abbrev pub ArePrintsWritten : (ℕ → Option ℕ) → List ℕ → List ℕ → ℕ → ℕ → Type 0
ArePrintsWritten number key_prints prints width m = (j n : ℕ) → j < m → number j ≡ Some n
    → ¬ HaveNumber number (j + 1) m n → HasPrint prints width n → IsPrint prints width n (slice_index key_prints j)

-- a number that none of the first m keys has kept its fingerprint
abbrev pub ArePrintsKept : (ℕ → Option ℕ) → List ℕ → List ℕ → ℕ → ℕ → Type 0
ArePrintsKept number old new width m = (n : ℕ) → ¬ HaveNumber number 0 m n
    → HasPrint new width n → print_at new width n ≡ print_at old width n

-- each of the first m keys has a number, and there is room for its fingerprint
abbrev pub HaveRoom : (ℕ → Option ℕ) → List ℕ → ℕ → ℕ → Type 0
HaveRoom number prints width m = (j : ℕ) → j < m → MatchOption (number j) ⊥ (HasPrint prints width)

-- the fingerprints of the first m keys are set, whatever the tables hold: each key has an answer that a look-up of it
-- may give, and by the numbers in these each fingerprint is written, or kept; it is good where each key has a number,
-- and room for its fingerprint
pub record AreSet (h : HashLists) (hashes key_prints old new : List ℕ) (width m : ℕ) (good : Type 0) : Type 0 where
  pub answer : ℕ → Answer ℕ
  pub hashed : (j : ℕ) → j < m → IsHashNumber h (slice_index hashes j) (answer j)
  pub written : ArePrintsWritten (λ j. position_in (answer j)) key_prints new width m
  pub kept : ArePrintsKept (λ j. position_in (answer j)) old new width m
  pub room : good ↔ HaveRoom (λ j. position_in (answer j)) old width m

-- what the write of a key's fingerprint leaves, and whether it was written
pub record WritesPrint (number : Option ℕ) (width print : ℕ) (old new : List ℕ) (is : Bool) : Type 0 where
  pub len : length new ≡ length old
  pub written : IsTrue is → IsSomeAnd number (λ n. HasPrint old width n
      × (bits_of new ≡ with_number (bits_of old) (n * width) width (print % 2 ^ width)))
  pub kept : is ≡ false → (new ≡ old) × MatchOption number ⊤ (λ n. ¬ HasPrint old width n)

-- a key has an answer that a look-up of it may give, by whose number its fingerprint is written
pub record SetsPrint (h : HashLists) (hash width print : ℕ) (old new : List ℕ) (is : Bool) : Type 0 where
  pub answer : Answer ℕ
  pub hashed : IsHashNumber h hash answer
  pub writes : WritesPrint (position_in answer) width print old new is

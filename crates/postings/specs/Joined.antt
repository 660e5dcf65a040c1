-- The numbers that stand in any of several lists.
use Rattle.std.specs.Prelude.{◌≡◌, ℕ, ◌^◌, ◌<◌, ◌≤◌, ◌⊎◌, List, length, slice_index, Option, Some, None, MatchOption}
use Rattle.bitm_tables.specs.Answers.{Right}
use Rattle.bitm_tables.specs.declared.answer.Answer.{Answer}
use Rattle.postings.specs.Shared.{list_at, IsAmong, IsNumberIn, KeepsFrom}

-- x stands in one of the first n lists
abbrev pub IsInFirst : List (List ℕ) → ℕ → ℕ → Type 0
IsInFirst xss n x = (i : ℕ) × (i < n) × IsNumberIn (list_at xss i) x

-- x stands in some list
abbrev pub IsInSome : List (List ℕ) → ℕ → Type 0
IsInSome xss x = IsInFirst xss (length xss) x

-- x is the least of the numbers from v on in the first n lists
pub record IsLeastOf (xss : List (List ℕ)) (n v x : ℕ) : Type 0 where
  pub from : v ≤ x
  pub there : IsInFirst xss n x
  pub least : (y : ℕ) → v ≤ y → IsInFirst xss n y → x ≤ y

-- the least of the numbers from v on in the first n lists, and None exactly where these have none
abbrev pub IsLeastFrom : List (List ℕ) → ℕ → ℕ → Option ℕ → Type 0
IsLeastFrom xss n v o = MatchOption o ((y : ℕ) → v ≤ y → IsInFirst xss n y → ⊥) (IsLeastOf xss n v)

-- the same by an answer, which is not Wrong
abbrev pub IsLeastAnswer : List (List ℕ) → ℕ → ℕ → Answer ℕ → Type 0
IsLeastAnswer xss n v = Right (λ x. IsLeastFrom xss n v (Some x)) (IsLeastFrom xss n v None)

-- the lesser of two numbers, the one where the other is missing, and None where both are
abbrev pub IsLesser : Option ℕ → Option ℕ → Option ℕ → Type 0
IsLesser None None o = o ≡ None
IsLesser None (Some y) o = o ≡ Some y
IsLesser (Some x) None o = o ≡ Some x
IsLesser (Some x) (Some y) o = ((x ≤ y) × (o ≡ Some x)) ⊎ ((y < x) × (o ≡ Some y))

-- the first n of ys rise, each is at least from and stands in some list, and each other such number of 64 bits is more
-- than all of them, or there is none where fewer were written than there was room for
pub record AreJoined (xss : List (List ℕ)) (from n room : ℕ) (ys : List ℕ) : Type 0 where
  pub most : n ≤ room
  pub rising : (j k : ℕ) → j < k → k < n → slice_index ys j < slice_index ys k
  pub from_there : (k : ℕ) → k < n → from ≤ slice_index ys k
  pub in_some : (k : ℕ) → k < n → IsInSome xss (slice_index ys k)
  pub all : (x : ℕ) → from ≤ x → x < 2 ^ 64 → IsInSome xss x
      → IsAmong ys n x ⊎ ((n ≡ room) × ((k : ℕ) → k < n → slice_index ys k < x))

-- the first n of ys are the numbers in the lists, old at the call, from one number up to another
pub record IsJoining (old : List (List ℕ)) (from n : ℕ) (ys : List ℕ) (now : List (List ℕ)) (low : ℕ) : Type 0 where
  pub order : from ≤ low
  pub keeps : KeepsFrom old now low
  pub rising : (j k : ℕ) → j < k → k < n → slice_index ys j < slice_index ys k
  pub from_there : (k : ℕ) → k < n → from ≤ slice_index ys k
  pub below : (k : ℕ) → k < n → slice_index ys k < low
  pub in_some : (k : ℕ) → k < n → IsInSome old (slice_index ys k)
  pub found : (x : ℕ) → from ≤ x → x < low → IsInSome old x → IsAmong ys n x

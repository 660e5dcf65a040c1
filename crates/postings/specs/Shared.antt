-- The numbers that several lists share.
use Rattle.std.specs.Prelude.{◌≡◌, ⊤, ℕ, ◌+◌, ◌^◌, ◌<◌, ◌≤◌, ◌⊎◌, List, [], length, slice_index, slice_index_or}
use Rattle.postings.specs.declared.sharing.Agreed.{Agreed}
use Rattle.postings.specs.declared.sharing.Agreed.TheVariants.{All, Next, Ended, Unknown}

-- x stands among the first n of xs
abbrev pub IsAmong : List ℕ → ℕ → ℕ → Type 0
IsAmong xs n x = (k : ℕ) × (k < n) × (slice_index xs k ≡ x)

-- x stands in xs
abbrev pub IsNumberIn : List ℕ → ℕ → Type 0
IsNumberIn xs x = IsAmong xs (length xs) x

-- list i of several
abbrev pub list_at : List (List ℕ) → ℕ → List ℕ
list_at xss i = slice_index_or xss i []

-- x stands in each list
abbrev pub IsInAll : List (List ℕ) → ℕ → Type 0
IsInAll xss x = (i : ℕ) → i < length xss → IsNumberIn (list_at xss i) x

-- the first n of ys rise, each is at least from and stands in each list, and each other such number of 64 digits is more
-- than all of them, or there is none where fewer were written than there was room for
pub record AreInAll (xss : List (List ℕ)) (from n room : ℕ) (ys : List ℕ) : Type 0 where
  pub most : n ≤ room
  pub rising : (j k : ℕ) → j < k → k < n → slice_index ys j < slice_index ys k
  pub from_there : (k : ℕ) → k < n → from ≤ slice_index ys k
  pub in_all : (k : ℕ) → k < n → IsInAll xss (slice_index ys k)
  pub all : (x : ℕ) → from ≤ x → x < 2 ^ 64 → IsInAll xss x
      → IsAmong ys n x ⊎ ((n ≡ room) × ((k : ℕ) → k < n → slice_index ys k < x))

-- no list was asked more than n times
abbrev pub AskedAtMost : List ℕ → List ℕ → ℕ → Type 0
AskedAtMost old new n = (i : ℕ) → slice_index new i ≤ slice_index old i + n

-- no list lost a number from v on, none has others than it had, and there are as many
pub record KeepsFrom (old new : List (List ℕ)) (v : ℕ) : Type 0 where
  pub count : length new ≡ length old
  pub back : (i x : ℕ) → IsNumberIn (list_at new i) x → IsNumberIn (list_at old i) x
  pub kept : (i x : ℕ) → v ≤ x → IsNumberIn (list_at old i) x → IsNumberIn (list_at new i) x

-- the lists after the first have v; or none of the numbers from v on up to x stands in all; or none from v on
abbrev pub IsAgreed : List (List ℕ) → ℕ → Agreed → Type 0
IsAgreed xss v All = (i : ℕ) → 1 ≤ i → i < length xss → IsNumberIn (list_at xss i) v
IsAgreed xss v (Next x) = (v < x) × ((y : ℕ) → v ≤ y → y < x → IsInAll xss y → ⊥)
IsAgreed xss v Ended = (y : ℕ) → v ≤ y → IsInAll xss y → ⊥
IsAgreed xss v Unknown = ⊥

-- P of the number that some list has next, if one has another
abbrev pub IfNext : Agreed → (ℕ → Type 0) → Type 0
IfNext All P = ⊤
IfNext (Next x) P = P x
IfNext Ended P = ⊤
IfNext Unknown P = ⊤

-- P, unless some list turned out wrong
abbrev pub UnlessUnknown : Agreed → Type 0 → Type 0
UnlessUnknown All P = P
UnlessUnknown (Next x) P = P
UnlessUnknown Ended P = P
UnlessUnknown Unknown P = ⊤

-- the lists after the first agreed on v or not, the first stays, and each other was asked at most once
pub record IsAsked (old : List (List ℕ)) (asked : List ℕ) (v : ℕ) (answer : Agreed) (new : List (List ℕ)) (calls : List ℕ) : Type 0 where
  pub agreed : IsAgreed old v answer
  pub keeps : KeepsFrom old new v
  pub at_most : AskedAtMost asked calls 1
  pub same : list_at new 0 ≡ list_at old 0
  pub first : slice_index calls 0 ≡ slice_index asked 0

-- those of the lists from the second on that were asked, up to list i, have v; the others were not asked yet
pub record IsAsking (old : List (List ℕ)) (asked : List ℕ) (v i : ℕ) (new : List (List ℕ)) (calls : List ℕ) : Type 0 where
  pub agreed : (j : ℕ) → 1 ≤ j → j < i → IsNumberIn (list_at old j) v
  pub keeps : KeepsFrom old new v
  pub at_most : AskedAtMost asked calls 1
  pub fresh : (j : ℕ) → i ≤ j → slice_index calls j ≡ slice_index asked j
  pub first : slice_index calls 0 ≡ slice_index asked 0
  pub same : list_at new 0 ≡ list_at old 0

-- the first n of ys are what the lists, old at the call, share from one number up to another
pub record IsMeeting (old : List (List ℕ)) (from n : ℕ) (ys : List ℕ) (now : List (List ℕ)) (low : ℕ) : Type 0 where
  pub order : from ≤ low
  pub keeps : KeepsFrom old now low
  pub rising : (j k : ℕ) → j < k → k < n → slice_index ys j < slice_index ys k
  pub from_there : (k : ℕ) → k < n → from ≤ slice_index ys k
  pub below : (k : ℕ) → k < n → slice_index ys k < low
  pub in_all : (k : ℕ) → k < n → IsInAll old (slice_index ys k)
  pub found : (x : ℕ) → from ≤ x → x < low → IsInAll old x → IsAmong ys n x

-- so they are, and each list was asked at most once for each number of the first that was passed, and once more
pub record IsSharing (old : List (List ℕ)) (asked : List ℕ) (from n : ℕ) (ys : List ℕ) (now : List (List ℕ)) (calls : List ℕ) (low : ℕ) : Type 0 where
  pub meeting : IsMeeting old from n ys now low
  pub rounds : ℕ
  pub at_most : AskedAtMost asked calls rounds
  pub passed : rounds + length (list_at now 0) ≤ length (list_at old 0) + 1
  pub tight : ((0 < length (list_at now 0)) × (slice_index (list_at now 0) 0 < low)) ⊎ (rounds + length (list_at now 0) ≤ length (list_at old 0))

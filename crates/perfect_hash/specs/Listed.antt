-- The numbers of a list of hashes over words, tables and sizes that may hold anything.
use Rattle.std.specs.Prelude.{◌≡◌, ◌≢◌, ℕ, ◌-◌, ◌^◌, ◌<◌, ◌≤◌, ◌⊎◌, List, length, slice_index, Option, Some, None}
use Rattle.bit_lists.specs.Count.{ones_before, ones_of}
use Rattle.bitm_select.specs.Answers.{list_code}
use Rattle.bitm_tables.specs.Tables.{bits_in, HasTables, Lists}
use Rattle.bitm_tables.specs.declared.answer.Answer.{Answer}
use Rattle.perfect_hash.specs.Levels.{fall_in, position_from}
use Rattle.perfect_hash.specs.Numbers.{number_in, AreSizes}
use Rattle.bitm_tables.specs.Answers.{IfAbsent}
use Rattle.perfect_hash.specs.Asking.{IsBelow, IsNumbered}
use Rattle.perfect_hash.specs.Placed.{FitIn}

-- the number of a hash, below the count, as a look-up of it alone answers it
pub record IsTotal (by : ℕ → ℕ → ℕ → ℕ → ℕ) (sizes : List ℕ) (count : ℕ) (lists : Lists) (hash : ℕ) (answer : Answer ℕ) : Type 0 where
  pub below : IsBelow count answer
  pub number : HasTables lists → AreSizes sizes (bits_in lists) → ones_of (bits_in lists) ≤ count
      → IsNumbered (number_in (fall_in by sizes) sizes (bits_in lists) hash) answer
  pub fit : IfAbsent answer (FitIn (length lists.words) sizes)
  pub none : IfAbsent answer (number_in (fall_in by sizes) sizes (bits_in lists) hash ≡ None)

-- n codes the number of a hash
pub record IsNumberClaimed (by : ℕ → ℕ → ℕ → ℕ → ℕ) (sizes : List ℕ) (count : ℕ) (lists : Lists) (hash n : ℕ) : Type 0 where
  pub answer : Answer ℕ
  pub claimed : n ≡ list_code answer
  pub is : IsTotal by sizes count lists hash answer

-- number k codes that of hash k
abbrev pub AreNumberCodes : (ℕ → ℕ → ℕ → ℕ → ℕ) → List ℕ → ℕ → Lists → List ℕ → List ℕ → Type 0
AreNumberCodes by sizes count lists hashes numbers =
    (k : ℕ) → k < length hashes → IsNumberClaimed by sizes count lists (slice_index hashes k) (slice_index numbers k)

-- the code of a position's rank
pub record IsCode (position rank count absent code : ℕ) : Type 0 where
  pub none : position ≡ 2 ^ 64 - 1 → code ≡ absent
  pub below : position ≢ 2 ^ 64 - 1 → rank < count → code ≡ rank
  pub wrong : position ≢ 2 ^ 64 - 1 → count ≤ rank → code ≡ 2 ^ 64 - 2

-- the code of the number of a hash by the position where it falls on a one
abbrev pub IsCodeAt : Option ℕ → ℕ → ℕ → Lists → ℕ → Type 0
IsCodeAt None count absent lists code = code ≡ absent
IsCodeAt (Some p) count absent lists code =
    ((code < count) ⊎ (code ≡ 2 ^ 64 - 2))
    × (HasTables lists → ones_of (bits_in lists) ≤ count → (code < count) × (code ≡ ones_before (bits_in lists) p))

-- number k codes that of hash k, where all levels are within the words
abbrev pub AreCoded : (ℕ → ℕ → ℕ → ℕ → ℕ) → List ℕ → ℕ → ℕ → Lists → List ℕ → List ℕ → Type 0
AreCoded by sizes count absent lists hashes numbers =
    (k : ℕ) → k < length hashes
    → IsCodeAt (position_from (fall_in by sizes (slice_index hashes k)) (bits_in lists) 0 0 sizes) count absent lists (slice_index numbers k)

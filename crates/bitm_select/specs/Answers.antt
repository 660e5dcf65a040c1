-- What calls over tables that may hold anything answer: over any tables, and over those of the words.
use Rattle.std.specs.Prelude.{◌≡◌, ◌↔◌, ⊤, ℕ, ◌+◌, ◌-◌, ◌*◌, ◌^◌, ◌<◌, ◌≤◌, Bool, List, Option, Some, None, length, slice_index}
use Rattle.bit_lists.specs.Bits.{bits_of, item}
use Rattle.bit_lists.specs.Count.{ones_before, count_before, count_of, Picks}
use Rattle.bitm_select.specs.Search.{sought_bits}
use Rattle.bitm_tables.specs.Tables.{HasTables, Lists, bits_in}
use Rattle.bitm_select.specs.Claims.{ClaimsNone}
use Rattle.bitm_tables.specs.Answers.{Right}
use Rattle.bitm_tables.specs.declared.answer.Answer.{Answer}
use Rattle.bitm_tables.specs.declared.answer.Answer.TheVariants.{Found, Absent, Wrong}

-- a position that is found is in the words, and its bit is v
abbrev pub HasBit : List Bool → Bool → Answer ℕ → Type 0
HasBit b v (Found p) = (p < length b) × (item b p ≡ v)
HasBit b v Absent = ⊤
HasBit b v Wrong = ⊤

-- a position that is found is from position i on and before position j
abbrev pub IsFoundFrom : ℕ → ℕ → Answer ℕ → Type 0
IsFoundFrom i j (Found p) = (i ≤ p) × (p < j)
IsFoundFrom i j Absent = ⊤
IsFoundFrom i j Wrong = ⊤

-- the position that is found, if one is
abbrev pub position_in : Answer ℕ → Option ℕ
position_in (Found p) = Some p
position_in Absent = None
position_in Wrong = None

-- its code in a list of answers
abbrev pub list_code : Answer ℕ → ℕ
list_code (Found p) = p
list_code Absent = 2 ^ 64 - 1
list_code Wrong = 2 ^ 64 - 2

-- the position of the bit v with r such bits before it, and Absent exactly where there are at most r of them
abbrev pub IsSelected : List Bool → Bool → ℕ → Answer ℕ → Type 0
IsSelected b v r = Right (λ p. Picks b v r p) (count_of b v ≤ r)

-- the position of the bit v with rank r, sought among the eight words from word k on, or those of them that exist;
-- Wrong where more words follow and at most r bits v come before these
abbrev pub IsSelectedFrom : List ℕ → Bool → ℕ → ℕ → Answer ℕ → Type 0
IsSelectedFrom words v k r (Found p) = Picks (bits_of words) v r p
IsSelectedFrom words v k r Absent = count_of (bits_of words) v ≤ r
IsSelectedFrom words v k r Wrong = (k + 8 < length words) × (ones_before (sought_bits v (bits_of words)) (64 * (k + 8)) ≤ r)

-- n codes the position of the bit v with r such bits before it. Whatever the tables hold, below 2^64 - 2 it is a
-- position with bit v, and it is 2^64 - 1 only where tables and words claim at most r such bits; where the tables are
-- right, it is the right position, or 2^64 - 1 where there is none
pub record IsSelectCode (v : Bool) (lists : Lists) (r n : ℕ) : Type 0 where
  pub bit : n < 2 ^ 64 - 2 → (n < length (bits_in lists)) × (item (bits_in lists) n ≡ v)
  pub absent : n ≡ 2 ^ 64 - 1 → ClaimsNone v lists r
  pub some : HasTables lists → r < count_of (bits_in lists) v → Picks (bits_in lists) v r n
  pub none : HasTables lists → count_of (bits_in lists) v ≤ r → n ≡ 2 ^ 64 - 1

-- n codes how many of the first i bits are v: it is 2^64 - 1 exactly where there are fewer bits, and below 2^64 - 2 at
-- most i, whatever the tables hold; where they are those of the words and there are i bits, it is the right number,
-- which is neither 2^64 - 1 nor 2^64 - 2
pub record IsRankCode (v : Bool) (lists : Lists) (i n : ℕ) : Type 0 where
  pub none : (n ≡ 2 ^ 64 - 1) ↔ (length (bits_in lists) < i)
  pub most : n < 2 ^ 64 - 2 → n ≤ i
  pub count : HasTables lists → i ≤ length (bits_in lists) → (n < 2 ^ 64 - 2) × (n ≡ count_before (bits_in lists) v i)

-- number k codes the rank of index k
abbrev pub AreRankCodes : Bool → Lists → List ℕ → List ℕ → Type 0
AreRankCodes v lists indices ranks = (k : ℕ) → k < length indices → IsRankCode v lists (slice_index indices k) (slice_index ranks k)

-- number k codes the position with rank k
abbrev pub AreSelectCodes : Bool → Lists → List ℕ → List ℕ → Type 0
AreSelectCodes v lists ranks positions = (k : ℕ) → k < length ranks → IsSelectCode v lists (slice_index ranks k) (slice_index positions k)

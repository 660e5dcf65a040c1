-- Counting in a list of bits, and what a rank picks there.
use Rattle.std.specs.Prelude.{◌≡◌, ℕ, ◌+◌, ◌<◌, ◌≤◌, Bool, true, false, not, if◌then◌else◌, List, [], ◌∷◌, length, take, count_by, Option, MatchOption, zero, suc}
use Rattle.bit_lists.specs.Bits.{item}

-- how many of the first i items of b are true; past the end, of all
unfoldable pub ones_before : List Bool → ℕ → ℕ
ones_before b i = count_by (λ x. x) (take i b)

-- how many of the first i items of b are false; past the end, of all
unfoldable pub zeros_before : List Bool → ℕ → ℕ
zeros_before b i = count_by not (take i b)

-- how many of the first i items of b are v
abbrev pub count_before : List Bool → Bool → ℕ → ℕ
count_before b true i = ones_before b i
count_before b false i = zeros_before b i

-- how many items of b are true
abbrev pub ones_of : List Bool → ℕ
ones_of b = ones_before b (length b)

-- how many items of b are false
abbrev pub zeros_of : List Bool → ℕ
zeros_of b = zeros_before b (length b)

-- how many items of b are v
abbrev pub count_of : List Bool → Bool → ℕ
count_of b v = count_before b v (length b)

-- p is a position of b, item p is v, and exactly r of the items before p are v
pub record Picks (b : List Bool) (v : Bool) (r p : ℕ) : Type 0 where
  pub inside : p < length b
  pub item : item b p ≡ v
  pub before : count_before b v p ≡ r

-- the position with bit v and r such bits before it, and None exactly where there are no more than r of them
abbrev pub IsSelect : List Bool → Bool → ℕ → Option ℕ → Type 0
IsSelect b v r o = MatchOption o (count_of b v ≤ r) (Picks b v r)

-- how many of the first i items are 1 bits, and None exactly where there are fewer items
abbrev pub IsRank : List Bool → ℕ → Option ℕ → Type 0
IsRank b i o = MatchOption o (length b < i) (λ n. (i ≤ length b) × (n ≡ ones_before b i))

-- how many of the first i items are 0 bits, and None exactly where there are fewer items
abbrev pub IsRank0 : List Bool → ℕ → Option ℕ → Type 0
IsRank0 b i o = MatchOption o (length b < i) (λ n. (i ≤ length b) × (n ≡ zeros_before b i))

-- whether x is v
abbrev pub is_same : Bool → Bool → Bool
is_same true x = x
is_same false x = not x

-- the positions of the items that are v, rising, where the first item's position is k
abbrev pub bit_positions : Bool → ℕ → List Bool → List ℕ
bit_positions v k [] = []
bit_positions v k (x ∷ b) = if is_same v x then k ∷ bit_positions v (k + 1) b else bit_positions v (k + 1) b

-- the bit that a number stands for: zero for 0, one for each other
abbrev pub as_bit : ℕ → Bool
as_bit zero = false
as_bit (suc n) = true

-- p is the least position from s on whose item is v
pub record IsFirstFrom (b : List Bool) (v : Bool) (s p : ℕ) : Type 0 where
  pub from : s ≤ p
  pub inside : p < length b
  pub is : item b p ≡ v
  pub least : (i : ℕ) → s ≤ i → i < p → item b i ≡ not v

-- p is the least position from s on whose item is true
abbrev pub IsFirstOneFrom : List Bool → ℕ → ℕ → Type 0
IsFirstOneFrom b s p = IsFirstFrom b true s p

-- p is the position of the first true item, or the length where no item is true
pub record IsFirstOneOrEnd (b : List Bool) (p : ℕ) : Type 0 where
  pub within : p ≤ length b
  pub zeros : (i : ℕ) → i < p → item b i ≡ false
  pub one : p < length b → item b p ≡ true

-- some item from position s on is true
abbrev pub HasOneFrom : List Bool → ℕ → Type 0
HasOneFrom b s = (p : ℕ) × (s ≤ p) × (item b p ≡ true)

-- some item up to position s is true
abbrev pub HasOneTo : List Bool → ℕ → Type 0
HasOneTo b s = (p : ℕ) × (p ≤ s) × (item b p ≡ true)

-- the least position from s on whose item is true, and None exactly where all items from there on are false
abbrev pub MatchesFirstOne : List Bool → ℕ → Option ℕ → Type 0
MatchesFirstOne b s o = MatchOption o ((p : ℕ) → s ≤ p → item b p ≡ false) (IsFirstOneFrom b s)

-- the least position from s on whose item is false, and None exactly where all items from there on are true
abbrev pub MatchesFirstZero : List Bool → ℕ → Option ℕ → Type 0
MatchesFirstZero b s o = MatchOption o ((p : ℕ) → s ≤ p → p < length b → item b p ≡ true) (IsFirstFrom b false s)

-- p is the greatest position up to s whose item is v
pub record IsLastTo (b : List Bool) (v : Bool) (s p : ℕ) : Type 0 where
  pub to : p ≤ s
  pub inside : p < length b
  pub is : item b p ≡ v
  pub greatest : (i : ℕ) → p < i → i ≤ s → item b i ≡ not v

-- p is the greatest position up to s whose item is true
abbrev pub IsLastOneTo : List Bool → ℕ → ℕ → Type 0
IsLastOneTo b s p = IsLastTo b true s p

-- the greatest position up to s whose item is v, and None exactly where no item up to there is v
abbrev pub MatchesLast : List Bool → Bool → ℕ → Option ℕ → Type 0
MatchesLast b v s o = MatchOption o ((p : ℕ) → p ≤ s → item b p ≡ not v) (IsLastTo b v s)

-- the position from s on with bit v and k such bits between s and it, and None exactly where there is none
abbrev pub IsSelectFrom : List Bool → Bool → ℕ → ℕ → Option ℕ → Type 0
IsSelectFrom b v s k o =
    MatchOption o (count_of b v ≤ count_before b v s + k) (λ p. (s ≤ p) × Picks b v (count_before b v s + k) p)

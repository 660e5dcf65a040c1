-- What one bit vector has where another has 1 bits.
use Rattle.std.specs.Prelude.{◌≡◌, ℕ, ◌<◌, ◌≤◌, Bool, true, false, List}
use Rattle.bit_lists.specs.Bits.{item}

-- from position s on and before n, b has v wherever a has a 1 bit
abbrev pub HasWhere : List Bool → List Bool → Bool → ℕ → ℕ → Type 0
HasWhere a b v s n = (i : ℕ) → s ≤ i → i < n → item a i ≡ true → item b i ≡ v

-- among the first n items, a has no 1 bit that b does not have, or none that b has
abbrev pub IsSubset : List Bool → List Bool → ℕ → Type 0
IsSubset a b n = HasWhere a b true 0 n

abbrev pub AreDisjoint : List Bool → List Bool → ℕ → Type 0
AreDisjoint a b n = HasWhere a b false 0 n

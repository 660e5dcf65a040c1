-- What says that words hold a tree: each zero before the last has more ones before it than zeros.
use Rattle.std.specs.Prelude.{◌≡◌, ℕ, ◌+◌, ◌*◌, ◌%◌, ◌^◌, ◌<◌, Bool, false, List, count_ones}
use Rattle.std.specs.Int.{bit_at}
use Rattle.bit_lists.specs.Bits.{item}
use Rattle.bit_lists.specs.Count.{ones_before}

-- each zero before position m has more ones before it than zeros
abbrev pub OnesLead : List Bool → ℕ → Type 0
OnesLead b m = (p : ℕ) → p < m → item b p ≡ false → p < 2 * ones_before b p

-- where `lead` more ones than zeros stand before the m lowest digits of v, each zero among these has more ones before it
-- than zeros
abbrev pub KeepsLead : ℕ → ℕ → ℕ → Type 0
KeepsLead v m lead = (j : ℕ) → j < m → bit_at v j ≡ 0 → j < lead + 2 * count_ones (v % 2 ^ j)

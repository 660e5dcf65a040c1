-- How dense samples are: the logarithm of how many items one sample stands for.
use Rattle.std.specs.Prelude.{ℕ, ◌-◌, ◌*◌, ◌/◌, min, max, if◌then◌else◌, nat_le, nat_lt, nat_eq}
use Rattle.bit_lists.specs.Bits.{digit_count}

-- the greatest k with 2 ^ k at most n, for a positive n
abbrev pub log2 : ℕ → ℕ
log2 n = digit_count n - 1

-- the logarithm for n items that are no more than half of the bits
abbrev pub optimal_log_of_rare : ℕ → ℕ → ℕ → ℕ
optimal_log_of_rare n len most = if nat_eq n 0 then 7 else max 7 (most - log2 (len / n))

-- the logarithm for n items among len bits: the greatest one from three quarters on, and else the one for the rarer
-- kind
abbrev pub optimal_log : ℕ → ℕ → ℕ → ℕ
optimal_log n len most =
    if nat_le (3 * len) (4 * n) then most else optimal_log_of_rare (if nat_lt len (2 * n) then len - n else n) len most

-- a logarithm brought to the nearer end of 7 to 31
abbrev pub clamped_log : ℕ → ℕ
clamped_log n = min 31 (max 7 n)

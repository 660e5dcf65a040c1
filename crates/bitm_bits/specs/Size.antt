-- Numbers of bytes as a `usize` holds them.
use Rattle.std.specs.Prelude.{ℕ, ◌-◌, ◌^◌, min}

-- n, or the greatest `usize` where that is less
abbrev pub saturated_size : ℕ → ℕ
saturated_size n = min n (2 ^ 64 - 1)

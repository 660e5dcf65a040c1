-- Low digits of the next items that were read at once, several items' by one read.
use Rattle.std.specs.Prelude.{◌≡◌, ℕ, ◌+◌, ◌-◌, ◌*◌, ◌≤◌, List, length}
use Rattle.bit_lists.specs.Bits.{bits_of}
use Rattle.bit_lists.specs.Number.{number_at}

-- the digits are those of fragments of l bits from fragment i on, with all of those before fragment until, which is at
-- most end
pub record IsAhead (low : List ℕ) (l i end until digits : ℕ) : Type 0 where
  pub len : ℕ
  pub order : i ≤ until
  pub within : until ≤ end
  pub enough : (until - i) * l ≤ len
  pub inside : i * l + len ≤ 64 * length low
  pub is : digits ≡ number_at (bits_of low) (i * l) len

-- so they are where the digits of most items are read at once, 64 bits or fewer; most is 0 where each item's are read
-- alone
pub record ReadsAhead (low : List ℕ) (l most i end until digits : ℕ) : Type 0 where
  pub fit : most * l ≤ 64
  pub some : 1 ≤ most → 1 ≤ l
  pub ahead : 1 ≤ most → IsAhead low l i end until digits

-- The low bits of items as they are read, and how many items share their high bits.
use Rattle.std.specs.Prelude.{◌≡◌, ℕ, ◌==◌, ◌+◌, ◌*◌, ◌/◌, ◌^◌, ◌<◌, ◌≤◌, List, length, count_by}
use Rattle.bit_lists.specs.Bits.{bits_of}
use Rattle.bit_lists.specs.Number.{number_at}

-- the words of the low bits, how many bits each item has there, and how many fragments were read so far
pub record Lows : Type 0 where
  pub words : List ℕ
  pub width : ℕ
  pub read : ℕ

-- words of which nothing was read
abbrev pub unread : List ℕ → ℕ → Lows
unread words width = record { words = words; width = width; read = 0 }

-- the low bits of item i
abbrev pub fragment : Lows → ℕ → ℕ
fragment low i = number_at (bits_of low.words) (i * low.width) low.width

-- the item with the given high bits and the low bits of item i
abbrev pub joined_item : ℕ → Lows → ℕ → ℕ
joined_item above low i = above * 2 ^ low.width + fragment low i

-- there are n fragments, whatever they hold
pub record HasFragments (low : Lows) (n : ℕ) : Type 0 where
  pub width : low.width ≤ 63
  pub short : n < 2 ^ 56
  pub inside : n * low.width ≤ 64 * length low.words

-- at most the given number of fragments were read between old and new, and the low bits are the same
pub record ReadsFragments (old new : Lows) (fragments : ℕ) : Type 0 where
  pub at_most : new.read ≤ old.read + fragments
  pub words : new.words ≡ old.words
  pub width : new.width ≡ old.width

-- how many items share the high bits of v, above l low bits
abbrev pub sharing : List ℕ → ℕ → ℕ → ℕ
sharing xs l v = count_by (λ x. x / 2 ^ l == v / 2 ^ l) xs

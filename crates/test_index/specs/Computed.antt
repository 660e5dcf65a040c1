-- Words whose lowest bit alone is one, and their tables.
use Rattle.std.specs.Prelude.{ℕ, List, replicate}
use Rattle.bitm.specs.Bits.{bits_of}
use Rattle.bitm.specs.Tables.{Lists, lower_of, upper_of}

-- n words that are 1
unfoldable pub words_of : ℕ → List ℕ
words_of n = replicate n 1

-- these, with their tables
abbrev pub lists_of : ℕ → Lists
lists_of n = record { words = words_of n; upper = upper_of (bits_of (words_of n)); lower = lower_of (bits_of (words_of n)) }

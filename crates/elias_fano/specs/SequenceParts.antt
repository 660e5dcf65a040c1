-- The borrowed parts of a sequence, which may hold anything.
use Rattle.std.specs.Prelude.{◌≡◌, ℕ, ◌*◌, ◌^◌, ◌<◌, ◌≤◌, List, [], length}
use Rattle.std.specs.Int.{div_ceil}
use Rattle.bitm_selection.specs.Hints.{hints_len, Lead}
use Rattle.bitm_tables.specs.Tables.{HasTables, Lists}
use Rattle.elias_fano.specs.Low.{Lows}
use Rattle.elias_fano.specs.Parts.{ArePartsOf}

-- the number of items, the number of low bits of each, the words of the low bits, the words of the high bits with their
-- tables, and the hints of these words, of which there may be none
pub record SequenceParts : Type 0 where
  pub len : ℕ
  pub width : ℕ
  pub low : List ℕ
  pub upper : Lists
  pub hints : List ℕ

-- parts of the first four, without hints
abbrev pub parts_of : ℕ → ℕ → List ℕ → Lists → SequenceParts
parts_of n l low upper = record { len = n; width = l; low = low; upper = upper; hints = [] }

-- parts of n items with the given low bits, without hints
abbrev pub parts_with : ℕ → Lows → Lists → SequenceParts
parts_with n low upper = parts_of n low.width low.words upper

-- the same parts with hints
abbrev pub with_hints : List ℕ → SequenceParts → SequenceParts
with_hints hints parts = record parts { hints = hints }

-- few enough items, at most 63 low bits of each, as many words as the low bits take, and hints none, or as many as those
-- of the words of the high bits, which have a 1 bit for each item
pub record HaveLengths (n l : ℕ) (digits words all : List ℕ) : Type 0 where
  pub short : n < 2 ^ 56
  pub width : l ≤ 63
  pub low : length digits ≡ div_ceil (n * l) 64
  pub hints : 0 < length all → length all ≡ hints_len n (length words)

-- the parts have these lengths
abbrev pub HasLengths : SequenceParts → Type 0
HasLengths parts = HaveLengths parts.len parts.width parts.low parts.upper.words parts.hints

-- the five parts are those of the sequence xs, with the tables of the words of its high bits and hints that lead in these
pub record AreHeldParts (xs : List ℕ) (len width : ℕ) (low : List ℕ) (upper : Lists) (hints : List ℕ) : Type 0 where
  pub are : ArePartsOf xs len width low upper.words
  pub tables : HasTables upper
  pub lead : Lead len hints upper.words

-- the parts are those of the sequence xs
abbrev pub Holds : List ℕ → SequenceParts → Type 0
Holds xs parts = AreHeldParts xs parts.len parts.width parts.low parts.upper parts.hints

-- the parts are those of some sequence
abbrev pub AreParts : SequenceParts → Type 0
AreParts parts = (xs : List ℕ) × Holds xs parts

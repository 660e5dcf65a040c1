-- The lines of a text that have one of some patterns.
use Rattle.std.specs.Prelude.{◌≡◌, ℕ, ◌+◌, ◌<◌, ◌≤◌, ◌==◌, nat_lt, true, All, Contains, List, length, map, take, count_by}
use Rattle.std.specs.List.Sorted.{IsStrictlyIncreasing}
use Rattle.text_index.specs.Text.{stands_at}
use denote.Ref.{Bor}

-- the bytes of patterns
abbrev pub bytes_in : List (Bor (List ℕ)) → List (List ℕ)
bytes_in patterns = map (λ pattern. pattern.now) patterns

-- one of the patterns stands at a position of the text, of which its end is one
pub record SomeStandsAt (patterns : List (List ℕ)) (text : List ℕ) (position : ℕ) : Type 0 where
  pub pattern : List ℕ
  pub one : Contains patterns pattern
  pub inside : position ≤ length text
  pub stands : stands_at text pattern position ≡ true

-- these are all positions at which one of the patterns stands, some maybe more than once
pub record AreFoundOf (patterns : List (List ℕ)) (text found : List ℕ) : Type 0 where
  pub each : All (SomeStandsAt patterns text) found
  pub all : (position : ℕ) → SomeStandsAt patterns text position → Contains found position

-- these are all positions at which one of the patterns stands, each once and in their order
pub record AreAllPositions (patterns : List (List ℕ)) (text all_positions : List ℕ) : Type 0 where
  pub each : All (SomeStandsAt patterns text) all_positions
  pub all : (position : ℕ) → SomeStandsAt patterns text position → Contains all_positions position
  pub rising : IsStrictlyIncreasing all_positions

-- the number of the line that a position of the text is in, the first being 1: one more than the line feeds before it
abbrev pub line_at : List ℕ → ℕ → ℕ
line_at text position = count_by (λ letter. letter == 10) (take position text) + 1

-- the line has one of the patterns: it stands at a position of that line, which is one of a byte of the text
pub record HasPattern (patterns : List (List ℕ)) (text : List ℕ) (line : ℕ) : Type 0 where
  pub position : ℕ
  pub inside : position < length text
  pub stands : SomeStandsAt patterns text position
  pub line_is : line ≡ line_at text position

-- these are the numbers of the lines that have one of the patterns, each once and in their order
pub record LinesWith (patterns : List (List ℕ)) (text lines : List ℕ) : Type 0 where
  pub each : All (HasPattern patterns text) lines
  pub all : (line : ℕ) → HasPattern patterns text line → Contains lines line
  pub rising : IsStrictlyIncreasing lines

-- the number of the line that a position is in, where the lines end at these positions
abbrev pub line_among : List ℕ → ℕ → ℕ
line_among ends position = count_by (λ end. nat_lt end position) ends + 1

-- one of the positions below len is in the line
pub record HasPosition (all_positions ends : List ℕ) (len line : ℕ) : Type 0 where
  pub position : ℕ
  pub inside : position < len
  pub one : Contains all_positions position
  pub line_is : line ≡ line_among ends position

-- these are the numbers of the lines in which the positions below len are, each once and in their order
pub record AreLinesOf (all_positions ends : List ℕ) (len : ℕ) (lines : List ℕ) : Type 0 where
  pub each : All (HasPosition all_positions ends len) lines
  pub all : (line : ℕ) → HasPosition all_positions ends len line → Contains lines line
  pub rising : IsStrictlyIncreasing lines

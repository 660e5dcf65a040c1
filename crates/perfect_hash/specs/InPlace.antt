-- Levels that were built in borrowed memory.
use Rattle.std.specs.Prelude.{◌≡◌, ℕ, ◌-◌, ◌<◌, ◌≤◌, ◌⊎◌, List, min, take}
use Rattle.perfect_hash.specs.Positions.{words_for}
use Rattle.perfect_hash.specs.declared.levels.in_place.Made.{Made}

-- the sizes of the levels
abbrev pub made_sizes : Made → List ℕ → List ℕ
made_sizes made sizes = take made.levels sizes

-- their words
abbrev pub made_words : Made → List ℕ → List ℕ
made_words made words = take made.words words

-- how many of n hashes are left, and why no more levels were made: none is left, there are as many levels as may be, or
-- the next one has no room
pub record IsMade (percent words again sizes n : ℕ) (made : Made) : Type 0 where
  pub inside : made.words ≤ words
  pub levels : made.levels ≤ min sizes 256
  pub few : made.left ≤ n
  pub ended : (made.left ≡ 0) ⊎ (made.levels ≡ min sizes 256) ⊎ (min again (words - made.words) < words_for percent made.left)

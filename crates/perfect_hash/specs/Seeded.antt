-- Levels with a seed for each word, in borrowed memory.
use Rattle.std.specs.Prelude.{◌≡◌, ℕ, List, drop, length, take}
use Rattle.perfect_hash.specs.Positions.{Seeds}

-- these seeds, of which so many were tried for each word
abbrev pub seeds_with : List ℕ → ℕ → Seeds
seeds_with seeds tries = record { seeds = seeds; tries = tries }

-- among the seeds of all words, these stand from the given word on
abbrev pub StandFrom : List ℕ → ℕ → List ℕ → Type 0
StandFrom all first seeds = take (length seeds) (drop first all) ≡ seeds

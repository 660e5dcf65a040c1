-- Which seed is chosen for a word: the first by which most of its hashes stand alone.
use Rattle.std.specs.Prelude.{ℕ, ◌+◌, ◌-◌, ◌<◌, ◌≤◌, ◌≡◌, ◌==◌, List, ◌∷◌, min, count_by, drop, filter, length, map, nat_lt, slice_index, take}
use Rattle.std.specs.List.{range_with_len}
use Rattle.perfect_hash.specs.Positions.{bit_by, spread, word_of, Seeds}

-- how many spread numbers fall on bit p of a word by a seed
abbrev pub falls_on : ℕ → List ℕ → ℕ → ℕ
falls_on seed group p = count_by (λ x. bit_by seed x == p) group

-- how many bits exactly one of them falls on
unfoldable pub alone : List ℕ → ℕ → ℕ
alone group seed = count_by (λ p. falls_on seed group p == 1) (range_with_len 0 64)

-- the first of the given number of seeds by which most of them fall on a bit alone
pub record IsBest (group : List ℕ) (tries seed : ℕ) : Type 0 where
  pub inside : 0 < tries → seed < tries
  pub most : (other : ℕ) → other < tries → alone group other ≤ alone group seed
  pub first : (other : ℕ) → other < seed → alone group other < alone group seed

-- the spread numbers of the hashes that fall in a word, in the order of the hashes
abbrev pub group_of : ℕ → ℕ → List ℕ → ℕ → List ℕ
group_of level words hashes word =
    map (λ hash. spread hash level) (filter (λ hash. word_of level words hash == word) hashes)

-- how many of the hashes fall in a word
abbrev pub count_in_word : ℕ → ℕ → List ℕ → ℕ → ℕ
count_in_word level words hashes word = count_by (λ hash. word_of level words hash == word) hashes

-- how many of the hashes fall in the words before one: where its hashes begin, once they stand word after word
abbrev pub count_to : ℕ → ℕ → List ℕ → ℕ → ℕ
count_to level words hashes word = count_by (λ hash. nat_lt (word_of level words hash) word) hashes

-- the hashes of each of the given number of words follow one another
abbrev pub AreGrouped : ℕ → ℕ → List ℕ → List ℕ → Type 0
AreGrouped level words hashes sorted =
    (word k : ℕ) → word < words → k < count_in_word level words hashes word
    → slice_index sorted (count_to level words hashes word + k) ≡ slice_index (group_of level words hashes word) k

-- of a list the items before one end and from the end before that one on
abbrev pub stretch_to : List ℕ → List ℕ → ℕ → List ℕ
stretch_to ends sorted word =
    let begin = slice_index (0 ∷ ends) word in
    take (slice_index ends word - begin) (drop begin sorted)

-- each word has the seed that is best for its hashes
abbrev pub AreBestSeeds : ℕ → List ℕ → ℕ → List ℕ → Type 0
AreBestSeeds level hashes tries seeds =
    (word : ℕ) → word < length seeds → IsBest (group_of level (length seeds) hashes word) tries (slice_index seeds word)

-- the words of a level that is added after the given number of words have the seeds that are best for their hashes
pub record HasBest (old new : Seeds) (begin : ℕ) (hashes : List ℕ) (level words : ℕ) : Type 0 where
  pub tries : new.tries ≡ old.tries
  pub len : length new.seeds ≡ begin + words
  pub best : AreBestSeeds level hashes (min old.tries 256) (drop begin new.seeds)

-- The checksums of words: the one of version 4 of the format, and the one of version 3.
use Rattle.std.specs.Prelude.{◌≢◌, ℕ, ◌*◌, ◌/◌, ◌%◌, ◌^◌, ◌<◌, ◌==◌, if◌then◌else◌, bit_xor, All, List, [], ◌∷◌, ◌++◌, length}

-- the upper half is folded down upon the lower one
abbrev pub folded : ℕ → ℕ
folded x = bit_xor x (x / 2 ^ 32)

-- a checksum with one more word
unfoldable pub mixed : ℕ → ℕ → ℕ
mixed sum word = folded (bit_xor sum word * 0x9e37_79b9_7f4a_7c15 % 2 ^ 64)

-- a checksum with words, one after another: a chain
unfoldable pub checksum_from : ℕ → List ℕ → ℕ
checksum_from sum [] = sum
checksum_from sum (word ∷ words) = checksum_from (mixed sum word) words

-- four chains, joined to one checksum
abbrev pub four_joined : ℕ → ℕ → ℕ → ℕ → ℕ
four_joined a b c d = mixed (mixed (mixed a b) c) d

-- four chains with words: of each four words every chain takes one, and what is left over goes to the first chain
unfoldable pub chains_from : ℕ → ℕ → ℕ → ℕ → List ℕ → ℕ
chains_from a b c d (p ∷ q ∷ r ∷ s ∷ words) = chains_from (mixed a p) (mixed b q) (mixed c r) (mixed d s) words
chains_from a b c d words = four_joined (checksum_from a words) b c d

-- the checksum of words: the first chain starts with their number
abbrev pub checksum_of : List ℕ → ℕ
checksum_of words = chains_from (length words) 1 2 3 words

-- the checksum of version 3: one chain, which starts with the number of words
abbrev pub chain_of : List ℕ → ℕ
chain_of words = checksum_from (length words) words

-- the checksum of words in blocks of a version
abbrev pub checksum_in : ℕ → List ℕ → ℕ
checksum_in version words = if version == 3 then chain_of words else checksum_of words

-- two lists of words that differ in exactly one word have different checksums
abbrev pub SeesOneWord : (List ℕ → ℕ) → Type 0
SeesOneWord sum =
    (front back : List ℕ) (x y : ℕ) → All (λ w. w < 2 ^ 64) back → length (front ++ x ∷ back) < 2 ^ 64
    → x < 2 ^ 64 → y < 2 ^ 64 → x ≢ y
    → sum (front ++ x ∷ back) ≢ sum (front ++ y ∷ back)

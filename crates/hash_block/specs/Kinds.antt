-- The kinds of blocks of strings, and how the strings of each are hashed.
use Rattle.std.specs.Prelude.{◌≡◌, ℕ, zero, suc, ◌*◌, ◌%◌, ◌^◌, ◌⊎◌, bit_xor, if◌then◌else◌, ◌==◌}
use Rattle.hash_block.specs.SipHash.{hash_of}

-- the kinds of blocks of strings: 12, and 10, which nothing writes
abbrev pub IsStringKind : ℕ → Type 0
IsStringKind kind = (kind ≡ 12) ⊎ (kind ≡ 10)

-- a hash with one more byte, by FNV-1a of 64 bits
unfoldable pub mixed : ℕ → ℕ → ℕ
mixed hash byte = bit_xor hash byte * 0x100_0000_01b3 % 2 ^ 64

-- the hash of the first n bytes of a string in blocks of kind 10: FNV-1a, where the seed is 0
unfoldable pub fnv_of : ℕ → (ℕ → ℕ) → ℕ → ℕ
fnv_of seed string zero = bit_xor 0xcbf2_9ce4_8422_2325 seed
fnv_of seed string (suc n) = mixed (fnv_of seed string n) (string n)

-- the hash of a string in a block of a kind: SipHash-1-3, and FNV-1a in blocks of kind 10
abbrev pub hash_by : ℕ → ℕ → (ℕ → ℕ) → ℕ → ℕ
hash_by kind seed string n = if kind == 10 then fnv_of seed string n else hash_of seed string n

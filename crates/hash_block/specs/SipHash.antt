-- SipHash-1-3: Aumasson and Bernstein, 'SipHash: a fast short-input PRF' (INDOCRYPT 2012).
use Rattle.std.specs.Prelude.{ℕ, zero, suc, ◌+◌, ◌*◌, ◌/◌, ◌%◌, ◌^◌, bit_xor}
use Rattle.std.specs.Int.{w64, rotate_left}
use Rattle.hash_block.specs.declared.strings.sip.Sip.{Sip}

-- a sum modulo 2^64
abbrev pub plus : ℕ → ℕ → ℕ
plus x y = (x + y) % 2 ^ 64

-- the state that a key begins with
abbrev pub keyed : ℕ → ℕ → Sip
keyed k0 k1 = record {
  v0 = bit_xor k0 0x736f_6d65_7073_6575;
  v1 = bit_xor k1 0x646f_7261_6e64_6f6d;
  v2 = bit_xor k0 0x6c79_6765_6e65_7261;
  v3 = bit_xor k1 0x7465_6462_7974_6573;
}

-- SipRound
unfoldable pub round : Sip → Sip
round s =
    let a0 = plus s.v0 s.v1 in
    let a2 = plus s.v2 s.v3 in
    let a1 = bit_xor (rotate_left w64 s.v1 13) a0 in
    let a3 = bit_xor (rotate_left w64 s.v3 16) a2 in
    let b0 = plus (rotate_left w64 a0 32) a3 in
    let b2 = plus a2 a1 in
    record {
      v0 = b0;
      v1 = bit_xor (rotate_left w64 a1 17) b2;
      v2 = rotate_left w64 b2 32;
      v3 = bit_xor (rotate_left w64 a3 21) b0;
    }

-- one more word: one round
unfoldable pub with_word : Sip → ℕ → Sip
with_word s word =
    let t = round (record { v0 = s.v0; v1 = s.v1; v2 = s.v2; v3 = bit_xor s.v3 word }) in
    record { v0 = bit_xor t.v0 word; v1 = t.v1; v2 = t.v2; v3 = t.v3 }

-- the hash of a state: three rounds
unfoldable pub finished : Sip → ℕ
finished s =
    let t = round (round (round (record { v0 = s.v0; v1 = s.v1; v2 = bit_xor s.v2 0xff; v3 = s.v3 }))) in
    bit_xor (bit_xor (bit_xor t.v0 t.v1) t.v2) t.v3

-- n bytes of a string from `at` on as a number, the lowest first
unfoldable pub number_from : (ℕ → ℕ) → ℕ → ℕ → ℕ
number_from string at zero = 0
number_from string at (suc n) = number_from string at n + string (at + n) * 256 ^ n

-- the state after the first n words of a string
unfoldable pub after_words : Sip → (ℕ → ℕ) → ℕ → Sip
after_words s string zero = s
after_words s string (suc n) = with_word (after_words s string n) (number_from string (8 * n) 8)

-- the last word: the bytes that are left, and in the highest byte how many the string has, modulo 256
abbrev pub last_word : (ℕ → ℕ) → ℕ → ℕ
last_word string len = number_from string (8 * (len / 8)) (len % 8) + len % 256 * 2 ^ 56

-- the hash of the first `len` bytes of a string, by the key of two numbers
unfoldable pub keyed_hash : ℕ → ℕ → (ℕ → ℕ) → ℕ → ℕ
keyed_hash k0 k1 string len = finished (with_word (after_words (keyed k0 k1) string (len / 8)) (last_word string len))

-- the hash of the first `len` bytes of a string, by a seed: by the key (seed, 0)
unfoldable pub hash_of : ℕ → (ℕ → ℕ) → ℕ → ℕ
hash_of seed string len = keyed_hash seed 0 string len

-- The fingerprint of a key, by its hash.
use Rattle.std.specs.Prelude.{ℕ, ◌/◌, ◌^◌, bit_xor}
use Rattle.perfect_hash.specs.Positions.{folded_by}

-- the hash, mixed by the last steps of MurmurHash3
unfoldable pub print_of_hash : ℕ → ℕ
print_of_hash hash =
    let x = folded_by 33 0xc4ceb9fe1a85ec53 (folded_by 33 0xff51afd7ed558ccd hash) in
    bit_xor x (x / 2 ^ 33)

-- Items of a list of bits read as a number, and replaced by one.
use Rattle.std.specs.Prelude.{◌≡◌, ℕ, ◌+◌, ◌*◌, ◌^◌, ◌<◌, ◌≤◌, ◌⊎◌, Bool, false, if◌then◌else◌, List, [], ◌∷◌, ◌++◌, length, take, drop}
use Rattle.bit_lists.specs.Bits.{item, low_digits}

-- a list of truths read as a binary number, lowest first
unfoldable pub number_of_bits : List Bool → ℕ
number_of_bits [] = 0
number_of_bits (x ∷ xs) = (if x then 1 else 0) + 2 * number_of_bits xs

-- the len items of b from begin on, as a number
unfoldable pub number_at : List Bool → ℕ → ℕ → ℕ
number_at b begin len = number_of_bits (take len (drop begin b))

-- b with the len items from begin on replaced by the len lowest digits of v
unfoldable pub with_number : List Bool → ℕ → ℕ → ℕ → List Bool
with_number b begin len v = take begin b ++ low_digits len v ++ drop (begin + len) b

-- b with that number where taken, else b
abbrev pub with_number_if : Bool → List Bool → ℕ → ℕ → ℕ → List Bool
with_number_if taken b begin len v = if taken then with_number b begin len v else b

-- b with fragments i and j of this width in each other's position
abbrev pub with_swapped : List Bool → ℕ → ℕ → ℕ → List Bool
with_swapped b i j width =
    with_number (with_number b (i * width) width (number_at b (j * width) width)) (j * width) width (number_at b (i * width) width)

-- the len items of b from begin on are all false, or already the number v
abbrev pub IsClearOrAlready : List Bool → ℕ → ℕ → ℕ → Type 0
IsClearOrAlready b begin len v = (number_at b begin len ≡ 0) ⊎ (number_at b begin len ≡ v)

-- item i of b is false, or already v
abbrev pub IsFalseOrAlready : List Bool → ℕ → Bool → Type 0
IsFalseOrAlready b i v = (item b i ≡ false) ⊎ (item b i ≡ v)

-- there is a bit at begin, and there are len bits from there on
abbrev pub IsInRange : List ℕ → ℕ → ℕ → Type 0
IsInRange words begin len = (begin < 64 * length words) × (begin + len ≤ 64 * length words)

-- fragment k of this width begins at a position that a `usize` names, and is in range
abbrev pub IsFragmentInRange : List ℕ → ℕ → ℕ → Type 0
IsFragmentInRange words k width = (k * width < 2 ^ 64) × IsInRange words (k * width) width

-- What a write makes of a value that lends words: the name of the borrow and the words, before it and after it.
use Rattle.std.specs.Prelude.{◌≡◌, ℕ, Bool, List, length}
use Rattle.bit_lists.specs.Bits.{bits_of}
use Rattle.bit_lists.specs.Number.{with_number, with_number_if}
use Rattle.bit_lists.specs.Window.{with_flips}

-- the same slice is borrowed, and it has as many words
abbrev pub LendsSame : {A : Type 0} → (A → ℕ) → (A → List ℕ) → A → A → Type 0
LendsSame lender words old new = (lender new ≡ lender old) × (length (words new) ≡ length (words old))

-- the len bits from begin on are the number v, and all others are as they were
abbrev pub Replaces : {A : Type 0} → (A → List ℕ) → A → A → ℕ → ℕ → ℕ → Type 0
Replaces words old new begin len v = bits_of (words new) ≡ with_number (bits_of (words old)) begin len v

-- where taken, the len bits from begin on are the number v; all others, or all, are as they were
abbrev pub ReplacesIf : {A : Type 0} → Bool → (A → List ℕ) → A → A → ℕ → ℕ → ℕ → Type 0
ReplacesIf taken words old new begin len v =
    bits_of (words new) ≡ with_number_if taken (bits_of (words old)) begin len v

-- each bit from begin on that is reached by len bits and at whose position v has a one is negated, and all others are as
-- they were
abbrev pub Negates : {A : Type 0} → (A → List ℕ) → A → A → ℕ → ℕ → ℕ → Type 0
Negates words old new begin len v = bits_of (words new) ≡ with_flips (bits_of (words old)) begin len v

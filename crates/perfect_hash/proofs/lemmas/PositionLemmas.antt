-- How many words levels have.
use Rattle.std.proofs.Common.{◌≡◌, ℕ, ◌+◌, ◌*◌, ◌^◌, ◌<◌, ◌≤◌, ap, ◌∙◌, arith, zero, suc, refl}
use Rattle.std.proofs.lemmas.Nat.{mul-le}
use Rattle.std.specs.Prelude.{max}
use Rattle.perfect_hash.specs.Positions.{words_for}

-- a level for fewer keys has no more words
pub words_for-le : (percent m n : ℕ) → m ≤ n → words_for percent m ≤ words_for percent n
words_for-le percent m n less = omega (arith, mul-le m (max percent 50) n (max percent 50) less (omega arith))

-- one more level of fewer than 2^50 words
pub next_short : (percent n m len size level words new : ℕ) → words_for percent n < 2 ^ 50 → m ≤ n → len ≡ m
    → size ≡ words_for percent len → words ≤ level * 1125899906842623 → new ≡ words + size
    → new ≤ (level + 1) * 1125899906842623
next_short percent n m len size level words new room less is size_is short new_is =
    omega (arith, room, words_for-le percent m n less, size_is ∙ ap (words_for percent) is, short, new_is)

-- what is not 0 is more
pub positive : (n : ℕ) → (n ≡ 0 → ⊥) → 0 < n
positive zero some = absurd (some refl)
positive (suc n) some = omega arith

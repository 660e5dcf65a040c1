-- Where positions end, and bits of which those at positions are made 1.
use Rattle.std.proofs.Common.{◌≡◌, ℕ, ◌+◌, ◌<◌, ◌≤◌, max, List, Bool, true, length, get_or, take, replicate, ◌∙◌, arith}
use Rattle.std.specs.List.{All}
use Rattle.std.proofs.lemmas.List.Elements.{All-contains, All-more, Contains-get_or}
use Rattle.bit_lists.specs.Bits.{bits_of}
use Rattle.bit_lists.proofs.lemmas.BesideLemmas.{item-zeros}
use Rattle.bit_words.specs.Listed.{IsSetAt}
use Rattle.program_files.specs.Bits.{HasOnesAt}

-- of the first i numbers all are less than n, and n is at most what is more than all numbers
pub record EndSoFar (xs : List ℕ) (i n : ℕ) : Type 0 where
  pub below : All (λ x. x < n) (take i xs)
  pub least : (m : ℕ) → All (λ x. x < m) xs → n ≤ m

below_more : (xs : List ℕ) (m n : ℕ) → m ≤ n → All (λ x. x < m) xs → All (λ x. x < n) xs
below_more xs m n h all = λ k d inside. let one = all k d inside in omega (arith, one)

pub end_more : (xs : List ℕ) (i n new : ℕ) → i < length xs → new ≡ max n (get_or xs i 0 + 1) → EndSoFar xs i n → EndSoFar xs (i + 1) new
end_more xs i n new inside is h = record {
  below = All-more (λ x. x < new) xs i 0 inside (below_more (take i xs) n new (omega arith) h.below) (omega arith);
  least = λ m all. let one = All-contains (λ x. x < m) xs (get_or xs i 0) all (Contains-get_or xs i 0 inside) in omega (arith, one, h.least m all);
}

pub ones_set : (xs : List ℕ) (n count : ℕ) (new : List Bool) → All (λ x. x < n) xs → IsSetAt (bits_of (replicate count 0)) n true xs new → HasOnesAt xs new
ones_set xs n count new all set = record {
  ones = λ p h. set.listed p (All-contains (λ x. x < n) xs p all h) h;
  others = λ p h. set.unchanged p (λ k. absurd (h k)) ∙ item-zeros count p;
}

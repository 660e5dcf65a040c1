-- How the first part is cut off, and the first line.
use Rattle.std.proofs.Common.{◌≡◌, ◌∙◌, ℕ, ◌+◌, ◌-◌, ◌<◌, ◌≤◌, ◌==◌, Bool, true, false, cond, nat_lt, List, [], ◌∷◌, length, take, drop, None, Some, ap, refl, subst, sym, arith}
use Rattle.std.specs.List.{join_with_byte, position, position_or_len, slice_split, onto_first}
use Rattle.std.specs.Str.Lines.{lines, lines_of_parts, strip_carriage_return}
use Rattle.program_base.specs.Text.{only_part, split_at}
use Rattle.std.proofs.lemmas.Bool.{ne_eqb}
use Rattle.std.proofs.lemmas.List.{take_rest}
use Rattle.std.proofs.lemmas.List.Sums.{count_by-le-length, fails_before_first}
use Rattle.std.proofs.lemmas.List.Splits.{join_with_byte-slice_split, length-slice_split, slice_split_first, slice_split_none}
use Rattle.std.proofs.lemmas.Bool.Decides.{nat_tests}

-- a position is the first position, and none means that no element passes
position_some : (first n at : ℕ) → cond (nat_lt first n) (Some first) None ≡ Some at → (first ≡ at) × (first < n)
position_some first n at h = grind (arith, nat_tests)

position_none : (first n : ℕ) → cond (nat_lt first n) (Some first) None ≡ None → (k : ℕ) → k < n → k < first
position_none first n h k below = grind (arith, nat_tests)

pub first_of_many : {X : Type 0} (p : X → Bool) (xs : List X) (d : X) (at : ℕ) → position p xs ≡ Some at
    → slice_split p xs ≡ take at xs ∷ slice_split p (take (length xs - (at + 1)) (drop (at + 1) xs))
first_of_many p xs d at h =
    let found = position_some (position_or_len p xs) (length xs) at h in
    rw (take_rest xs (at + 1)) (subst (λ n. slice_split p xs ≡ take n xs ∷ slice_split p (drop (n + 1) xs)) found.0 (slice_split_first p xs d found.1))

pub first_alone : {X : Type 0} (p : X → Bool) (xs : List X) → position p xs ≡ None → slice_split p xs ≡ xs ∷ []
first_alone p xs h = slice_split_none p xs (λ k d below. fails_before_first p xs k d (position_none (position_or_len p xs) (length xs) h k below))

-- where a separator follows, there are two parts or more
only_onto : (part : List ℕ) (x : ℕ) (parts : List (List ℕ)) → only_part (part ∷ onto_first x parts) ≡ None
only_onto part x [] = refl
only_onto part x (next ∷ parts) = refl

pub only_of_many : (p : ℕ → Bool) (part text : List ℕ) → only_part (part ∷ slice_split p text) ≡ None
only_of_many p part [] = refl
only_of_many p part (x ∷ xs) =
    elim (p x) as (λ b. only_part (part ∷ cond b ([] ∷ slice_split p xs) (onto_first x (slice_split p xs))) ≡ None)
    [ true ↦ refl | false ↦ only_onto part x (slice_split p xs) ]

onto : (x : List ℕ) (parts : List (List ℕ)) → 0 < length parts → lines_of_parts (x ∷ parts) ≡ strip_carriage_return x ∷ lines_of_parts parts
onto x [] some = absurd (omega arith)
onto x (y ∷ more) some = refl

-- a line before a line feed
pub line-more : (text part rest : List ℕ) → split_at 10 text ≡ part ∷ split_at 10 rest → lines text ≡ strip_carriage_return part ∷ lines rest
line-more text part rest is =
    ap lines_of_parts is ∙ onto part (split_at 10 rest) (omega (arith, length-slice_split (λ b. b == 10) rest))

-- a last line that ends without one
pub line-last : (text part : List ℕ) → 0 < length text → split_at 10 text ≡ part ∷ [] → lines text ≡ text ∷ []
line-last text part some is =
    let same : part ≡ text = ap (join_with_byte 10) (sym is) ∙ join_with_byte-slice_split 10 text in
    ap lines_of_parts is ∙ ap (λ p. lines_of_parts (p ∷ [])) same
    ∙ ap (λ t. cond t [] (text ∷ [])) (ne_eqb (length text) 0 (λ z. omega arith))

-- lines are no more than the parts between line feeds, and so at most one more than the bytes
parts-few : (parts : List (List ℕ)) → length (lines_of_parts parts) ≤ length parts
parts-few [] = omega arith
parts-few (x ∷ []) = elim (length x == 0) as (λ b. length (cond b [] (x ∷ [])) ≤ 1) [ true ↦ omega arith | false ↦ omega arith ]
parts-few (x ∷ y ∷ more) = omega (arith, parts-few (y ∷ more))

pub lines-few : (text : List ℕ) → length (lines text) ≤ length text + 1
lines-few text =
    omega (arith, parts-few (split_at 10 text), length-slice_split (λ b. b == 10) text, count_by-le-length (λ b. b == 10) text)

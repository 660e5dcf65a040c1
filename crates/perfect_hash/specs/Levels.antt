-- Keys that fall on bits, level by level. A key is seen by where it falls: `fall key level words` is its bit of a level
-- of the given number of words.
use Rattle.std.specs.Prelude.{◌≡◌, ℕ, ◌+◌, ◌*◌, ◌<◌, ◌≤◌, ◌==◌, Bool, not, if◌then◌else◌, List, [], ◌∷◌, ◌++◌, All, Contains, length, filter, count_by, Option, Some, None, sum, take, drop}
use Rattle.bit_lists.specs.Bits.{bits_of, item}

-- how many keys fall on bit p of a level of the given number of words
abbrev pub hits : {K : Type 0} → (K → ℕ → ℕ → ℕ) → List K → ℕ → ℕ → ℕ → ℕ
hits fall keys level words p = count_by (λ k. fall k level words == p) keys

-- from bit `begin` on, b has a one exactly where one key falls
abbrev pub IsLevel : {K : Type 0} → (K → ℕ → ℕ → ℕ) → List K → List Bool → ℕ → ℕ → ℕ → Type 0
IsLevel fall keys b level begin words =
    (p : ℕ) → p < 64 * words → item b (begin + p) ≡ (hits fall keys level words p == 1)

-- the keys that fall on no one there
abbrev pub left_of : {K : Type 0} → (K → ℕ → ℕ → ℕ) → List K → List Bool → ℕ → ℕ → ℕ → List K
left_of fall keys b level begin words = filter (λ k. not (item b (begin + fall k level words))) keys

-- of the keys, these are left after levels of these sizes, which begin at bit `begin`
abbrev pub LeadTo : {K : Type 0} → (K → ℕ → ℕ → ℕ) → List K → List Bool → ℕ → ℕ → List ℕ → List K → Type 0
LeadTo fall keys b level begin [] left = keys ≡ left
LeadTo fall keys b level begin (words ∷ sizes) left =
    (0 < words) × IsLevel fall keys b level begin words
    × LeadTo fall (left_of fall keys b level begin words) b (level + 1) (begin + 64 * words) sizes left

-- the position of the one that a key falls on, in the first of the levels where it falls on one; `fall` is of that key
abbrev pub position_from : (ℕ → ℕ → ℕ) → List Bool → ℕ → ℕ → List ℕ → Option ℕ
position_from fall b level begin [] = None
position_from fall b level begin (words ∷ sizes) =
    let position = begin + fall level words in
    if item b position then Some position else position_from fall b (level + 1) (begin + 64 * words) sizes

-- each of these levels has as many words as are taken for the number of keys that are left before it
abbrev pub AreSized : {K : Type 0} → (ℕ → ℕ) → (K → ℕ → ℕ → ℕ) → List K → List Bool → ℕ → ℕ → List ℕ → Type 0
AreSized taken fall keys b level begin [] = Unit {0}
AreSized taken fall keys b level begin (words ∷ sizes) =
    (words ≡ taken (length keys))
    × AreSized taken fall (left_of fall keys b level begin words) b (level + 1) (begin + 64 * words) sizes

-- levels of these sizes are chosen one after another, each for the hashes that are left before it, by which p becomes
-- q; the first begins at word `first`, which is bit `begin`
abbrev pub AreChosen : {P : Type 0} → (P → P → ℕ → List ℕ → ℕ → ℕ → Type 0) → (ℕ → ℕ → ℕ → ℕ) → List ℕ → List Bool → ℕ → ℕ → ℕ → List ℕ → P → P → Type 0
AreChosen chooses fall hashes b level first begin [] p q = p ≡ q
AreChosen {P} chooses fall hashes b level first begin (words ∷ sizes) p q =
    (r : P) × chooses p r first hashes level words
    × AreChosen chooses fall (left_of fall hashes b level begin words) b (level + 1) (first + words) (begin + 64 * words) sizes r q

-- at how many levels a key is looked for: up to the first where it falls on a one, or at all
abbrev pub looked : (ℕ → ℕ → ℕ) → List Bool → ℕ → ℕ → List ℕ → ℕ
looked fall b level begin [] = 0
looked fall b level begin (words ∷ sizes) =
    if item b (begin + fall level words) then 1 else 1 + looked fall b (level + 1) (begin + 64 * words) sizes

-- a count is at least another, and exceeds it by at most the given number
pub record ExceedsBy (more low count : ℕ) : Type 0 where
  pub least : low ≤ count
  pub most : count ≤ low + more

-- the fall of hashes at levels of these sizes, where a level falls by the words before it, `by begin hash level words`
abbrev pub fall_in : (ℕ → ℕ → ℕ → ℕ → ℕ) → List ℕ → ℕ → ℕ → ℕ → ℕ
fall_in by sizes hash level words = by (sum (take level sizes)) hash level words

-- levels before number `level` have `begin` words, and a look-up that goes on there finds what the whole one does
pub record GoesOn (fall : ℕ → ℕ → ℕ) (b : List Bool) (sizes : List ℕ) (level begin : ℕ) : Type 0 where
  pub begins : begin ≡ sum (take level sizes)
  pub found : position_from fall b level (64 * begin) (drop level sizes) ≡ position_from fall b 0 0 sizes

-- a level is added for the keys, after those of these sizes and words
pub record AddsLevel {K : Type 0} (fall : K → ℕ → ℕ → ℕ) (keys : List K) (sizes words new_sizes new_words : List ℕ) (left : List K) : Type 0 where
  pub size : ℕ
  pub some : 0 < size
  pub sizes_are : new_sizes ≡ sizes ++ size ∷ []
  pub len : length new_words ≡ length words + size
  pub kept : (i : ℕ) → i < 64 * length words → item (bits_of new_words) i ≡ item (bits_of words) i
  pub level : IsLevel fall keys (bits_of new_words) (length sizes) (64 * length words) size
  pub left_are : left ≡ left_of fall keys (bits_of new_words) (length sizes) (64 * length words) size

-- these levels leave these keys
pub record Leave {K : Type 0} (fall : K → ℕ → ℕ → ℕ) (keys : List K) (sizes words : List ℕ) (left : List K) : Type 0 where
  pub lead : LeadTo fall keys (bits_of words) 0 0 sizes left
  pub some : All (λ size. 0 < size) sizes
  pub all : sum sizes ≡ length words

-- at each level of these sizes, another of the keys falls where key k does
abbrev pub FallsTogether : {K : Type 0} → (K → ℕ → ℕ → ℕ) → List K → ℕ → List ℕ → K → Type 0
FallsTogether fall keys level [] k = Unit {0}
FallsTogether fall keys level (words ∷ sizes) k =
    (2 ≤ hits fall keys level words (fall k level words)) × FallsTogether fall keys (level + 1) sizes k

-- after 256 levels of some sizes the given number of keys are left, each of which fell together with another one at
-- each
pub record Collide {K : Type 0} (fall : K → ℕ → ℕ → ℕ) (keys : List K) (count : ℕ) : Type 0 where
  pub sizes : List ℕ
  pub words : List ℕ
  pub left : List K
  pub levels : length sizes ≡ 256
  pub leave : Leave fall keys sizes words left
  pub counted : length left ≡ count
  pub some : 0 < count
  pub together : (k : K) → Contains left k → Contains keys k × FallsTogether fall keys 0 sizes k

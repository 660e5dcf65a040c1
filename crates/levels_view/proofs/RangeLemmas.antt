-- A range one level on: how many of its items have each bit, and where these stand.
use Rattle.std.proofs.Common.{◌≡◌, ℕ, ◌+◌, ◌-◌, ◌*◌, ◌/◌, ◌^◌, ◌<◌, ◌≤◌, ◌⊎◌, inl, inr, nat_le, Bool, true, false, if◌then◌else◌, List, length, take, count_by, refl, ap, ◌∙◌, arith, ⊎_elim}
use Rattle.std.proofs.lemmas.Bool.{cases_lt, le-leb, lt-leb}
use Rattle.bit_lists.specs.Bits.{digit}
use Rattle.matrix_levels.specs.Levels.{has_digit, has_lesser_prefix, level, partition_position}
use Rattle.matrix_levels.specs.Matrix.{digit_position, IsMatrixOf, LevelTables}
use Rattle.matrix_levels.proofs.lemmas.PartLemmas.{moved-both, moved-grows, moved-le, moved-one}
use Rattle.matrix_levels.proofs.lemmas.PrefixLemmas.{with_digit, IsPrefixRange}
use Rattle.matrix_levels.proofs.lemmas.RangeLemmas.{less-number-one, less-number-zero}
use Rattle.levels_view.proofs.StepLemmas.{level-len}
use mir.Val.{bool_byte}

-- those of the bit v, of the two kinds
pub of-digit : (P : Bool → ℕ) (v : Bool) (o z size : ℕ) → size ≡ (if v then o else z) → o ≡ P true → z ≡ P false → size ≡ P v
of-digit P true o z size is one none = is ∙ one
of-digit P false o z size is one none = is ∙ none

-- those of the bit v, and those less than it, are no more than all
pub parts-within : (v : Bool) (o z size less all : ℕ) → size ≡ (if v then o else z) → less ≡ (if v then z else 0) → o + z ≡ all → less + size ≤ all
parts-within true o z size less all is lesser sum = omega arith
parts-within false o z size less all is lesser sum = omega arith

-- the positions of a range of level d
module _ (xs : List ℕ) (l : LevelTables) (b : List Bool) (h : IsMatrixOf xs l b) (d f e : ℕ) (order : f ≤ e) (inside : e ≤ l.len) where
  row-inside : e ≤ length (level xs l.width d)
  row-inside = omega (arith, inside, level-len xs l b h d)

  -- the range's items of both bits
  pub parts-are : (partition_position (digit_position l d) true (level xs l.width d) e - partition_position (digit_position l d) true (level xs l.width d) f)
      + (partition_position (digit_position l d) false (level xs l.width d) e - partition_position (digit_position l d) false (level xs l.width d) f)
      ≡ e - f
  parts-are = moved-both (digit_position l d) (level xs l.width d) f e order row-inside

  -- the 1 bits before its end are those before its start and its own
  pub ones-more : (before through : ℕ) → before ≡ count_by (has_digit (digit_position l d) true) (take f (level xs l.width d))
      → through ≡ count_by (has_digit (digit_position l d) true) (take e (level xs l.width d))
      → before + (partition_position (digit_position l d) true (level xs l.width d) e - partition_position (digit_position l d) true (level xs l.width d) f) ≡ through
  ones-more before through first last =
      let k = digit_position l d in
      let row = level xs l.width d in
      omega (
        arith,
        moved-one k true row f _ before refl refl first,
        moved-one k true row e _ through refl refl last,
        moved-grows k true row f e order,
      )

  -- its items of a bit stand side by side at the next level
  pub next-range : (v : Bool) (next size : ℕ) → next ≡ partition_position (digit_position l d) v (level xs l.width d) f
      → size ≡ partition_position (digit_position l d) v (level xs l.width d) e - partition_position (digit_position l d) v (level xs l.width d) f
      → (next + size ≡ partition_position (digit_position l d) v (level xs l.width d) e) × (next + size ≤ l.len)
  next-range v next size start count =
      let k = digit_position l d in
      let row = level xs l.width d in
      let last : next + size ≡ partition_position k v row e = omega (arith, start, count, moved-grows k v row f e order) in
      (last, omega (arith, last, moved-le k v row e, level-len xs l b h d))

-- the count of those less than a number, one level on
pub less-more : (xs : List ℕ) (w d x : ℕ) (ys : List ℕ) (f l : ℕ) → d < w → IsPrefixRange xs w d (x / 2 ^ (w - d)) ys f l → (v : Bool) → v ≡ digit x (w - 1 - d)
    → (z less count : ℕ) → z ≡ partition_position (w - 1 - d) false (level xs w d) l - partition_position (w - 1 - d) false (level xs w d) f
    → less ≡ (if v then z else 0) → count ≡ count_by (has_lesser_prefix (w - d) (x / 2 ^ (w - d))) ys
    → count + less ≡ count_by (has_lesser_prefix (w - (d + 1)) (x / 2 ^ (w - (d + 1)))) ys
less-more xs w d x ys f l before n true dig z less count zs lesser cs =
    omega (arith, lesser, less-number-one xs w d x ys f l before n true dig refl z count zs cs)
less-more xs w d x ys f l before n false dig z less count zs lesser cs =
    omega (arith, lesser, less-number-zero xs w d x ys f l before n false dig refl count cs)

-- a number with one bit more
pub digit-added : (n : ℕ) (v : Bool) → 2 * n + bool_byte v ≡ with_digit n v
digit-added n true = refl
digit-added n false = refl

-- those of the bit 0 are passed where they are no more than are left to pass
pub passed-is : (z left passed : ℕ) → passed ≡ (if nat_le z left then z else 0)
    → ((nat_le z left ≡ true) × (z ≤ left) × (left - passed ≡ left - z)) ⊎ ((nat_le z left ≡ false) × (left < z) × (left - passed ≡ left))
passed-is z left passed is =
    ⊎_elim
    (λ few. let less : left < z = omega (arith, few) in
    let no = lt-leb z left less in
    let none : passed ≡ 0 = is ∙ ap (λ (b : Bool). if b then z else 0) no in
    inr (no, less, omega (arith, none)))
    (λ more. let least : z ≤ left = omega (arith, more) in
    let yes = le-leb z left least in
    let all : passed ≡ z = is ∙ ap (λ (b : Bool). if b then z else 0) yes in
    inl (yes, least, omega (arith, all)))
    (cases_lt left z)

-- what is left to pass is passed within those that remain
pub left-within : (o z left size passed : ℕ) → size ≡ (if nat_le z left then o else z) → passed ≡ (if nat_le z left then z else 0)
    → left < o + z → (left - passed < size) × (passed ≤ left)
left-within o z left size passed is passes some =
    ⊎_elim
    (λ w. let all : size ≡ o = is ∙ ap (λ (b : Bool). if b then o else z) w.0 in
    let past : passed ≡ z = passes ∙ ap (λ (b : Bool). if b then z else 0) w.0 in
    (omega (arith, all, past, some, w.1), omega (arith, past, w.1)))
    (λ w. let all : size ≡ z = is ∙ ap (λ (b : Bool). if b then o else z) w.0 in
    let past : passed ≡ 0 = passes ∙ ap (λ (b : Bool). if b then z else 0) w.0 in
    (omega (arith, all, past, w.1), omega (arith, past)))
    (passed-is z left passed passes)

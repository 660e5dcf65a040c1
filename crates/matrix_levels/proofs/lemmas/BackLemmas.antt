-- From a position of the next level back to the position that an item came from.
use Rattle.std.proofs.Common.{◌≡◌, ℕ, ◌+◌, ◌-◌, ◌*◌, ◌^◌, ◌<◌, ◌≤◌, Bool, true, false, List, length, take, get_or, count_by, refl, sym, ap, ◌∙◌, subst, arith, add-one}
use Rattle.std.proofs.lemmas.Bool.{not_from_false}
use Rattle.bit_lists.specs.Bits.{digit, item}
use Rattle.bit_lists.specs.Count.{count_before, ones_before, zeros_before, Picks}
use Rattle.bit_lists.proofs.BitLaws.{counts_grow, ones_and_zeros, picked_between}
use Rattle.matrix_levels.specs.Levels.{has_digit, partition, partition_position, level}
use Rattle.matrix_levels.specs.Matrix.{IsLevelBitOf, IsMatrixOf, LevelTables, digit_position}
use Rattle.matrix_levels.specs.Numbers.{PicksItem}
use Rattle.matrix_levels.proofs.lemmas.ColumnLemmas.{length-level}
use Rattle.matrix_levels.proofs.lemmas.MatrixLemmas.{ones-to-start, position-inside, digit-is, count-level, count-whole, start-fits}
use Rattle.matrix_levels.proofs.lemmas.PartLemmas.{both-digits, PicksItem-back, among-zeros, after-zeros, length-partition, moved-one}

-- the next level is this one partitioned
pub level-next : (xs : List ℕ) (w d : ℕ) → level xs w (d + 1) ≡ partition (w - 1 - d) (level xs w d)
unfolding level
level-next xs w d = ap (level xs w) (add-one d)

-- a number has its own digit
pub has-own : (b : ℕ) (v : Bool) (x : ℕ) → digit x b ≡ v → has_digit b v x ≡ true
has-own b true x e = e
has-own b false x e = not_from_false _ e

-- the item x stands at position p of the level after level d, with k equal to it before; its digit is v
module _ (xs : List ℕ) (l : LevelTables) (b : List Bool) (h : IsMatrixOf xs l b)
    (d x k p : ℕ) (less : d < l.width) (picked : PicksItem (level xs l.width (d + 1)) x k p)
    (v : Bool) (is : digit x (digit_position l d) ≡ v) where
  here : PicksItem (partition (digit_position l d) (level xs l.width d)) x k p
  here = let P : List ℕ → Type 0 = λ m. PicksItem m x k p in subst P (level-next xs l.width d) picked

  inside : p < length (level xs l.width d)
  inside = omega (arith, here.inside, length-partition (digit_position l d) (level xs l.width d))

  digit-here : digit (get_or (partition (digit_position l d) (level xs l.width d)) p 0) (digit_position l d) ≡ v
  digit-here = ap (λ y. digit y (digit_position l d)) here.item ∙ is

  len-level : length (level xs l.width d) ≡ l.len
  len-level = omega (arith, length-level xs l.width d, h.count)

  -- where it is the j-th of its level with this digit
  module _ (j : ℕ) (few : j < count_by (has_digit (digit_position l d) v) (level xs l.width d))
      (goes : (t : ℕ) → t < l.len → j ≡ count_by (has_digit (digit_position l d) v) (take t (level xs l.width d))
      → partition_position (digit_position l d) v (level xs l.width d) t ≡ p) where
    whole : count_before b v (d * l.len + l.len) ≡ count_before b v (d * l.len) + count_by (has_digit (digit_position l d) v) (level xs l.width d)
    whole = count-whole xs l.width l.len b h.count h.room h.levels v d less

    in-level : (q : ℕ) → Picks b v (count_before b v (d * l.len) + j) q → (d * l.len ≤ q) × (q < d * l.len + l.len)
    in-level q bit = picked_between b v (d * l.len) (d * l.len + l.len) _ q (omega arith) (omega (arith, few, whole)) bit

    item-back : (q : ℕ) → Picks b v (count_before b v (d * l.len) + j) q → PicksItem (level xs l.width d) x k (q - d * l.len)
    item-back q bit =
        let t = q - d * l.len in
        let bounds = in-level q bit in
        let small : t < l.len = omega (arith, bounds.0, bounds.1) in
        let at : d * l.len + t ≡ q = omega (arith, bounds.0) in
        let dig : digit (get_or (level xs l.width d) t 0) (digit_position l d) ≡ v =
        sym (digit-is xs l b h d t less small) ∙ ap (item b) at ∙ bit.item in
        let counted : j ≡ count_by (has_digit (digit_position l d) v) (take t (level xs l.width d)) =
        omega (
          arith,
          count-level xs l.width l.len b h.count h.room h.levels v d t less (omega arith),
          ap (count_before b v) at,
          bit.before,
        ) in
        PicksItem-back (digit_position l d) v (level xs l.width d) x k p t here (has-own (digit_position l d) v x is) (omega (arith, len-level)) dig
        (goes t small counted)

    by-rank : (r : ℕ) → count_before b v (d * l.len) + j ≡ r → IsLevelBitOf xs l b d x k v r
    by-rank r e =
        let P : ℕ → Type 0 = λ n. IsLevelBitOf xs l b d x k v n in
        subst P e (record {
          some = omega (arith, few, whole, counts_grow b v (d * l.len + l.len) (length b) (position-inside xs l b h d l.len less (omega arith)));
          start = λ q bit. (in-level q bit).0;
          picked = item-back;
        })

-- the bit of an item whose digit is 1, and the bit of one whose digit is 0
module _ (xs : List ℕ) (l : LevelTables) (b : List Bool) (h : IsMatrixOf xs l b)
    (d x k p : ℕ) (less : d < l.width) (picked : PicksItem (level xs l.width (d + 1)) x k p) where
  ones-here : get_or l.ones d 0 ≡ count_before b true (d * l.len)
  ones-here = h.ones_are d less

  both : ones_before b (d * l.len) + zeros_before b (d * l.len) ≡ d * l.len
  both = ones_and_zeros b (d * l.len) (omega (arith, position-inside xs l b h d 0 less (omega arith)))

  pub ones-le-start : get_or l.ones d 0 ≤ d * l.len
  ones-le-start = ones-to-start xs l b h d less

  pub zeros-le-position : digit x (digit_position l d) ≡ true → get_or l.zeros d 0 ≤ p
  zeros-le-position one =
      omega (
        arith,
        h.zeros_are d less,
        after-zeros (digit_position l d) (level xs l.width d) p (inside xs l b h d x k p less picked true one)
            (digit-here xs l b h d x k p less picked true one),
      )

  pub from-one : digit x (digit_position l d) ≡ true → (r : ℕ) → r ≡ get_or l.ones d 0 + (p - get_or l.zeros d 0) → IsLevelBitOf xs l b d x k true r
  from-one one r rank =
      let zeros = h.zeros_are d less in
      let past = zeros-le-position one in
      by-rank xs l b h d x k p less picked true one (p - get_or l.zeros d 0)
      (omega (arith, zeros, past, inside xs l b h d x k p less picked true one, both-digits (digit_position l d) (level xs l.width d)))
      (λ t small counted. sym (moved-one (digit_position l d) true (level xs l.width d) t (get_or l.zeros d 0) (p - get_or l.zeros d 0) refl zeros counted)
      ∙ omega (arith, past))
      r (omega (arith, ones-here, rank))

  pub from-zero : digit x (digit_position l d) ≡ false → (r : ℕ) → r ≡ d * l.len - get_or l.ones d 0 + p → IsLevelBitOf xs l b d x k false r
  unfolding partition_position
  from-zero zero r rank =
      by-rank xs l b h d x k p less picked false zero p
      (among-zeros (digit_position l d) (level xs l.width d) p (inside xs l b h d x k p less picked false zero)
      (digit-here xs l b h d x k p less picked false zero))
      (λ t small counted. sym counted)
      r (omega (arith, both, ones-here, rank))

  -- and the ranks fit
  pub ranks-fit : d * l.len + p < 2 ^ 63
  ranks-fit =
      omega (
        arith,
        picked.inside,
        length-level xs l.width (d + 1),
        h.count,
        start-fits xs l b h d p less (omega (arith, picked.inside, length-level xs l.width (d + 1), h.count)),
      )

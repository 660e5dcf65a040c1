-- The digits of a level as bits, and where they stand among the bits of all levels.
use Rattle.std.proofs.Common.{◌≡◌, ℕ, zero, suc, ◌+◌, ◌-◌, ◌*◌, ◌<◌, Bool, false, cond, List, [], ◌∷◌, length, take, drop, map, get_or, count_by, refl, sym, ap, ◌∙◌, arith}
use Rattle.std.proofs.lemmas.List.{take-map, take-take, take_at, drop_at, drop-take, length-map, length-append, get_or-map}
use Rattle.std.proofs.lemmas.List.Sums.{sum_by-cons}
use Rattle.bit_lists.specs.Bits.{digit, item}
use Rattle.bit_lists.specs.Count.{count_before, is_same}
use Rattle.bit_lists.proofs.BitLaws.{count_is_of_same}
use Rattle.matrix_levels.specs.Levels.{has_digit, column, level, columns}
use Rattle.matrix_levels.proofs.lemmas.PartLemmas.{length-partition}

-- a test after a map
count-map : (q : Bool → Bool) (f : ℕ → Bool) (xs : List ℕ) → count_by q (map f xs) ≡ count_by (λ x. q (f x)) xs
count-map q f [] = refl
count-map q f (x ∷ xs) =
    sum_by-cons (λ y. cond (q y) 1 0) (f x) (map f xs)
    ∙ ap (λ n. cond (q (f x)) 1 0 + n) (count-map q f xs)
    ∙ sym (sum_by-cons (λ y. cond (q (f y)) 1 0) x xs)

module _ (b : ℕ) (xs : List ℕ) where
  pub length-column : length (column b xs) ≡ length xs
  unfolding column
  length-column = length-map xs (λ x. digit x b)

  pub count-column : (v : Bool) (p : ℕ) → count_before (column b xs) v p ≡ count_by (has_digit b v) (take p xs)
  unfolding column
  count-column v p =
      count_is_of_same (map (λ x. digit x b) xs) v p
      ∙ ap (count_by (is_same v)) (take-map (λ x. digit x b) p xs)
      ∙ count-map (is_same v) (λ x. digit x b) (take p xs)

  pub item-column : (p : ℕ) → p < length xs → item (column b xs) p ≡ digit (get_or xs p 0) b
  unfolding column
  item-column p h = get_or-map (λ x. digit x b) xs p 0 false h

-- a level has all items
pub length-level : (xs : List ℕ) (w d : ℕ) → length (level xs w d) ≡ length xs
unfolding level
length-level xs w zero = refl
length-level xs w (suc d) = length-partition (w - 1 - d) (level xs w d) ∙ length-level xs w d

length-columns : (xs : List ℕ) (w d : ℕ) → length (columns xs w d) ≡ d * length xs
unfolding columns
length-columns xs w zero = omega arith
length-columns xs w (suc d) =
    omega (
      arith,
      length-append (columns xs w d) (column (w - 1 - d) (level xs w d)),
      length-columns xs w d,
      length-column (w - 1 - d) (level xs w d),
      length-level xs w d,
    )

-- the bits of the first levels, where they begin with those of all
front-columns : (xs : List ℕ) (w n : ℕ) (b : List Bool) → n ≡ length xs → take (w * n) b ≡ columns xs w w
    → (j d : ℕ) → d + j ≡ w → take (d * n) b ≡ columns xs w d
unfolding columns
front-columns xs w n b len all zero d e =
    let same : d ≡ w = omega arith in
    ap (λ k. take (k * n) b) same ∙ all ∙ ap (columns xs w) (sym same)
front-columns xs w n b len all (suc j) d e =
    let next = front-columns xs w n b len all j (suc d) (omega arith) in
    sym (take-take (d * n) (suc d * n) b (omega arith))
    ∙ ap (take (d * n)) next
    ∙ take_at (columns xs w d) (column (w - 1 - d) (level xs w d)) (d * n) (length-columns xs w d ∙ ap (λ k. d * k) (sym len))

-- the bits of one level
pub column-at : (xs : List ℕ) (w n : ℕ) (b : List Bool) → n ≡ length xs → take (w * n) b ≡ columns xs w w
    → (d : ℕ) → d < w → take n (drop (d * n) b) ≡ column (w - 1 - d) (level xs w d)
unfolding columns
column-at xs w n b len all d h =
    let next = front-columns xs w n b len all (w - suc d) (suc d) (omega arith) in
    let more : suc d * n ≡ d * n + n = omega arith in
    sym (drop-take (d * n) n b)
    ∙ ap (λ k. drop (d * n) (take k b)) (sym more)
    ∙ ap (drop (d * n)) next
    ∙ drop_at (columns xs w d) (column (w - 1 - d) (level xs w d)) (d * n) (length-columns xs w d ∙ ap (λ k. d * k) (sym len))

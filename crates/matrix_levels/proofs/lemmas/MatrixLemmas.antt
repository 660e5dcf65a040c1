-- What the bits of a matrix say of its levels.
use Rattle.std.proofs.Common.{◌≡◌, ℕ, zero, suc, ◌+◌, ◌-◌, ◌*◌, ◌/◌, ◌%◌, ◌^◌, ◌<◌, ◌≤◌, Bool, true, false, if◌then◌else◌, List, [], ◌∷◌, length, take, drop, get_or, count_by, All, refl, sym, ap, ◌∙◌, subst, arith, one-add, ⊎_elim}
use Rattle.std.proofs.lemmas.Bool.Decides.{eqb_tells}
use Rattle.std.proofs.Math.Nat.{mod-one, mod-eq_of_lt, mul-le-mul_right}
use Rattle.std.proofs.lemmas.Grind.{same_number_lists}
use Rattle.std.proofs.lemmas.List.{take_all}
use Rattle.std.proofs.lemmas.List.FromFn.{length-map-range_with_len, get_or-map-range_with_len}
use Rattle.std.proofs.lemmas.Nat.{mod-pow-add}
use Rattle.std.specs.Int.{div_ceil}
use Rattle.bit_lists.specs.Bits.{bits_of, digit, item}
use Rattle.bitm_tables.specs.Quarters.{AreQuartersOf}
use Rattle.bitm_tables.specs.Tables.{IsIndexed, Lists, bits_in}
use Rattle.bit_lists.specs.Count.{count_before, ones_before, zeros_before}
use Rattle.bit_lists.proofs.BitLaws.{bits_are_counted, count_in_stretch, item_of_stretch, ones_and_zeros}
use Rattle.matrix_levels.specs.Levels.{has_digit, partition, column, columns, level, known_of, level_position, partition_position}
use Rattle.matrix_levels.specs.Matrix.{IsMatrix, IsMatrixOf, IsTight, LevelTables, digit_position, level_items, low_part, matrix_words, next_position, numbers_in, quarters_for}
use Rattle.matrix_levels.proofs.lemmas.DecodeLemmas.{any-levels, items-fit, items-len}
use Rattle.matrix_levels.proofs.lemmas.ColumnLemmas.{column-at, length-level, length-column, count-column, item-column}
use Rattle.matrix_levels.proofs.lemmas.PartLemmas.{item-moved, moved-inside}
use Rattle.matrix_levels.proofs.lemmas.StartLemmas.{starts-from-begins, starts-of-none}

-- the next position by the bits of a level is where its item stands after the partition
next-position-moved : (b : ℕ) (xs : List ℕ) (p : ℕ) → p < length xs
    → next_position (column b xs) p ≡ partition_position b (digit (get_or xs p 0) b) xs p
unfolding partition_position
next-position-moved b xs p h =
    let c = column b xs in
    ap (λ v. if v then zeros_before c (length c) + ones_before c p else zeros_before c p) (item-column b xs p h)
    ∙ by (digit (get_or xs p 0) b)
  where
    by : (v : Bool) → (if v then zeros_before (column b xs) (length (column b xs)) + ones_before (column b xs) p else zeros_before (column b xs) p)
        ≡ partition_position b v xs p
    by true =
        let all : take (length (column b xs)) xs ≡ xs = take_all _ xs (omega (arith, length-column b xs)) in
        let zeros = count-column b xs false (length (column b xs)) ∙ ap (count_by (has_digit b false)) all in
        ap (λ n. n + ones_before (column b xs) p) zeros ∙ ap (λ n. count_by (has_digit b false) xs + n) (count-column b xs true p)
    by false = count-column b xs false p

-- the bits of a level, and their counts, where the bits begin with all levels
module _ (xs : List ℕ) (w n : ℕ) (b : List Bool) (count : n ≡ length xs) (room : w * n ≤ length b) (levels : take (w * n) b ≡ columns xs w w) where
  column-of : (d : ℕ) → d < w → take n (drop (d * n) b) ≡ column (w - 1 - d) (level xs w d)
  column-of = column-at xs w n b count levels

  pub level-inside : (d p : ℕ) → d < w → p ≤ n → d * n + p ≤ length b
  level-inside d p less inside = omega (arith, room, mul-le-mul_right n (let e : d + 1 ≤ w = omega arith in e))

  pub digit-level : (d p : ℕ) → d < w → p < n → item b (d * n + p) ≡ digit (get_or (level xs w d) p 0) (w - 1 - d)
  digit-level d p less inside =
      sym (item_of_stretch b (d * n) n p inside)
      ∙ ap (λ c. item c p) (column-of d less)
      ∙ item-column (w - 1 - d) (level xs w d) p (omega (arith, length-level xs w d, count))

  pub count-level : (v : Bool) (d p : ℕ) → d < w → p ≤ n
      → count_before b v (d * n + p) ≡ count_before b v (d * n) + count_by (has_digit (w - 1 - d) v) (take p (level xs w d))
  count-level v d p less inside =
      sym (count_in_stretch b v (d * n) n p (level-inside d n less (omega arith)) inside)
      ∙ ap (λ k. count_before b v (d * n) + k) (ap (λ c. count_before c v p) (column-of d less) ∙ count-column (w - 1 - d) (level xs w d) v p)

  -- all of a level
  pub count-whole : (v : Bool) (d : ℕ) → d < w
      → count_before b v (d * n + n) ≡ count_before b v (d * n) + count_by (has_digit (w - 1 - d) v) (level xs w d)
  count-whole v d less =
      count-level v d n less (omega arith)
      ∙ ap (λ l. count_before b v (d * n) + count_by (has_digit (w - 1 - d) v) l) (take_all n (level xs w d) (omega (arith, length-level xs w d, count)))

  -- the low digits of an item of a level
  low-level : (r d p : ℕ) → d + r ≡ w → p < n → low_part b w n r p ≡ get_or (level xs w d) p 0 % 2 ^ r
  unfolding low_part level
  low-level zero d p e inside = sym (mod-one (get_or (level xs w d) p 0))
  low-level (suc r) d p e inside =
      let x = get_or (level xs w d) p 0 in
      let v = digit x r in
      let same : w - suc r ≡ d = omega arith in
      let position : w - 1 - d ≡ r = omega arith in
      let c = take n (drop ((w - suc r) * n) b) in
      let is : c ≡ column r (level xs w d) =
      ap (λ k. take n (drop (k * n) b)) same ∙ column-of d (omega arith) ∙ ap (λ k. column k (level xs w d)) position in
      let len = length-level xs w d in
      let within : p < length (level xs w d) = omega (arith, count) in
      let bit : item c p ≡ v = ap (λ k. item k p) is ∙ item-column r (level xs w d) p within in
      let to : next_position c p ≡ partition_position r v (level xs w d) p =
      ap (λ k. next_position k p) is ∙ next-position-moved r (level xs w d) p within in
      let goes = moved-inside r v (level xs w d) p within refl in
      let rest = low-level r (suc d) (partition_position r v (level xs w d) p) (omega arith) (omega (arith, count)) in
      ap (λ k. (if k then 2 ^ r else 0) + low_part b w n r (next_position c p)) bit
      ∙ ap (λ k. (if v then 2 ^ r else 0) + low_part b w n r k) to
      ∙ ap (λ k. (if v then 2 ^ r else 0) + k) (rest ∙ ap (λ k. k % 2 ^ r) (there position within))
      ∙ sum x
    where
      there : w - 1 - d ≡ r → p < length (level xs w d)
          → get_or (level xs w (suc d)) (partition_position r (digit (get_or (level xs w d) p 0) r) (level xs w d) p) 0 ≡ get_or (level xs w d) p 0
      there position within =
          ap (λ k. get_or (partition k (level xs w d)) (partition_position r (digit (get_or (level xs w d) p 0) r) (level xs w d) p) 0) position
          ∙ item-moved r _ (level xs w d) p within refl

      sum : (x : ℕ) → (if digit x r then 2 ^ r else 0) + x % 2 ^ r ≡ x % 2 ^ (suc r)
      sum x =
          ⊎_elim
          (λ t. ap (λ k. (if k then 2 ^ r else 0) + x % 2 ^ r) t.0
          ∙ omega (arith, ap (λ k. k * 2 ^ r) t.1, mod-pow-add x 1 r) ∙ ap (λ k. x % 2 ^ k) (one-add r))
          (λ t. ap (λ k. (if k then 2 ^ r else 0) + x % 2 ^ r) t.0
          ∙ omega (arith, ap (λ k. k * 2 ^ r) (let z : x / 2 ^ r % 2 ≡ 0 = omega (arith, t.1) in z), mod-pow-add x 1 r) ∙ ap (λ k. x % 2 ^ k) (one-add r))
          (eqb_tells (x / 2 ^ r % 2) 1)

  -- so the bits hold the numbers
  pub items_of-is : All (λ x. x < 2 ^ w) xs → level_items b w n ≡ xs
  unfolding level
  items_of-is fit =
      same_number_lists (level_items b w n) xs (length-map-range_with_len (low_part b w n w) 0 n ∙ count)
      (λ i less.
      let inside : i < n = omega (arith, length-map-range_with_len (low_part b w n w) 0 n) in
      get_or-map-range_with_len (low_part b w n w) 0 n i i 0 inside (omega arith)
      ∙ low-level w 0 i (omega arith) inside
      ∙ first i
      ∙ mod-eq_of_lt (fit i 0 (omega (arith, count))))
    where
      first : (i : ℕ) → get_or (level xs w 0) i 0 % 2 ^ w ≡ get_or xs i 0 % 2 ^ w
      first i = refl

-- levels of numbers are levels of what their bits hold
pub matrix-of-items : (xs : List ℕ) (l : LevelTables) (b : List Bool) → IsMatrixOf xs l b → IsMatrixOf (level_items b l.width l.len) l b
matrix-of-items xs l b h =
    let P : List ℕ → Type 0 = λ ys. IsMatrixOf ys l b in
    subst P (sym (items_of-is xs l.width l.len b h.count h.room h.levels h.fit)) h

-- what holds of the levels of a matrix
module _ (xs : List ℕ) (l : LevelTables) (b : List Bool) (h : IsMatrixOf xs l b) where
  pub few : length xs < 2 ^ 63
  few = omega (arith, h.count, h.short, mul-le-mul_right l.len h.some)

  pub start-fits : (d p : ℕ) → d < l.width → p ≤ l.len → d * l.len + p < 2 ^ 63
  start-fits d p less inside = omega (arith, h.short, mul-le-mul_right l.len (let e : d + 1 ≤ l.width = omega arith in e))

  pub position-inside : (d p : ℕ) → d < l.width → p ≤ l.len → d * l.len + p ≤ length b
  position-inside = level-inside xs l.width l.len b h.count h.room h.levels

  pub digit-is : (d p : ℕ) → d < l.width → p < l.len → item b (d * l.len + p) ≡ digit (get_or (level xs l.width d) p 0) (digit_position l d)
  digit-is = digit-level xs l.width l.len b h.count h.room h.levels

  -- no more ones stand before a level than bits
  pub ones-to-start : (d : ℕ) → d < l.width → get_or l.ones d 0 ≤ d * l.len
  ones-to-start d less =
      omega (arith, h.ones_are d less, ones_and_zeros b (d * l.len) (omega (arith, position-inside d 0 less (omega arith))))

  -- the ones among the first items of a level
  pub ones-are : (d p : ℕ) → d < l.width → p ≤ l.len
      → ones_before b (d * l.len + p) ≡ get_or l.ones d 0 + count_by (has_digit (digit_position l d) true) (take p (level xs l.width d))
  ones-are d p less inside =
      count-level xs l.width l.len b h.count h.room h.levels true d p less inside
      ∙ ap (λ k. k + count_by (has_digit (digit_position l d) true) (take p (level xs l.width d))) (sym (h.ones_are d less))

-- the tables of what was written are those of the levels
pub made-matrix : (xs : List ℕ) (l : LevelTables) (b : List Bool) (w : ℕ) → l.len ≡ length xs → l.width ≡ w → 1 ≤ w → w ≤ 64 → w * length xs < 2 ^ 63
    → All (λ x. x < 2 ^ w) xs → w * length xs ≤ length b → take (w * length xs) b ≡ columns xs w w → length l.ones ≡ w → length l.zeros ≡ w
    → l.known ≡ 0 → l.starts ≡ 0 ∷ [] → (l.compact ≡ false → AreQuartersOf b l.quarters) → (l.compact ≡ true → length l.quarters ≡ 0)
    → ((d : ℕ) → d < w → get_or l.ones d 0 ≡ ones_before b (d * length xs))
    → ((d : ℕ) → d < w → zeros_before b (d * length xs) + get_or l.zeros d 0 ≡ zeros_before b (d * length xs + length xs))
    → IsMatrixOf xs l b
made-matrix xs l b w len width some most short fit room levels ones_len zeros_len known starts quarters no_quarters ones zeros =
    let Goal : ℕ → ℕ → ℕ → List ℕ → Type 0 = λ n v k s. IsMatrixOf xs (record { len = n; width = v; ones = l.ones; zeros = l.zeros; known = k; starts = s; compact = l.compact; quarters = l.quarters }) b in
    let P : ℕ → Type 0 = λ n. Goal n l.width l.known l.starts in
    let Q : ℕ → Type 0 = λ v. Goal (length xs) v l.known l.starts in
    let R : ℕ → Type 0 = λ k. Goal (length xs) w k l.starts in
    let S : List ℕ → Type 0 = λ s. Goal (length xs) w 0 s in
    subst P (sym len) (subst Q (sym width) (subst R (sym known) (subst S (sym starts) (record {
      count = refl;
      some = some;
      most = most;
      short = short;
      fit = fit;
      room = room;
      levels = levels;
      ones_len = ones_len;
      zeros_len = zeros_len;
      ones_are = ones;
      zeros_are = λ d less. omega (arith, zeros d less, count-whole xs w (length xs) b refl room levels false d less);
      known_most = omega arith;
      starts_len = refl;
      starts_are = starts-of-none xs w;
      quarters_are = quarters;
      no_quarters = no_quarters;
    }))))

-- and any bits are the levels of numbers
pub made-of-bits : (l : LevelTables) (b : List Bool) (w n : ℕ) → l.len ≡ n → l.width ≡ w → 1 ≤ w → w ≤ 64 → w * n < 2 ^ 63 → w * n ≤ length b
    → length l.ones ≡ w → length l.zeros ≡ w → l.known ≡ 0 → l.starts ≡ 0 ∷ [] → (l.compact ≡ false → AreQuartersOf b l.quarters)
    → (l.compact ≡ true → length l.quarters ≡ 0) → ((d : ℕ) → d < w → get_or l.ones d 0 ≡ ones_before b (d * n))
    → ((d : ℕ) → d < w → zeros_before b (d * n) + get_or l.zeros d 0 ≡ zeros_before b (d * n + n)) → IsMatrixOf (level_items b w n) l b
made-of-bits l b w n len width some most short room ones_len zeros_len known starts quarters no_quarters ones zeros =
    let xs = level_items b w n in
    let count : length xs ≡ n = items-len b w n room in
    let bits : w * length xs ≡ w * n = ap (λ m. w * m) count in
    made-matrix xs l b w (len ∙ sym count) width some most (omega (arith, bits, short)) (items-fit b w n room) (omega (arith, bits, room))
    (ap (λ m. take m b) bits ∙ any-levels b w n room) ones_len zeros_len known starts quarters no_quarters
    (λ d less. ones d less ∙ ap (λ m. ones_before b (d * m)) (sym count))
    (λ d less. ap (λ m. zeros_before b (d * m) + get_or l.zeros d 0) count ∙ zeros d less ∙ ap (λ m. zeros_before b (d * m + m)) (sym count))

-- and so they are with starts
pub matrix-with-starts : (xs : List ℕ) (l : LevelTables) (b : List Bool) (known : ℕ) (starts : List ℕ) → IsMatrixOf xs l b
    → known ≤ l.width → length starts ≡ 2 ^ known
    → ((h : ℕ) → h < 2 ^ known → get_or starts h 0 ≡ level_position xs l.width (h * 2 ^ (l.width - known)) known 0)
    → IsMatrixOf xs (record l { known = known; starts = starts }) b
matrix-with-starts xs l b known starts h most len each = record {
  count = h.count;
  some = h.some;
  most = h.most;
  short = h.short;
  fit = h.fit;
  room = h.room;
  levels = h.levels;
  ones_len = h.ones_len;
  zeros_len = h.zeros_len;
  ones_are = h.ones_are;
  zeros_are = h.zeros_are;
  known_most = most;
  starts_len = len;
  starts_are = starts-from-begins xs l.width known starts most each;
  quarters_are = h.quarters_are;
  no_quarters = h.no_quarters;
}

-- there are as many numbers of quarters as records, or none
pub quarters_of_words : (xs : List ℕ) (l : LevelTables) (ws : List ℕ) → IsMatrixOf xs l (bits_of ws)
    → length l.quarters ≡ quarters_for l.compact (length ws)
quarters_of_words xs l ws h = of l.compact h.quarters_are h.no_quarters
  where
    records : (n : ℕ) → div_ceil (64 * n) 512 ≡ div_ceil n 8
    records n = grind arith

    of : (v : Bool) → (v ≡ false → AreQuartersOf (bits_of ws) l.quarters) → (v ≡ true → length l.quarters ≡ 0)
        → length l.quarters ≡ quarters_for v (length ws)
    of true _ none = none refl
    of false some _ = omega (arith, (some refl).len, records (length ws), ap (λ (n : ℕ). div_ceil n 512) (bits_are_counted ws))

-- over a source whose words hold the levels
pub is-matrix : (xs : List ℕ) (l : LevelTables) (lists : Lists) (ws : List ℕ) → IsIndexed lists → lists.words ≡ ws → IsMatrixOf xs l (bits_of ws) → IsMatrix l lists
is-matrix xs l lists ws indexed words h =
    let P : List ℕ → Type 0 = λ v. IsMatrixOf (level_items (bits_of v) l.width l.len) l (bits_of v) in
    record { indexed = indexed; numbers = subst P (sym words) (matrix-of-items xs l (bits_of ws) h) }

-- what holds over it of other levels of the same numbers
pub matrix-from : (xs : List ℕ) (l other : LevelTables) (lists : Lists) (ws : List ℕ) → lists.words ≡ ws → IsMatrixOf xs l (bits_of ws)
    → IsMatrixOf (numbers_in l lists) other (bits_in lists) → IsMatrixOf xs other (bits_of ws)
matrix-from xs l other lists ws words h k =
    let P : List ℕ → Type 0 = λ v. IsMatrixOf (level_items (bits_of v) l.width l.len) other (bits_of v) in
    let Q : List ℕ → Type 0 = λ ys. IsMatrixOf ys other (bits_of ws) in
    subst Q (items_of-is xs l.width l.len (bits_of ws) h.count h.room h.levels h.fit) (subst P words k)

-- as many words and known digits as were made
pub tight : (n w : ℕ) (l : LevelTables) (words : List ℕ) → length words ≡ matrix_words n w → l.known ≡ known_of n w → l.len ≡ n → l.width ≡ w
    → IsTight l words
tight n w l words few known len width =
    let P : ℕ → Type 0 = λ m. (length words ≡ matrix_words m l.width) × (l.known ≡ known_of m l.width) in
    let Q : ℕ → Type 0 = λ v. (length words ≡ matrix_words n v) × (l.known ≡ known_of n v) in
    let both = subst P (sym len) (subst Q (sym width) (few, known)) in
    record { words = both.0; known = both.1 }

-- Where the items of a list stand once it is partition by a digit.
use Rattle.std.proofs.Common.{◌≡◌, ℕ, ◌+◌, ◌-◌, ◌<◌, ◌≤◌, ◌==◌, Bool, true, false, List, ◌++◌, length, take, drop, get_or, count_by, filter, slice_range, refl, sym, ap, ◌∙◌, subst, arith, ⊎_elim}
use Rattle.std.proofs.lemmas.Bool.{cases_lt, eqb-true, false≢true, not_from_true, not_from_false, not-true}
use Rattle.std.proofs.lemmas.List.{take-append-le, drop-append-le, take_at, drop_at, drop-drop, length-append, length-drop, length-take-le, get_or_append_left, get_or-append-add, get_or-append_right}
use Rattle.std.proofs.lemmas.List.Elements.{filter_passes}
use Rattle.std.proofs.lemmas.List.Filters.{length-filter_both}
use Rattle.std.proofs.lemmas.List.Sums.{length-filter}
use Rattle.bit_lists.specs.Bits.{digit}
use Rattle.matrix_levels.specs.Levels.{has_digit, partition, partition_position}
use Rattle.matrix_levels.specs.Numbers.{PicksItem}
use Rattle.matrix_levels.proofs.lemmas.FilterLemmas.{range-filter, take-filter, filter-at, count-at, count-take-le, count-grows, count-range, count-filter, count-filter-none}

-- each has the digit 0 or 1
pub both-digits : (b : ℕ) (xs : List ℕ) → count_by (has_digit b false) xs + count_by (has_digit b true) xs ≡ length xs
both-digits b xs =
    omega (arith, length-filter_both (has_digit b true) (has_digit b false) (λ x. refl) xs, length-filter (has_digit b true) xs, length-filter (has_digit b false) xs)

-- as many as there were
pub length-partition : (b : ℕ) (xs : List ℕ) → length (partition b xs) ≡ length xs
unfolding partition
length-partition b xs =
    omega (
      arith,
      length-append (filter (has_digit b false) xs) (filter (has_digit b true) xs),
      both-digits b xs,
      length-filter (has_digit b true) xs,
      length-filter (has_digit b false) xs,
    )

pub moved-le : (b : ℕ) (v : Bool) (xs : List ℕ) (p : ℕ) → partition_position b v xs p ≤ length xs
unfolding partition_position
moved-le b false xs p = omega (arith, count-take-le (has_digit b false) p xs, both-digits b xs)
moved-le b true xs p = omega (arith, count-take-le (has_digit b true) p xs, both-digits b xs)

pub moved-grows : (b : ℕ) (v : Bool) (xs : List ℕ) (s e : ℕ) → s ≤ e → partition_position b v xs s ≤ partition_position b v xs e
unfolding partition_position
moved-grows b false xs s e h = count-grows (has_digit b false) s e xs h
moved-grows b true xs s e h = omega (arith, count-grows (has_digit b true) s e xs h)

-- a range of the front of two lists, and of the second
range-append-left : (xs ys : List ℕ) (s e : ℕ) → s ≤ e → e ≤ length xs → slice_range (xs ++ ys) s e ≡ slice_range xs s e
range-append-left xs ys s e h within =
    ap (take (e - s)) (drop-append-le s xs ys (omega arith))
    ∙ take-append-le (e - s) (drop s xs) ys (omega (arith, length-drop s xs))

range-append-right : (xs ys : List ℕ) (n s e : ℕ) → length xs ≡ n → slice_range (xs ++ ys) (n + s) (n + e) ≡ slice_range ys s e
range-append-right xs ys n s e len =
    let same : n + e - (n + s) ≡ e - s = omega arith in
    ap (λ k. take k (drop (n + s) (xs ++ ys))) same
    ∙ ap (take (e - s)) (sym (drop-drop s n (xs ++ ys)) ∙ ap (drop s) (drop_at xs ys n len))

-- a range with its items of one digit alone is a range of the partition list
pub range-moved : (b : ℕ) (v : Bool) (xs : List ℕ) (s e : ℕ) → s ≤ e
    → slice_range (partition b xs) (partition_position b v xs s) (partition_position b v xs e) ≡ filter (has_digit b v) (slice_range xs s e)
unfolding partition_position partition
range-moved b false xs s e h =
    range-append-left (filter (has_digit b false) xs) (filter (has_digit b true) xs) _ _ (count-grows (has_digit b false) s e xs h)
    (omega (arith, length-filter (has_digit b false) xs, count-take-le (has_digit b false) e xs))
    ∙ range-filter (has_digit b false) s e xs h
range-moved b true xs s e h =
    range-append-right (filter (has_digit b false) xs) (filter (has_digit b true) xs) _ _ _ (length-filter (has_digit b false) xs)
    ∙ range-filter (has_digit b true) s e xs h

-- an item stands in the partition list where it partition_place to
pub item-moved : (b : ℕ) (v : Bool) (xs : List ℕ) (p : ℕ) → p < length xs → digit (get_or xs p 0) b ≡ v
    → get_or (partition b xs) (partition_position b v xs p) 0 ≡ get_or xs p 0
unfolding partition_position partition
item-moved b false xs p h e =
    get_or_append_left (filter (has_digit b false) xs) (filter (has_digit b true) xs) 0 _
    (omega (arith, length-filter (has_digit b false) xs, count-at (has_digit b false) p xs 0 h (not_from_false _ e)))
    ∙ filter-at (has_digit b false) p xs 0 h (not_from_false _ e)
item-moved b true xs p h e =
    ap (λ n. get_or (filter (has_digit b false) xs ++ filter (has_digit b true) xs) (n + count_by (has_digit b true) (take p xs)) 0)
    (sym (length-filter (has_digit b false) xs))
    ∙ get_or-append-add (filter (has_digit b false) xs) (filter (has_digit b true) xs) _ 0
    ∙ filter-at (has_digit b true) p xs 0 h e

-- and it stands inside
pub moved-inside : (b : ℕ) (v : Bool) (xs : List ℕ) (p : ℕ) → p < length xs → digit (get_or xs p 0) b ≡ v
    → partition_position b v xs p < length xs
unfolding partition_position
moved-inside b false xs p h e = omega (arith, count-at (has_digit b false) p xs 0 h (not_from_false _ e), both-digits b xs)
moved-inside b true xs p h e = omega (arith, count-at (has_digit b true) p xs 0 h e, both-digits b xs)

-- an item that is a number with this digit has it
digit-of-equal : (b : ℕ) (v : Bool) (s x : ℕ) → has_digit b v s ≡ true → (x == s) ≡ true → has_digit b v x ≡ true
digit-of-equal b v s x h e =
    let P : ℕ → Type 0 = λ y. has_digit b v y ≡ true in
    subst P (sym (eqb-true x s e)) h

-- as many items are a number before a position as before the position that it partition_place to, for the number's digit
pub count-moved : (b : ℕ) (v : Bool) (xs : List ℕ) (s p : ℕ) → has_digit b v s ≡ true
    → count_by (λ x. x == s) (take (partition_position b v xs p) (partition b xs)) ≡ count_by (λ x. x == s) (take p xs)
unfolding partition_position partition
count-moved b false xs s p h =
    let zeros = filter (has_digit b false) xs in
    let at = count_by (has_digit b false) (take p xs) in
    ap (count_by (λ x. x == s))
    (take-append-le at zeros (filter (has_digit b true) xs) (omega (arith, length-filter (has_digit b false) xs, count-take-le (has_digit b false) p xs))
    ∙ take-filter (has_digit b false) p xs)
    ∙ count-filter (has_digit b false) (λ x. x == s) (λ x. digit-of-equal b false s x h) (take p xs)
count-moved b true xs s p h =
    let zeros = filter (has_digit b false) xs in
    let ones = filter (has_digit b true) xs in
    let n = count_by (has_digit b false) xs in
    let at = count_by (has_digit b true) (take p xs) in
    let same : n + at - n ≡ at = omega arith in
    let front : count_by (λ x. x == s) (take n (zeros ++ ones)) ≡ 0 =
    ap (count_by (λ x. x == s)) (take_at zeros ones n (length-filter (has_digit b false) xs))
    ∙ count-filter-none (has_digit b false) (λ x. x == s) (λ x e. not_from_true _ (digit-of-equal b true s x h e)) xs in
    let rest : count_by (λ x. x == s) (slice_range (zeros ++ ones) n (n + at)) ≡ count_by (λ x. x == s) (take p xs) =
    ap (λ k. count_by (λ x. x == s) (take k (drop n (zeros ++ ones)))) same
    ∙ ap (λ l. count_by (λ x. x == s) (take at l)) (drop_at zeros ones n (length-filter (has_digit b false) xs))
    ∙ ap (count_by (λ x. x == s)) (take-filter (has_digit b true) p xs)
    ∙ count-filter (has_digit b true) (λ x. x == s) (λ x. digit-of-equal b true s x h) (take p xs) in
    omega (arith, count-range (λ x. x == s) n (n + at) (zeros ++ ones) (omega arith), front, rest)

-- an item picked in the partition list is picked where it came from
pub PicksItem-back : (b : ℕ) (v : Bool) (xs : List ℕ) (s k p q : ℕ) → PicksItem (partition b xs) s k p → has_digit b v s ≡ true
    → q < length xs → digit (get_or xs q 0) b ≡ v → partition_position b v xs q ≡ p → PicksItem xs s k q
PicksItem-back b v xs s k p q h has_it inside digit_is moves =
    record {
      inside = inside;
      item = sym (item-moved b v xs q inside digit_is) ∙ ap (λ j. get_or (partition b xs) j 0) moves ∙ h.item;
      before = sym (count-moved b v xs s q has_it) ∙ ap (λ j. count_by (λ x. x == s) (take j (partition b xs))) moves ∙ h.before;
    }

-- an item whose digit is 0 stands among the zeros, and one whose digit is 1 after them
pub among-zeros : (b : ℕ) (xs : List ℕ) (p : ℕ) → p < length xs → digit (get_or (partition b xs) p 0) b ≡ false → p < count_by (has_digit b false) xs
unfolding partition
among-zeros b xs p h e =
    let zeros = filter (has_digit b false) xs in
    let ones = filter (has_digit b true) xs in
    ⊎_elim (λ l. l)
    (λ past.
    let at : get_or (zeros ++ ones) p 0 ≡ get_or ones (p - length zeros) 0 =
    get_or-append_right zeros ones (length zeros) p 0 refl (omega (arith, length-filter (has_digit b false) xs)) in
    let one = filter_passes (has_digit b true) xs (p - length zeros) 0
    (omega (arith, length-filter (has_digit b false) xs, length-filter (has_digit b true) xs, both-digits b xs)) in
    absurd (false≢true (sym e ∙ ap (λ x. digit x b) at ∙ one)))
    (cases_lt p (count_by (has_digit b false) xs))

pub after-zeros : (b : ℕ) (xs : List ℕ) (p : ℕ) → p < length xs → digit (get_or (partition b xs) p 0) b ≡ true → count_by (has_digit b false) xs ≤ p
unfolding partition
after-zeros b xs p h e =
    let zeros = filter (has_digit b false) xs in
    let ones = filter (has_digit b true) xs in
    ⊎_elim
    (λ before.
    let inside : p < length zeros = omega (arith, length-filter (has_digit b false) xs) in
    let at = get_or_append_left zeros ones 0 p inside in
    let zero = not-true _ (filter_passes (has_digit b false) xs p 0 inside) in
    absurd (false≢true (sym zero ∙ sym (ap (λ x. digit x b) at) ∙ e)))
    (λ l. l)
    (cases_lt p (count_by (has_digit b false) xs))

-- where a position moves to, from the counts of both digits
pub moved-one : (b : ℕ) (v : Bool) (xs : List ℕ) (p z o : ℕ) → v ≡ true → z ≡ count_by (has_digit b false) xs → o ≡ count_by (has_digit b true) (take p xs)
    → z + o ≡ partition_position b v xs p
unfolding partition_position
moved-one b v xs p z o one zeros ones = let e : z + o ≡ partition_position b true xs p = omega (arith, zeros, ones) in e ∙ ap (λ k. partition_position b k xs p) (sym one)

pub moved-zero : (b : ℕ) (v : Bool) (xs : List ℕ) (p o : ℕ) → v ≡ false → p ≤ length xs → o ≡ count_by (has_digit b true) (take p xs)
    → p - o ≡ partition_position b v xs p
unfolding partition_position
moved-zero b v xs p o zero inside ones =
    let e : p - o ≡ partition_position b false xs p = omega (arith, ones, both-digits b (take p xs), length-take-le p xs inside) in
    e ∙ ap (λ k. partition_position b k xs p) (sym zero)

-- the counts of both digits, up to a position and of all, are no more than the numbers
pub counts-fit : (b : ℕ) (xs : List ℕ) (p z o : ℕ) → z ≡ count_by (has_digit b false) xs → o ≡ count_by (has_digit b true) (take p xs) → z + o ≤ length xs
counts-fit b xs p z o zeros ones = omega (arith, both-digits b xs, count-take-le (has_digit b true) p xs)

-- a range parts into those with the digit 1 and those with the digit 0
pub moved-both : (b : ℕ) (xs : List ℕ) (f l : ℕ) → f ≤ l → l ≤ length xs
    → (partition_position b true xs l - partition_position b true xs f) + (partition_position b false xs l - partition_position b false xs f) ≡ l - f
unfolding partition_position
moved-both b xs f l order inside =
    omega (
      arith,
      both-digits b (take f xs),
      both-digits b (take l xs),
      length-take-le f xs (omega arith),
      length-take-le l xs inside,
      count-grows (has_digit b false) f l xs order,
      count-grows (has_digit b true) f l xs order,
    )

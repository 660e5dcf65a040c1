-- The ones of the numbers that an iterator has left: the first and the last of them, and what a step leaves.
use Rattle.std.proofs.Common.{◌≡◌, ℕ, suc, ◌+◌, ◌-◌, ◌*◌, ◌<◌, ◌≤◌, true, cond, List, [], ◌∷◌, ◌++◌, length, get_or, take, drop, sym, refl, ap, ap₂, ◌∙◌, ⊎_elim, arith, subst, length-drop, take_all}
use Rattle.std.proofs.Math.Seq.{drop-cons, take-add}
use Rattle.std.proofs.lemmas.Bool.{cases_lt, false≢true}
use Rattle.std.proofs.lemmas.List.{get_or-drop}
use Rattle.std.proofs.lemmas.List.FromFn.{length-map-range_with_len, get_or-map-range_with_len}
use Rattle.bit_lists.proofs.BitLaws.{bits_are_counted, counts_grow, count_after_item}
use Rattle.bit_lists.specs.Bits.{bits_of, item}
use Rattle.bit_lists.specs.Count.{ones_before, is_same, bit_positions, Picks, IsLastOneTo}
use Rattle.elias_fano.proofs.lemmas.ItemLemmas.{items_of-is}
use Rattle.elias_fano.proofs.lemmas.UpperLemmas.{one_is, position_is, ones_are, upper_position-le, upper_position-rises}
use Rattle.elias_fano.specs.Numbers.{items_left, IsCursor}
use Rattle.elias_fano.specs.Parts.{upper_position, upper_positions, upper_words_of, width_of, IsUpper, ArePartsOf, HasOneAt, items_of}

-- ---- items of a range

pub items_left-none : (xs : List ℕ) (start end : ℕ) → end ≤ start → items_left xs start end ≡ []
items_left-none xs start end none = let e : end - start ≡ 0 = omega arith in ap (λ m. take m (drop start xs)) e

pub items_left-all : (xs : List ℕ) (start n : ℕ) → n ≡ length xs → items_left xs start n ≡ drop start xs
items_left-all xs start n all = take_all (n - start) (drop start xs) (omega (arith, length-drop start xs))

pub items_left-first : (xs : List ℕ) (start end : ℕ) → start < end → end ≤ length xs
    → items_left xs start end ≡ get_or xs start 0 ∷ items_left xs (start + 1) end
items_left-first xs start end some within =
    let many : end - start ≡ suc (end - (start + 1)) = omega arith in
    let next : suc start ≡ start + 1 = omega arith in
    ap (take (end - start)) (drop-cons xs start 0 (omega arith))
    ∙ ap (λ m. take m (get_or xs start 0 ∷ drop (suc start) xs)) many
    ∙ ap (λ k. get_or xs start 0 ∷ take (end - (start + 1)) (drop k xs)) next

pub items_left-last : (xs : List ℕ) (start end : ℕ) → start < end → end ≤ length xs
    → items_left xs start end ≡ items_left xs start (end - 1) ++ get_or xs (end - 1) 0 ∷ []
items_left-last xs start end some within =
    let m = end - 1 - start in
    let many : end - start ≡ m + 1 = omega arith in
    let rest = drop start xs in
    let inside : m < length rest = omega (arith, length-drop start xs) in
    let at : start + m ≡ end - 1 = omega arith in
    ap (λ k. take k rest) many
    ∙ take-add m 1 rest
    ∙ ap (λ ys. take m rest ++ take 1 ys) (drop-cons rest m 0 inside)
    ∙ ap (λ x. take m rest ++ x ∷ []) (get_or-drop start xs m 0 ∙ ap (λ k. get_or xs k 0) at)

-- ---- ones

module _ (xs : List ℕ) (l : ℕ) (upper : List ℕ) (h : IsUpper xs l upper) where
  one_at : (j : ℕ) → j < length xs → Picks (bits_of upper) true j (upper_position xs l j)
  one_at j inside = one_is xs l upper j h inside

  -- each one is that of an item
  item_of : (p : ℕ) → p < length (bits_of upper) → item (bits_of upper) p ≡ true → (j : ℕ) × (j < length xs) × (p ≡ upper_position xs l j)
  item_of p inside one =
      let b = bits_of upper in
      let j = ones_before b p in
      let next : p + 1 ≤ length b = omega arith in
      let more : ones_before b (p + 1) ≡ j + 1 = count_after_item b true p inside ∙ ap (λ x. j + cond (is_same true x) 1 0) one in
      let few : j < length xs =
      omega (arith, more, counts_grow b true (p + 1) (length b) next, ones_are xs l upper h) in
      let here : Picks b true j p = record { inside = inside; item = one; before = refl } in
      (j, few, position_is xs l upper j p h few here)

-- the positions of the ones from that of an item on
positions_from : (xs : List ℕ) (l n i : ℕ) → i < n
    → drop i (upper_positions xs l n) ≡ upper_position xs l i ∷ drop (i + 1) (upper_positions xs l n)
positions_from xs l n i inside =
    let next : suc i ≡ i + 1 = omega arith in
    drop-cons (upper_positions xs l n) i 0 (omega (arith, length-map-range_with_len (upper_position xs l) 0 n))
    ∙ ap₂ (λ p k. p ∷ drop k (upper_positions xs l n)) (get_or-map-range_with_len (upper_position xs l) 0 n i i 0 inside (omega arith)) next

module _ (xs : List ℕ) (n l : ℕ) (low upper : List ℕ) (start end limit : ℕ) (ones : List ℕ)
    (h : IsCursor xs n l low upper start end limit ones) (some : start < end) where
  here : Picks (bits_of upper) true start (upper_position xs l start)
  here = one_at xs l upper h.parts.upper_is start (omega (arith, h.within, h.parts.count))

  there : Picks (bits_of upper) true (end - 1) (upper_position xs l (end - 1))
  there = one_at xs l upper h.parts.upper_is (end - 1) (omega (arith, h.within, h.parts.count))

  -- the first of the ones is that of the first item left, and the others are those of the items after it
  pub first-ones : ones ≡ upper_position xs l start ∷ drop (start + 1) (upper_positions xs l n)
  first-ones = h.ones ∙ positions_from xs l n start (omega (arith, h.within))

  first-is : (p : ℕ) (rest : List ℕ) → ones ≡ p ∷ rest → p ≡ upper_position xs l start
  first-is p rest found = ap (λ ps. get_or ps 0 0) (sym found ∙ first-ones)

  -- the last one before bit limit is that of the last item left
  pub last-is : (p : ℕ) → IsLastOneTo (bits_of upper) (limit - 1) p → p ≡ upper_position xs l (end - 1)
  last-is p found =
      let j = item_of xs l upper h.parts.upper_is p found.inside found.is in
      let bound : 0 < limit = omega (arith, h.left start some) in
      let not_after : j.0 ≤ end - 1 =
      ⊎_elim (λ before. omega arith) (λ late. absurd (omega (arith, h.after j.0 late, j.1, j.2, found.to, h.parts.count))) (cases_lt j.0 end) in
      let to : p ≤ upper_position xs l (end - 1) =
      omega (arith, j.2, upper_position-le xs l j.0 (end - 1) h.parts.sequence.rising not_after (omega (arith, h.within, h.parts.count))) in
      let within : upper_position xs l (end - 1) ≤ limit - 1 = omega (arith, h.left (end - 1)) in
      let from : upper_position xs l (end - 1) ≤ p =
      ⊎_elim
      (λ more. absurd (false≢true (sym (found.greatest (upper_position xs l (end - 1)) more within) ∙ there.item)))
      (λ order. order)
      (cases_lt p (upper_position xs l (end - 1))) in
      omega arith

  -- so it is there to be found
  pub some-last : (p : ℕ) × (p ≤ limit - 1) × (item (bits_of upper) p ≡ true)
  some-last = (upper_position xs l (end - 1), omega (arith, h.left (end - 1)), there.item)

  pub limit-some : 0 < limit
  limit-some = omega (arith, h.left start some)

  pub first-has : (p : ℕ) (rest : List ℕ) → ones ≡ p ∷ rest → HasOneAt xs n l low upper start p
  first-has p rest found =
      let P : ℕ → Type 0 = λ q. Picks (bits_of upper) true start q in
      record { parts = h.parts; inside = omega (arith, h.within); one = subst P (sym (first-is p rest found)) here }

  pub last-has : (p : ℕ) → IsLastOneTo (bits_of upper) (limit - 1) p → HasOneAt xs n l low upper (end - 1) p
  last-has p found =
      let P : ℕ → Type 0 = λ q. Picks (bits_of upper) true (end - 1) q in
      record { parts = h.parts; inside = omega (arith, h.within); one = subst P (sym (last-is p found)) there }

  -- what is left after a step from the front
  pub IsCursor-first : (p : ℕ) (rest : List ℕ) → ones ≡ p ∷ rest → IsCursor xs n l low upper (start + 1) end limit rest
  IsCursor-first p rest found = record {
    parts = h.parts;
    order = omega arith;
    within = h.within;
    room = h.room;
    ones = ap (drop 1) (sym found ∙ first-ones);
    left = h.left;
    after = h.after;
  }

  -- and from the back
  pub IsCursor-last : (p : ℕ) → IsLastOneTo (bits_of upper) (limit - 1) p → IsCursor xs n l low upper start (end - 1) p ones
  IsCursor-last p found = record {
    parts = h.parts;
    order = omega arith;
    within = omega (arith, h.within);
    room = omega (arith, last-is p found, h.left (end - 1), h.room);
    ones = h.ones;
    left = λ j to. omega (
      arith,
      last-is p found,
      upper_position-rises xs l j (end - 1) h.parts.sequence.rising to (omega (arith, h.within, h.parts.count)),
    );
    after = λ j from less. omega (
      arith,
      last-is p found,
      upper_position-le xs l (end - 1) j h.parts.sequence.rising from (omega (arith, h.parts.count)),
    );
  }

-- all items from a position on, whose ones are those from a bit on with as many before it
pub IsCursor-whole : (xs : List ℕ) (n l : ℕ) (low upper : List ℕ) (start first limit : ℕ) (ones : List ℕ)
    → ArePartsOf xs n l low upper → start ≤ n → limit ≡ 64 * length upper → ones_before (bits_of upper) first ≡ start
    → ones ≡ drop (ones_before (bits_of upper) first) (bit_positions true 0 (bits_of upper))
    → IsCursor (items_of n l low upper) n l low upper start n limit ones
IsCursor-whole xs n l low upper start first limit ones h order all before come =
    let P : List ℕ → Type 0 = λ ys. IsCursor ys n l low upper start n limit ones in
    subst P (sym (items_of-is xs n l low upper h)) record {
      parts = h;
      order = order;
      within = omega arith;
      room = omega arith;
      ones =
          come
          ∙ ap₂ drop before (h.upper_is.ones ∙ ap (upper_positions xs l) (sym h.count));
      left = λ j less. omega (arith, (one_at xs l upper h.upper_is j (omega (arith, h.count))).inside, bits_are_counted upper);
      after = λ j past less. absurd (omega arith);
    }

-- before the one of an item are those of the items before it
pub HasBefore-one : (xs : List ℕ) (n l : ℕ) (low upper other : List ℕ) (start p : ℕ) → ArePartsOf xs n l low upper
    → IsUpper xs (width_of xs) other → start < length xs → Picks (bits_of upper) true start p
    → ones_before (bits_of other) p ≡ start
HasBefore-one xs n l low upper other start p h there some here =
    let at = position_is xs l upper start p h.upper_is some here in
    let same : upper_position xs l start ≡ upper_position xs (width_of xs) start = ap (λ w. upper_position xs w start) h.width in
    ap (ones_before (bits_of other)) (at ∙ same) ∙ (one_at xs (width_of xs) other there start some).before

-- at the end all ones are before
pub HasBefore-end : (xs : List ℕ) (l : ℕ) (upper : List ℕ) (first : ℕ) → IsUpper xs l upper → first ≡ 64 * upper_words_of xs l
    → ones_before (bits_of upper) first ≡ length xs
HasBefore-end xs l upper first h end =
    let all : first ≡ length (bits_of upper) = omega (arith, h.words, bits_are_counted upper) in
    ap (ones_before (bits_of upper)) all ∙ ones_are xs l upper h

-- From a position of a dealt list back to the position that an item came from.
use Rattle.std.proofs.Common.{◌≡◌, ℕ, ◌+◌, ◌-◌, ◌<◌, ◌≤◌, ◌==◌, true, List, length, take, get_or, count_by, sym, ap, ◌∙◌, arith, ⊎_elim}
use Rattle.std.proofs.lemmas.Bool.{cases_lt, eq-eqb}
use Rattle.std.proofs.lemmas.List.{take_all}
use Rattle.std.proofs.lemmas.List.Sums.{count_by_more_yes}
use Rattle.digit_levels.specs.Levels.{dealt, dealt_position, has_lesser_quad, has_quad}
use Rattle.matrix_levels.specs.Numbers.{PicksItem}
use Rattle.matrix_levels.proofs.lemmas.FilterLemmas.{count-grows, count-take-le}
use Rattle.digit_levels.proofs.lemmas.DealLemmas.{count-before, count-below, count-dealt, item-dealt}

module _ (k d : ℕ) (few : d < 4) (xs : List ℕ) (v j p : ℕ) (picked : PicksItem (dealt k xs) v j p) (has : has_quad k d v ≡ true) where
  abbrev pub lesser : ℕ
  lesser = count_by (has_lesser_quad k d) xs

  one-more : count_by (λ x. x == v) (take (p + 1) (dealt k xs)) ≡ count_by (λ x. x == v) (take p (dealt k xs)) + 1
  one-more = count_by_more_yes (λ x. x == v) (dealt k xs) p 0 picked.inside (eq-eqb _ v picked.item)

  -- it stands after all with a lesser digit
  pub after-lesser : lesser ≤ p
  after-lesser =
      ⊎_elim
      (λ (before : p < lesser).
      absurd (omega (arith, one-more, count-grows (λ x. x == v) (p + 1) lesser (dealt k xs) (omega arith), count-before k d few xs v has)))
      (λ (l : lesser ≤ p). l)
      (cases_lt p lesser)

  all-before : count_by (λ x. x == v) (take (lesser + count_by (has_quad k d) xs) (dealt k xs)) ≡ count_by (λ x. x == v) xs
  unfolding dealt_position
  all-before =
      let all : take (length xs) xs ≡ xs = take_all (length xs) xs (omega arith) in
      ap (λ l. count_by (λ x. x == v) (take (lesser + count_by (has_quad k d) l) (dealt k xs))) (sym all)
      ∙ count-dealt k d few xs v has (length xs)
      ∙ ap (count_by (λ x. x == v)) all

  -- and before all with a greater one
  pub before-greater : p - lesser < count_by (has_quad k d) xs
  before-greater =
      let end = lesser + count_by (has_quad k d) xs in
      ⊎_elim
      (λ (within : p < end). omega (arith, after-lesser))
      (λ (past : end ≤ p).
      absurd (omega (
        arith,
        one-more,
        count-grows (λ x. x == v) end p (dealt k xs) past,
        all-before,
        count-take-le (λ x. x == v) (p + 1) (dealt k xs),
        count-below k d 4 v xs has few,
      )))
      (cases_lt p end)

  -- so it is picked where it came from
  pub picked-back : (q : ℕ) → q < length xs → has_quad k d (get_or xs q 0) ≡ true → count_by (has_quad k d) (take q xs) ≡ p - lesser
      → PicksItem xs v j q
  unfolding dealt_position
  picked-back q within own rank =
      let moves : dealt_position k d xs q ≡ p = omega (arith, rank, after-lesser) in
      record {
        inside = within;
        item = sym (item-dealt k d few xs q within own) ∙ ap (λ i. get_or (dealt k xs) i 0) moves ∙ picked.item;
        before =
            sym (count-dealt k d few xs v has q)
            ∙ ap (λ i. count_by (λ x. x == v) (take i (dealt k xs))) moves
            ∙ picked.before;
      }

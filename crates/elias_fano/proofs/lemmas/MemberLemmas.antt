-- A number is one of the items exactly where the low digits of some item in its bucket are its own.
use Rattle.std.proofs.Common.{◌≡◌, ℕ, ◌*◌, ◌/◌, ◌%◌, ◌^◌, ◌<◌, ◌≤◌, List, length, get_or, sym, ap, ◌∙◌, ⊎_elim, arith}
use Rattle.std.proofs.lemmas.Bool.{cases_lt}
use Rattle.std.proofs.lemmas.List.{get_or_default}
use Rattle.std.proofs.lemmas.Nat.{div-add-mod'}
use Rattle.std.specs.List.{Contains}
use Rattle.elias_fano.proofs.lemmas.BucketLemmas.{fragments-rise, IsBucket}
use Rattle.elias_fano.specs.Buckets.{CountsBelow}
use Rattle.elias_fano.specs.Low.{fragment, Lows}
use Rattle.elias_fano.specs.Parts.{ArePartsOf}

module _ (xs : List ℕ) (n : ℕ) (low : Lows) (upper : List ℕ) (h : ArePartsOf xs n low.width low.words upper) (v first end k : ℕ)
    (b : IsBucket xs low v first end k) where
  -- item i, which is v, stands in the bucket, and not before its low digits part
  module _ (i : ℕ) (inside : i < length xs) (is : get_or xs i 0 ≡ v) where
    upper-is : get_or xs i 0 / 2 ^ low.width ≡ v / 2 ^ low.width
    upper-is = ap (λ x. x / 2 ^ low.width) is

    low-is : fragment low i ≡ v % 2 ^ low.width
    low-is = h.low_is.fragments i inside ∙ ap (λ x. x % 2 ^ low.width) is

    before-end : i < end
    before-end = ⊎_elim (λ less. less) (λ past. absurd (omega (arith, b.ends.above i past inside, upper-is))) (cases_lt i end)

    from-first : first ≤ i
    from-first = ⊎_elim (λ less. absurd (omega (arith, b.begins.below i less, upper-is))) (λ from. from) (cases_lt i first)

    from-parting : k ≤ i
    from-parting = ⊎_elim (λ less. absurd (omega (arith, b.splits.less i from-first less, low-is))) (λ from. from) (cases_lt i k)

  -- where none of its low digits are as great, none is v
  pub none-held : k ≡ end → Contains xs v → ⊥
  none-held last held =
      let is = sym (get_or_default xs held.0 v 0 held.1) ∙ held.2 in
      omega (arith, last, before-end held.0 held.1 is, from-parting held.0 held.1 is)

  -- the first that are as great are those of v, if it is there
  pub low-held : k < end → Contains xs v → fragment low k ≡ v % 2 ^ low.width
  low-held some held =
      let is = sym (get_or_default xs held.0 v 0 held.1) ∙ held.2 in
      let order = from-parting held.0 held.1 is in
      let less = before-end held.0 held.1 is in
      let here : k ≤ k = omega arith in
      omega (
        arith,
        low-is held.0 held.1 is,
        b.splits.at_least k here some,
        fragments-rise xs n low upper h _ _ _ b.begins b.ends k held.0 b.splits.from order less,
      )

  -- and then it is
  pub held-low : k < end → fragment low k ≡ v % 2 ^ low.width → Contains xs v
  held-low some same =
      let inside : k < length xs = omega (arith, b.ends.bound) in
      let uppers : get_or xs k 0 / 2 ^ low.width ≡ v / 2 ^ low.width =
      omega (arith, b.begins.above k b.splits.from inside, b.ends.below k some) in
      let times = ap (λ z. z * 2 ^ low.width) uppers in
      let is : get_or xs k 0 ≡ v =
      omega (
        arith,
        times,
        same,
        h.low_is.fragments k inside,
        div-add-mod' (get_or xs k 0) (2 ^ low.width),
        div-add-mod' v (2 ^ low.width),
      ) in
      (k, inside, get_or_default xs k v 0 inside ∙ is)

-- ---- no item has its upper digits

pub below-held : (xs : List ℕ) (l h v : ℕ) → CountsBelow xs l h (length xs) → h ≡ v / 2 ^ l → Contains xs v → ⊥
below-held xs l h v all same held =
    let is = sym (get_or_default xs held.0 v 0 held.1) ∙ held.2 in
    omega (arith, all.below held.0 held.1, same, ap (λ x. x / 2 ^ l) is)

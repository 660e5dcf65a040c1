-- The start of a bucket as it is found, and the bucket from there.
use Rattle.std.proofs.Common.{◌≡◌, ℕ, ◌+◌, ◌-◌, ◌/◌, ◌^◌, ◌<◌, ◌≤◌, false, Bool, List, length, get_or, sym, ap, ◌∙◌, subst, arith}
use Rattle.bit_lists.proofs.lemmas.BitsLemmas.{length-bits_of}
use Rattle.bit_lists.specs.Bits.{bits_of}
use Rattle.bit_lists.specs.Count.{count_of, Picks}
use Rattle.bitm_select.specs.Answers.{HasBit, IsFoundFrom}
use Rattle.bitm_tables.specs.Entry.{less}
use Rattle.bitm_tables.specs.Tables.{Lists, bits_in}
use Rattle.bitm_tables.specs.declared.answer.Answer.{Answer}
use Rattle.bitm_tables.specs.declared.answer.Answer.TheVariants.{Found, Absent, Wrong}
use Rattle.elias_fano.proofs.lemmas.BucketLemmas.{CountsTo-all, begin-at_most, begin-behind, begin-first, ends-counted, ends-whole}
use Rattle.elias_fano.proofs.lemmas.ItemLemmas.{upper-short}
use Rattle.elias_fano.proofs.lemmas.SizeLemmas.{few_of_some}
use Rattle.elias_fano.specs.Buckets.{BeginsAt, CountsBelow, CountsTo, HasEnds}
use Rattle.elias_fano.specs.Ends.{HoldsHigh}
use Rattle.elias_fano.specs.SequenceParts.{parts_with, Holds}
use Rattle.elias_fano.specs.Low.{Lows}
use Rattle.elias_fano.specs.Parts.{width_of, IsUpper}
use Rattle.elias_fano.specs.Sequence.{largest}

-- ---- where the numbers start with as much above their low digits, and how many have less

-- at the first position, where there is nothing less
pub begin-there : (b : List Bool) (h : ℕ) → h ≡ 0 → BeginsAt b h 0
begin-there b h none =
    let P : ℕ → Type 0 = λ z. BeginsAt b z 0 in
    subst P (sym none) (begin-first b)

-- behind the zero before it
pub begin-next : (a b : List Bool) (h p : ℕ) → a ≡ b → 0 < h → Picks a false (h - 1) p → BeginsAt b h (p + 1)
begin-next a b h p same some zero =
    let P : ℕ → Type 0 = λ z. BeginsAt b z (p + 1) in
    let B : List Bool → Type 0 = λ bits. BeginsAt bits (h - 1 + 1) (p + 1) in
    subst P (omega (arith, some)) (subst B same (begin-behind a (h - 1) p zero))

-- a zero of few words has a position that can be counted on from
pub found-short : (words : List ℕ) (zero : Answer ℕ) → length words < 2 ^ 58 → HasBit (bits_of words) false zero
    → IsFoundFrom 0 (2 ^ 64 - 1) zero
found-short words (Found p) short bit = (omega arith, omega (arith, bit.0, length-bits_of words))
found-short words Absent short bit = tt
found-short words Wrong short bit = tt

-- all have less, where there are too few zeros
pub below-all : (xs : List ℕ) (l : ℕ) (upper : List ℕ) (h : ℕ) (a : List Bool) → IsUpper xs l upper → a ≡ bits_of upper → 0 < h
    → count_of a false ≤ h - 1 → CountsBelow xs l h (length xs)
below-all xs l upper h a is same some few =
    let F : List Bool → Type 0 = λ bits. count_of bits false ≤ h - 1 in
    let to = CountsTo-all xs l upper is (h - 1) (subst F same few) in
    record {
      bound = omega arith;
      below = λ j less. omega (arith, to.below j less);
      above = λ j from inside. absurd (omega arith);
    }

-- one item has at most 1 above its low digits
pub one-alone : (xs : List ℕ) (l z : ℕ) → l ≡ width_of xs → length xs ≡ 1 → 0 < z → CountsTo xs l z (length xs)
one-alone xs l z width one some = record {
  bound = omega arith;
  below = λ j less.
      let last : j ≡ length xs - 1 = omega arith in
      let same : get_or xs j 0 / 2 ^ l ≡ largest xs / 2 ^ width_of xs =
      ap (λ k. get_or xs k 0 / 2 ^ l) last ∙ ap (λ k. largest xs / 2 ^ k) width in
      omega (arith, same, few_of_some (largest xs) (length xs) (omega arith));
  above = λ j from inside. absurd (omega arith);
}

-- ---- the bucket that starts there

pub high : (xs : List ℕ) (n : ℕ) (low : Lows) (lists : Lists) → Holds xs (parts_with n low lists) → HoldsHigh xs n low.width lists
high xs n low lists h = record { upper = h.are.upper_is; tables = h.tables; count = h.are.count; width = h.are.width }

less-is : (p z : ℕ) → z ≤ p → p < 2 ^ 64 → less p z ≡ p - z
less-is p z order fits = omega arith

module _ (xs : List ℕ) (n : ℕ) (low : Lows) (lists : Lists) (h : Holds xs (parts_with n low lists)) (v p w : ℕ) (same : w ≡ low.width)
    (at : BeginsAt (bits_in lists) (v / 2 ^ w) p) where
  here : BeginsAt (bits_in lists) (v / 2 ^ low.width) p
  here =
      let P : ℕ → Type 0 = λ k. BeginsAt (bits_in lists) (v / 2 ^ k) p in
      subst P same at

  fits : p < 2 ^ 64
  fits = omega (arith, here.inside, length-bits_of lists.words, upper-short _ _ _ _ _ h.are)

  first : p - v / 2 ^ low.width ≡ less p (v / 2 ^ w)
  first = sym (less-is p (v / 2 ^ low.width) (begin-at_most _ _ _ here) fits) ∙ ap (λ k. less p (v / 2 ^ k)) (sym same)

  -- without low digits it ends anywhere
  pub whole-ends : w ≡ 0 → HasEnds xs low.width v (less p (v / 2 ^ w)) n
  whole-ends none =
      let F : ℕ → Type 0 = λ k. HasEnds xs low.width v k (length xs) in
      let E : ℕ → Type 0 = λ k. HasEnds xs low.width v (less p (v / 2 ^ w)) k in
      subst E (sym h.are.count) (subst F first (ends-whole xs low.width v lists.words h.are.upper_is p here (omega (arith, same, none))))

  pub counted-ends : (end : ℕ) → CountsTo xs low.width (v / 2 ^ w) end → HasEnds xs low.width v (less p (v / 2 ^ w)) end
  counted-ends end to =
      let F : ℕ → Type 0 = λ k. HasEnds xs low.width v k end in
      let T : ℕ → Type 0 = λ k. CountsTo xs low.width (v / 2 ^ k) end in
      subst F first (ends-counted xs low.width v lists.words h.are.upper_is p here end (subst T same to))

  -- both ends, with low digits and without
  pub both-ends : (end : ℕ) → CountsTo xs low.width (v / 2 ^ w) end
      → CountsBelow xs low.width (v / 2 ^ low.width) (less p (v / 2 ^ w)) × CountsTo xs low.width (v / 2 ^ low.width) end
  both-ends end to =
      let T : ℕ → Type 0 = λ k. CountsTo xs low.width (v / 2 ^ k) end in
      ((counted-ends end to).begins, subst T same to)

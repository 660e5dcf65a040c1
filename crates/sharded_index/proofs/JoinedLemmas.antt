-- Joined bits: each bit vector is a stretch of them, and their numbers are sums.
use Rattle.std.proofs.Common.{◌≡◌, ℕ, zero, suc, ◌+◌, ◌<◌, ◌≤◌, Bool, true, false, not, List, [], ◌∷◌, ◌++◌, length, take, drop, map, cond, count_by, sum, refl, sym, ap, ⊎_elim, ◌∙◌, arith, take_all, length-append, append_assoc}
use Rattle.std.proofs.lemmas.Bool.{cases_lt}
use Rattle.std.proofs.lemmas.List.{take-append-le, take-map}
use Rattle.std.proofs.lemmas.List.Sums.{sum_by-append, sum_by-cons}
use Rattle.std.proofs.Math.Seq.{drop-append_seam, take-append-add, take-append_seam}
use Rattle.bit_lists.specs.Count.{count_before, count_of, ones_before, zeros_before}
use Rattle.bit_lists.specs.StretchLaws.{stretch}
use Rattle.sharded_index.specs.Joined.{count_of_kind, joined, joined_to, shard_at}
use Rattle.sharded_index.specs.declared.counts.Kind.{Kind}
use Rattle.sharded_index.specs.declared.counts.Kind.TheVariants.{Positions, Zeros, Ones}

-- a count before a location of the second of two lists
pub count-append : (a b : List Bool) (v : Bool) (j : ℕ) → count_before (a ++ b) v (length a + j) ≡ count_of a v + count_before b v j
unfolding ones_before zeros_before
count-append a b true j =
    ap (count_by (λ x. x)) (take-append-add a b j)
    ∙ (sum_by-append (λ x. cond x 1 0) a (take j b)
    ∙ ap (λ (l : List Bool). count_by (λ x. x) l + count_by (λ x. x) (take j b)) (sym (take_all (length a) a (omega arith))))
count-append a b false j =
    ap (count_by not) (take-append-add a b j)
    ∙ (sum_by-append (λ x. cond (not x) 1 0) a (take j b)
    ∙ ap (λ (l : List Bool). count_by not l + count_by not (take j b)) (sym (take_all (length a) a (omega arith))))

-- a count before a location of the first of two lists
pub count-append_first : (a b : List Bool) (v : Bool) (i : ℕ) → i ≤ length a → count_before (a ++ b) v i ≡ count_before a v i
unfolding ones_before zeros_before
count-append_first a b true i h = ap (count_by (λ x. x)) (take-append-le i a b h)
count-append_first a b false i h = ap (count_by not) (take-append-le i a b h)

-- all of two lists
pub count_of-append : (a b : List Bool) (v : Bool) → count_of (a ++ b) v ≡ count_of a v + count_of b v
count_of-append a b v = ap (count_before (a ++ b) v) (length-append a b) ∙ count-append a b v (length b)

-- the bit vectors before k, bit vector k and those after it
pub joined_at : (bs : List (List Bool)) (k : ℕ) → k < length bs → joined bs ≡ joined_to bs k ++ (shard_at bs k ++ joined (drop (suc k) bs))
joined_at [] k l = absurd (omega (arith, l))
joined_at (b ∷ bs) zero l = refl
joined_at (b ∷ bs) (suc k) l =
    ap (λ (r : List Bool). b ++ r) (joined_at bs k (omega (arith, l))) ∙ sym (append_assoc b (joined_to bs k) _)

module _ (bs : List (List Bool)) (k : ℕ) (l : k < length bs) where
  abbrev rest : List Bool
  rest = joined (drop (suc k) bs)

  -- bit vector k ends within the joined bits
  pub shard_is_within : length (joined_to bs k) + length (shard_at bs k) ≤ length (joined bs)
  shard_is_within =
      omega (
        arith,
        ap (λ (m : List Bool). length m) (joined_at bs k l),
        length-append (joined_to bs k) (shard_at bs k ++ rest),
        length-append (shard_at bs k) rest,
      )

  -- bit vector k is a stretch of the joined bits
  pub shard_is_stretch : stretch (joined bs) (length (joined_to bs k)) (length (shard_at bs k)) ≡ shard_at bs k
  shard_is_stretch =
      ap (λ (m : List Bool). take (length (shard_at bs k)) (drop (length (joined_to bs k)) m)) (joined_at bs k l)
      ∙ ap (take (length (shard_at bs k))) (drop-append_seam (joined_to bs k) (shard_at bs k ++ rest))
      ∙ take-append_seam (shard_at bs k) rest

  -- the counts up to bit vector k
  pub count_to_shard : (v : Bool) → count_before (joined bs) v (length (joined_to bs k)) ≡ count_of (joined_to bs k) v
  count_to_shard v =
      ap (λ (m : List Bool). count_before m v (length (joined_to bs k))) (joined_at bs k l)
      ∙ count-append_first (joined_to bs k) (shard_at bs k ++ rest) v (length (joined_to bs k)) (omega arith)

-- the number of bits of a kind of two lists
pub number_of-append : (of : Kind) (a b : List Bool) → count_of_kind of (a ++ b) ≡ count_of_kind of a + count_of_kind of b
number_of-append Positions a b = length-append a b
number_of-append Zeros a b = count_of-append a b false
number_of-append Ones a b = count_of-append a b true

pub number_of-nil : (of : Kind) → count_of_kind of [] ≡ 0
unfolding ones_before zeros_before
number_of-nil Positions = refl
number_of-nil Zeros = refl
number_of-nil Ones = refl

-- the number of bits of a kind is the sum of those of each
pub number_of-joined : (of : Kind) (bs : List (List Bool)) → sum (map (count_of_kind of) bs) ≡ count_of_kind of (joined bs)
number_of-joined of [] = sym (number_of-nil of)
number_of-joined of (b ∷ bs) =
    sum_by-cons (λ x. x) (count_of_kind of b) (map (count_of_kind of) bs)
    ∙ ap (λ (n : ℕ). count_of_kind of b + n) (number_of-joined of bs) ∙ sym (number_of-append of b (joined bs))

-- and of the first k
pub number_of-joined_to : (of : Kind) (bs : List (List Bool)) (k : ℕ) → sum (take k (map (count_of_kind of) bs)) ≡ count_of_kind of (joined_to bs k)
number_of-joined_to of bs k = ap (λ (l : List ℕ). sum l) (take-map (count_of_kind of) k bs) ∙ number_of-joined of (take k bs)

-- one more
pub number_of-next : (of : Kind) (bs : List (List Bool)) (k : ℕ) → k < length bs
    → count_of_kind of (joined_to bs (k + 1)) ≡ count_of_kind of (joined_to bs k) + count_of_kind of (shard_at bs k)
number_of-next of [] k l = absurd (omega (arith, l))
number_of-next of (b ∷ bs) zero l = omega (arith, number_of-append of b [], number_of-nil of)
number_of-next of (b ∷ bs) (suc k) l =
    let e : suc k + 1 ≡ suc (k + 1) = omega arith in
    omega (
      arith,
      ap (λ (m : ℕ). count_of_kind of (joined_to (b ∷ bs) m)) e,
      number_of-append of b (joined_to bs (k + 1)),
      number_of-append of b (joined_to bs k),
      number_of-next of bs k (omega (arith, l)),
    )

zero_of : (j : ℕ) → j ≤ 0 → j ≡ 0
zero_of j le = omega (arith, le)

-- the counts do not fall
pub number_of-rises : (of : Kind) (bs : List (List Bool)) (j k : ℕ) → j ≤ k → k ≤ length bs
    → count_of_kind of (joined_to bs j) ≤ count_of_kind of (joined_to bs k)
number_of-rises of bs j zero le l = omega (arith, ap (λ (m : ℕ). count_of_kind of (joined_to bs m)) (zero_of j le))
number_of-rises of bs j (suc k) le l =
    ⊎_elim
    (λ (less : j < suc k).
    let e : k + 1 ≡ suc k = omega arith in
    omega (
      arith,
      number_of-rises of bs j k (omega (arith, less)) (omega (arith, l)),
      number_of-next of bs k (omega (arith, l)),
      ap (λ (m : ℕ). count_of_kind of (joined_to bs m)) e,
    ))
    (λ (least : suc k ≤ j).
    let e : j ≡ suc k = omega (arith, le, least) in
    omega (arith, ap (λ (m : ℕ). count_of_kind of (joined_to bs m)) e))
    (cases_lt j (suc k))

-- The slots of the hashes of one bucket.
use Rattle.std.proofs.Common.{◌≡◌, ◌≢◌, ℕ, suc, ◌+◌, ◌<◌, Bool, false, not, ◌&&◌, List, [], ◌∷◌, length, slice_index, slice_set, eqb, refl, ap, ◌∙◌, ⊎_elim, arith, ◌^◌}
use Rattle.std.specs.List.{count_by}
use Rattle.std.proofs.lemmas.Bool.{cases_eq, eq-eqb, ne_eqb}
use Rattle.std.proofs.lemmas.Grind.{get_or-set_at}
use Rattle.std.proofs.lemmas.List.{get_or-set_other}
use Rattle.perfect_hash.proofs.lemmas.CountingLemmas.{count_by-agree, count_by-cons, count_by-either, count_by-filter, count_by-none}
use Rattle.perfect_hash.specs.Inside.{fraction_below}
use Rattle.hash_buckets.specs.declared.positions.Level.{Level}
use Rattle.hash_buckets.specs.Groups.{bucket_group}
use Rattle.hash_buckets.specs.Positions.{bucket_of, slot_of}
use Rattle.hash_buckets.specs.Seeds.{one_if, count_at, has_slot, AddsBits, AddsSlots}

-- whether a hash has slot q by one seed
abbrev by_seed : Level → ℕ → ℕ → ℕ → ℕ → Bool
by_seed level first seed q h = not (eqb seed 0) && eqb (first + slot_of level seed h) q

-- a hash of the bucket whose seed was 0, and another hash
one-bucket : (level : Level) (seeds : List ℕ) (first b seed q h : ℕ) → b < length seeds → slice_index seeds b ≡ 0
    → one_if (has_slot level (slice_set seeds b seed) first q h)
    ≡ one_if (has_slot level seeds first q h) + one_if (eqb (bucket_of level h) b && by_seed level first seed q h)
one-bucket level seeds first b seed q h inside none =
    let bucket = bucket_of level h in
    let x : ℕ → Bool = λ s. by_seed level first s q h in
    ⊎_elim
    (λ same.
    let old : slice_index seeds bucket ≡ 0 = ap (slice_index seeds) same ∙ none in
    omega (
      arith,
      ap (λ s. one_if (x s)) (get_or-set_at seeds b bucket seed 0 same inside),
      ap (λ s. one_if (x s)) old,
      ap (λ y. one_if (y && x seed)) (eq-eqb bucket b same),
    ))
    (λ other. omega (
      arith,
      ap (λ s. one_if (x s)) (get_or-set_other seeds b bucket seed 0 other),
      ap (λ y. one_if (y && x seed)) (ne_eqb bucket b other),
    ))
    (cases_eq bucket b)

-- how many hashes have slot q once a bucket has its seed
pub slots-more : (level : Level) (seeds : List ℕ) (first b seed q : ℕ) (hashes : List ℕ) → b < length seeds → slice_index seeds b ≡ 0
    → count_by (has_slot level (slice_set seeds b seed) first q) hashes
    ≡ count_by (has_slot level seeds first q) hashes + count_by (by_seed level first seed q) (bucket_group level hashes b)
slots-more level seeds first b seed q hashes inside none =
    omega (
      arith,
      count_by-either (has_slot level (slice_set seeds b seed) first q) (has_slot level seeds first q) (λ h. eqb (bucket_of level h) b && by_seed level first seed q h)
          (λ h. one-bucket level seeds first b seed q h inside none) hashes,
      count_by-filter (by_seed level first seed q) (λ h. eqb (bucket_of level h) b) hashes,
    )

-- a bucket that has a seed then
pub placed-some : (level : Level) (seeds : List ℕ) (first b seed : ℕ) (hashes : List ℕ) (old new : List Bool) → b < length seeds → slice_index seeds b ≡ 0 → seed ≢ 0
    → AddsBits old (count_at level seed first (bucket_group level hashes b)) new
    → AddsSlots level first hashes old seeds new (slice_set seeds b seed)
placed-some level seeds first b seed hashes old new inside none some now q =
    let yes : (h : ℕ) → by_seed level first seed q h ≡ eqb (first + slot_of level seed h) q = λ h. ap (λ y. not y && eqb (first + slot_of level seed h) q) (ne_eqb seed 0 some) in
    omega (
      arith,
      now q,
      slots-more level seeds first b seed q hashes inside none,
      count_by-agree (by_seed level first seed q) (λ h. eqb (first + slot_of level seed h) q) yes (bucket_group level hashes b),
    )

-- a bucket that has none
pub placed-none : (level : Level) (seeds : List ℕ) (first b seed : ℕ) (hashes : List ℕ) (old : List Bool) → b < length seeds → slice_index seeds b ≡ 0 → seed ≡ 0
    → AddsSlots level first hashes old seeds old (slice_set seeds b seed)
placed-none level seeds first b seed hashes old inside none is q =
    let no : (h : ℕ) → by_seed level first seed q h ≡ false = λ h. ap (λ y. not y && eqb (first + slot_of level seed h) q) (eq-eqb seed 0 is) in
    omega (
      arith,
      slots-more level seeds first b seed q hashes inside none,
      count_by-none (by_seed level first seed q) no (bucket_group level hashes b),
    )

-- no bucket has a seed yet
pub placed-start : (level : Level) (seeds : List ℕ) (first : ℕ) (hashes : List ℕ) (used : List Bool) → ((k : ℕ) → slice_index seeds k ≡ 0)
    → AddsBits used (λ q. count_by (has_slot level seeds first q) hashes) used
placed-start level seeds first hashes used zeros q =
    let no : (h : ℕ) → has_slot level seeds first q h ≡ false = λ h. ap (λ s. by_seed level first s q h) (zeros (bucket_of level h)) in
    omega (arith, count_by-none (has_slot level seeds first q) no hashes)

-- one bucket more
pub placed-more : (level : Level) (seeds then : List ℕ) (first : ℕ) (hashes : List ℕ) (old mid new : List Bool)
    → AddsBits old (λ q. count_by (has_slot level seeds first q) hashes) mid → AddsSlots level first hashes mid seeds new then
    → AddsBits old (λ q. count_by (has_slot level then first q) hashes) new
placed-more level seeds then first hashes old mid new before now q = omega (arith, before q, now q)

-- tests that agree at each item count the same
pub agree-at : (p q : ℕ → Bool) (xs : List ℕ) → ((i : ℕ) → i < length xs → p (slice_index xs i) ≡ q (slice_index xs i)) → count_by p xs ≡ count_by q xs
agree-at p q [] each = refl
agree-at p q (x ∷ xs) each =
    omega (arith, count_by-cons p x xs, count_by-cons q x xs, ap one_if (each 0 (omega arith)), agree-at p q xs (λ i less. each (suc i) (omega arith)))

-- a bucket is one of the level
pub bucket_inside : (level : Level) (h : ℕ) → 0 < level.buckets → h < 2 ^ 64 → bucket_of level h < level.buckets
bucket_inside level h some fits = fraction_below h level.buckets fits some

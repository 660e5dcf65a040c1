-- One more level before the others.
use Rattle.std.proofs.Common.{◌≡◌, ℕ, suc, ◌+◌, ◌^◌, ◌<◌, Bool, true, false, not, ◌&&◌, cond, List, [], ◌∷◌, ◌++◌, length, take, drop, slice_index, slice_set, eqb, refl, sym, ap, ◌∙◌, arith, add-one, Fits, w64}
use Rattle.std.specs.Prelude.{Option, Some, map}
use Rattle.std.specs.List.{count_by, filter}
use Rattle.std.proofs.Math.Seq.{drop-append_seam}
use Rattle.std.proofs.lemmas.List.{get_or_append_left}
use Rattle.std.proofs.lemmas.List.Elements.{All-cons}
use Rattle.std.proofs.lemmas.List.Sums.{sum_by-cons}
use Rattle.perfect_hash.specs.Perfect.{is_number}
use Rattle.perfect_hash.proofs.lemmas.CountingLemmas.{count_by-cons, count_by-filter, count_by-none}
use Rattle.hash_buckets.specs.declared.positions.Level.{Level}
use Rattle.hash_buckets.specs.declared.levels.Made.{Made}
use Rattle.hash_buckets.specs.Positions.{bucket_of, next_of, slot_of, IsBucketLevel}
use Rattle.hash_buckets.specs.Numbers.{slot_from}
use Rattle.hash_buckets.specs.Seeds.{one_if, has_slot, next_hashes, AddsBits}
use Rattle.hash_buckets.specs.Building.{count_left, is_none, slots_at, AreMade}
use Rattle.hash_buckets.proofs.lemmas.PlacedLemmas.{bucket_inside}

-- a test that at each item is one of two others, and never both
either-at : (p q r : ℕ → Bool) (xs : List ℕ) → ((i : ℕ) → i < length xs → one_if (p (slice_index xs i)) ≡ one_if (q (slice_index xs i)) + one_if (r (slice_index xs i)))
    → count_by p xs ≡ count_by q xs + count_by r xs
either-at p q r [] each = refl
either-at p q r (x ∷ xs) each =
    omega (arith, count_by-cons p x xs, count_by-cons q x xs, count_by-cons r x xs, each 0 (omega arith), either-at p q r xs (λ i less. each (suc i) (omega arith)))

-- those that pass once they are mapped
count_by-map : (p : ℕ → Bool) (f : ℕ → ℕ) (xs : List ℕ) → count_by p (map f xs) ≡ count_by (λ x. p (f x)) xs
count_by-map p f [] = refl
count_by-map p f (x ∷ xs) =
    omega (arith, count_by-cons p (f x) (map f xs), count_by-cons (λ y. p (f y)) x xs, count_by-map p f xs)

-- a choice by a test
choice : (t : Option ℕ → Bool) (b : Bool) (other : Option ℕ) (w : ℕ)
    → one_if (t (cond b other (Some w))) ≡ one_if (not b && t (Some w)) + one_if (b && t other)
choice t true other w = omega arith
choice t false other w = omega arith

-- the seeds of a level stand before the others
seed-own : (level : Level) (own later : List ℕ) (h : ℕ) → length own ≡ level.buckets → 0 < level.buckets → h < 2 ^ 64
    → slice_index (own ++ later) (bucket_of level h) ≡ slice_index own (bucket_of level h)
seed-own level own later h long some fits =
    get_or_append_left own later 0 (bucket_of level h) (omega (arith, bucket_inside level h some fits, long))

seeds-later : (level : Level) (own later : List ℕ) → length own ≡ level.buckets → drop level.buckets (own ++ later) ≡ later
seeds-later level own later long = ap (λ n. drop n (own ++ later)) (sym long) ∙ drop-append_seam own later

-- what passes of the slots of a level and those after it
pub counts-more : (t : Option ℕ → Bool) (level : Level) (levels : List Level) (own later : List ℕ) (first : ℕ) (hashes : List ℕ)
    → length own ≡ level.buckets → 0 < level.buckets → ((i : ℕ) → Fits w64 (slice_index hashes i))
    → count_by (λ h. t (slot_from (level ∷ levels) (own ++ later) first h)) hashes
    ≡ count_by (λ h. not (eqb (slice_index own (bucket_of level h)) 0) && t (Some (first + slot_of level (slice_index own (bucket_of level h)) h))) hashes
    + count_by (λ h. t (slot_from levels later (first + level.slots) h)) (next_hashes level own hashes)
counts-more t level levels own later first hashes long some fit =
    let seed : ℕ → ℕ = λ h. slice_index own (bucket_of level h) in
    let rest : ℕ → Option ℕ = λ h. slot_from levels later (first + level.slots) h in
    let whole : ℕ → Bool = λ h. t (slot_from (level ∷ levels) (own ++ later) first h) in
    let mine : ℕ → Bool = λ h. not (eqb (seed h) 0) && t (Some (first + slot_of level (seed h) h)) in
    let others : ℕ → Bool = λ h. eqb (seed h) 0 && t (rest (next_of h)) in
    let each : (i : ℕ) → i < length hashes → one_if (whole (slice_index hashes i)) ≡ one_if (mine (slice_index hashes i)) + one_if (others (slice_index hashes i)) =
    λ i less.
    let h = slice_index hashes i in
    ap (λ s. one_if (t (cond (eqb s 0) (slot_from levels (drop level.buckets (own ++ later)) (first + level.slots) (next_of h)) (Some (first + slot_of level s h)))))
    (seed-own level own later h long some (fit i).fits)
    ∙ ap (λ (l : List ℕ). one_if (t (cond (eqb (seed h) 0) (slot_from levels l (first + level.slots) (next_of h)) (Some (first + slot_of level (seed h) h))))) (seeds-later level own later long)
    ∙ choice t (eqb (seed h) 0) (rest (next_of h)) (first + slot_of level (seed h) h) in
    omega (
      arith,
      either-at whole mine others hashes each,
      count_by-filter (λ h. t (rest (next_of h))) (λ h. eqb (seed h) 0) hashes,
      count_by-map (λ h. t (rest h)) next_of (filter (λ h. eqb (seed h) 0) hashes),
    )

-- the bits of the slots of one level more
pub marks-more : (level : Level) (levels : List Level) (own later : List ℕ) (first : ℕ) (hashes left : List ℕ) (old mid new : List Bool)
    → length own ≡ level.buckets → 0 < level.buckets → ((i : ℕ) → Fits w64 (slice_index hashes i)) → left ≡ next_hashes level own hashes
    → AddsBits old (λ q. count_by (has_slot level own first q) hashes) mid
    → AddsBits mid (slots_at levels later (first + level.slots) left) new
    → AddsBits old (slots_at (level ∷ levels) (own ++ later) first hashes) new
marks-more level levels own later first hashes left old mid new long some fit is before after q =
    omega (
      arith,
      before q,
      after q,
      ap (λ (hs : List ℕ). slots_at levels later (first + level.slots) hs q) is,
      counts-more (is_number q) level levels own later first hashes long some fit,
    )

-- the hashes that are left after one level more
pub left-more : (level : Level) (levels : List Level) (own later : List ℕ) (first : ℕ) (hashes left : List ℕ) (n : ℕ)
    → length own ≡ level.buckets → 0 < level.buckets → ((i : ℕ) → Fits w64 (slice_index hashes i)) → left ≡ next_hashes level own hashes
    → n ≡ count_left levels later (first + level.slots) left
    → n ≡ count_left (level ∷ levels) (own ++ later) first hashes
left-more level levels own later first hashes left n long some fit is rest =
    let none : ℕ → Bool = λ h. not (eqb (slice_index own (bucket_of level h)) 0) && false in
    omega (
      arith,
      rest,
      ap (λ (hs : List ℕ). count_left levels later (first + level.slots) hs) is,
      counts-more is_none level levels own later first hashes long some fit,
      count_by-none none (λ h. never (not (eqb (slice_index own (bucket_of level h)) 0))) hashes,
    )
  where
    never : (x : Bool) → (x && false) ≡ false
    never true = refl
    never false = refl

-- no level yet
pub marks-none : (seeds : List ℕ) (first : ℕ) (hashes : List ℕ) (used : List Bool) → AddsBits used (slots_at [] seeds first hashes) used
marks-none seeds first hashes used q = omega (arith, count_by-none (λ (h : ℕ). false) (λ h. refl) hashes)

pub left-none : (seeds : List ℕ) (first : ℕ) (hashes : List ℕ) → length hashes ≡ count_left [] seeds first hashes
left-none seeds first [] = refl
left-none seeds first (x ∷ xs) = omega (arith, count_by-cons (λ (h : ℕ). true) x xs, left-none seeds first xs)

-- the level is the first of those that were made
pub levels-are : (head tail : List Level) (level : Level) (m : ℕ) → length head ≡ 1 → take (m + 1) (slice_set head 0 level ++ tail) ≡ level ∷ take m tail
levels-are [] tail level m long = absurd (omega arith)
levels-are (x ∷ []) tail level m long = ap (λ n. take n (level ∷ tail)) (add-one m)
levels-are (x ∷ y ∷ xs) tail level m long = absurd (omega arith)

pub made-more : (made : Made) (level : Level) (levels : List Level) (first limit : ℕ) → IsBucketLevel level
    → AreMade made (first + level.slots) limit levels
    → AreMade (record { levels = made.levels + 1; seeds = made.seeds + level.buckets; slots = made.slots; left = made.left }) first limit (level ∷ levels)
made-more made level levels first limit is made_are = record {
  each = All-cons IsBucketLevel level levels is made_are.each;
  buckets = omega (arith, sum_by-cons (λ (l : Level). l.buckets) level levels, made_are.buckets);
  slots = omega (arith, sum_by-cons (λ (l : Level). l.slots) level levels, made_are.slots);
  within = made_are.within;
}

-- Levels, seeds and free slots that were built are a hash.
use Rattle.std.proofs.Common.{◌≡◌, ℕ, ◌+◌, ◌-◌, ◌^◌, ◌<◌, ◌≤◌, Bool, false, cond, List, [], ◌∷◌, length, take, drop, slice_index, eqb, refl, sym, ap, ◌∙◌, subst, arith, Fits, w64, Option, Some}
use Rattle.std.specs.List.{count_by, All}
use Rattle.std.proofs.lemmas.List.{drop-take, get_or-take, length-take}
use Rattle.std.proofs.lemmas.List.Elements.{All-get_or, All-tail}
use Rattle.std.proofs.lemmas.List.Sums.{sum_by-cons}
use Rattle.bit_lists.specs.Bits.{item}
use Rattle.bit_lists.specs.Count.{ones_of}
use Rattle.perfect_hash.specs.Perfect.{is_number}
use Rattle.hash_buckets.specs.declared.positions.Level.{Level}
use Rattle.hash_buckets.specs.declared.levels.Made.{Made}
use Rattle.hash_buckets.specs.Positions.{bucket_of, next_of, slot_of, IsBucketLevel}
use Rattle.hash_buckets.specs.Numbers.{buckets_of, slot_from, slots_of}
use Rattle.hash_buckets.specs.Seeds.{one_if, AddsBits}
use Rattle.hash_buckets.specs.Building.{count_left, is_none, slots_at, AreLeft, AreMade, IfEqual, IfLeft, IsBuilt}
use Rattle.hash_buckets.specs.declared.building.BuildError.{BuildError}
use Rattle.hash_buckets.specs.declared.building.BuildError.TheVariants.{Equal, Left}
use Rattle.hash_buckets.specs.Free.{StandForUsed}
use Rattle.hash_buckets.proofs.lemmas.BijectionLemmas.{next_small, numbers_are, ones_few}
use Rattle.hash_buckets.proofs.lemmas.PlacedLemmas.{agree-at, bucket_inside}

-- a look-up reads no seed past those of the levels
pub slot_from-take : (levels : List Level) (seeds : List ℕ) (first h some : ℕ) → All IsBucketLevel levels → h < 2 ^ 64 → buckets_of levels ≤ some
    → slot_from levels (take some seeds) first h ≡ slot_from levels seeds first h
slot_from-take [] seeds first h some each fits enough = refl
slot_from-take (level ∷ levels) seeds first h some each fits enough =
    let b = bucket_of level h in
    let is_level : IsBucketLevel level = All-get_or IsBucketLevel (level ∷ levels) 0 level (omega arith) each in
    let total : buckets_of (level ∷ levels) ≡ level.buckets + buckets_of levels = sum_by-cons (λ (l : Level). l.buckets) level levels in
    let rest = some - level.buckets in
    let inside : b < some = omega (arith, bucket_inside level h is_level.buckets fits, total, enough) in
    let e : some ≡ level.buckets + rest = omega (arith, total, enough) in
    let dropped : drop level.buckets (take some seeds) ≡ take rest (drop level.buckets seeds) =
    ap (λ n. drop level.buckets (take n seeds)) e ∙ drop-take level.buckets rest seeds in
    let f : ℕ → Option ℕ → Option ℕ = λ s o. cond (eqb s 0) o (Some (first + slot_of level s h)) in
    let later : List ℕ → Option ℕ = λ l. slot_from levels l (first + level.slots) (next_of h) in
    ap (λ s. f s (later (drop level.buckets (take some seeds)))) (get_or-take some seeds b 0 inside)
    ∙ ap (λ l. f (slice_index seeds b) (later l)) dropped
    ∙ ap (f (slice_index seeds b)) (slot_from-take levels (drop level.buckets seeds) (first + level.slots) (next_of h) rest (All-tail IsBucketLevel level levels each) (next_small h) (omega (arith, total, enough)))

-- so what is counted is the same
count-take : (t : Option ℕ → Bool) (levels : List Level) (seeds keys : List ℕ) (some : ℕ) → All IsBucketLevel levels → ((i : ℕ) → Fits w64 (slice_index keys i)) → buckets_of levels ≤ some
    → count_by (λ h. t (slot_from levels (take some seeds) 0 h)) keys ≡ count_by (λ h. t (slot_from levels seeds 0 h)) keys
count-take t levels seeds keys some each fit enough =
    agree-at (λ h. t (slot_from levels (take some seeds) 0 h)) (λ h. t (slot_from levels seeds 0 h)) keys
    (λ i less. ap t (slot_from-take levels seeds 0 (slice_index keys i) some each (fit i).fits enough))

-- the bits of the slots of hashes, from bits that are 0
pub counts_are : (levels : List Level) (seeds keys copy : List ℕ) (old used : List Bool) → copy ≡ keys → ((q : ℕ) → item old q ≡ false)
    → AddsBits old (slots_at levels seeds 0 copy) used → (q : ℕ) → one_if (item used q) ≡ slots_at levels seeds 0 keys q
counts_are levels seeds keys copy old used same clear adds q =
    omega (arith, adds q, ap one_if (clear q), ap (λ (hs : List ℕ). slots_at levels seeds 0 hs q) same)

pub few_ones : (levels : List Level) (seeds keys copy : List ℕ) (old used : List Bool) → copy ≡ keys → ((q : ℕ) → item old q ≡ false)
    → AddsBits old (slots_at levels seeds 0 copy) used → ones_of used ≤ length keys
few_ones levels seeds keys copy old used same clear adds =
    ones_few levels seeds used keys (counts_are levels seeds keys copy old used same clear adds)

pub built : (made : Made) (levels : List Level) (seeds free keys copy : List ℕ) (old used : List Bool) (limit : ℕ)
    → AreMade made 0 limit levels → limit < 2 ^ 58 → made.seeds ≤ length seeds
    → copy ≡ keys → ((q : ℕ) → item old q ≡ false) → AddsBits old (slots_at levels seeds 0 copy) used
    → made.left ≡ count_left levels seeds 0 copy → made.left ≡ 0 → ((i : ℕ) → Fits w64 (slice_index keys i)) → 0 < length keys
    → StandForUsed used (length keys) free → length free ≡ made.slots - length keys
    → IsBuilt keys (record { levels = levels; seeds = take made.seeds seeds; free = free; keys = length keys })
built made levels seeds free keys copy old used limit are short room same clear adds left none fit some stand long =
    let enough : buckets_of levels ≤ made.seeds = omega (arith, are.buckets) in
    let all : slots_of levels ≤ length keys + length free = omega (arith, are.slots, long) in
    let counts : (q : ℕ) → one_if (item used q) ≡ slots_at levels (take made.seeds seeds) 0 keys q = λ q.
    counts_are levels seeds keys copy old used same clear adds q ∙ sym (count-take (is_number q) levels seeds keys made.seeds are.each fit enough) in
    let nothing : count_left levels (take made.seeds seeds) 0 keys ≡ 0 =
    count-take is_none levels seeds keys made.seeds are.each fit enough ∙ ap (λ (hs : List ℕ). count_left levels seeds 0 hs) (sym same) ∙ sym left ∙ none in
    record {
      perfect = numbers_are levels (take made.seeds seeds) used keys counts nothing free are.each fit some stand all;
      keys = refl;
      parts_are = record {
        levels_are = record {
          each = are.each;
          seeded = omega (arith, are.buckets, length-take made.seeds seeds, room);
          short = omega (arith, are.slots, are.within, short);
        };
        free_are = record {
          all = all;
          below = stand.below;
        };
        rise = stand.rise;
      };
    }

-- levels that leave some hashes
pub left_so : (made : Made) (levels : List Level) (seeds keys copy : List ℕ) (limit : ℕ) → AreMade made 0 limit levels → copy ≡ keys
    → made.left ≡ count_left levels seeds 0 copy → AreLeft made levels seeds keys
left_so made levels seeds keys copy limit are same left = record {
  each = are.each;
  buckets = are.buckets;
  slots = omega (arith, are.slots);
  left = left ∙ ap (λ (hs : List ℕ). count_left levels seeds 0 hs) same;
}

-- an error that says how far levels were built
pub left_claimed : (error : BuildError) (made : Made) (P : Made → Type 0) (equal : ℕ → ℕ → Type 0) → IfEqual error equal (λ reported. reported ≡ made) → P made → IfLeft error P
left_claimed (Equal i j) made P equal reported holds = tt
left_claimed (Left other) made P equal reported holds = subst P (sym reported) holds

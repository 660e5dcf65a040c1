-- Over levels in which each key has a slot of its own, and a list of free slots, the numbers are one-to-one.
use Rattle.std.proofs.Common.{◌≡◌, ℕ, zero, suc, ◌+◌, ◌-◌, ◌*◌, ◌/◌, ◌%◌, ◌^◌, ◌<◌, ◌≤◌, Bool, true, false, cond, List, [], ◌∷◌, length, drop, slice_index, eqb, refl, sym, ap, ◌∙◌, ⊎_elim, arith, Fits, w64, Option, Some, None}
use Rattle.std.specs.List.{count_by, slice_get, All}
use Rattle.std.specs.Option.{option_map, IfSome}
use Rattle.std.proofs.lemmas.Bool.{cases_eq, cases_lt, eq-eqb, eqb-true, lt-ltb, le-ltb}
use Rattle.std.proofs.lemmas.List.{get_or_past}
use Rattle.std.proofs.lemmas.List.Elements.{All-get_or, All-tail}
use Rattle.std.proofs.lemmas.List.Sums.{sum_by-cons, count_by-le-length}
use Rattle.std.proofs.lemmas.Nat.{xor_lt}
use Rattle.std.proofs.lemmas.Option.{get_or_from_slice_get}
use Rattle.bit_lists.specs.Bits.{item}
use Rattle.bit_lists.specs.Count.{ones_before, ones_of}
use Rattle.bit_lists.proofs.lemmas.CountLemmas.{ones_before_more, ones_before_none}
use Rattle.perfect_hash.specs.Inside.{fraction_below}
use Rattle.perfect_hash.specs.Perfect.{is_number, IsMinimalPerfect}
use Rattle.perfect_hash.specs.Positions.{folded_by, spread}
use Rattle.perfect_hash.proofs.lemmas.CountingLemmas.{counted, one_position}
use Rattle.perfect_hash.proofs.lemmas.PerfectLemmas.{minimal_perfect}
use Rattle.hash_buckets.specs.declared.positions.Level.{Level}
use Rattle.hash_buckets.specs.Positions.{bucket_of, mixed, next_of, slot_of, IsBucketLevel}
use Rattle.hash_buckets.specs.Numbers.{slot_number, bucket_number, slot_from, slots_of}
use Rattle.hash_buckets.specs.Seeds.{one_if}
use Rattle.hash_buckets.specs.Building.{count_left, is_none, slots_at}
use Rattle.hash_buckets.specs.Free.{StandForUsed}
use Rattle.hash_buckets.proofs.lemmas.OnceLemmas.{is_less, less-more, less-zero, at_most_one, count_all, each_once, AloneAt}

-- hashes of the next level are hashes
spread_small : (h level : ℕ) → spread h level < 2 ^ 64
unfolding spread
spread_small h level =
    let start = (h + (level + 1) * 0x9E3779B97F4A7C15 % 2 ^ 64) % 2 ^ 64 in
    let z = folded_by 27 0x94D049BB133111EB (folded_by 30 0xBF58476D1CE4E5B9 start) in
    xor_lt 64 z (z / 2 ^ 31) (omega arith) (omega arith)

pub next_small : (h : ℕ) → next_of h < 2 ^ 64
unfolding next_of
next_small h = spread_small h 0

mixed_small : (seed h : ℕ) → mixed seed h < 2 ^ 64
unfolding mixed
mixed_small seed h = omega arith

-- a slot is one of its level
slot_small : (level : Level) (seed h : ℕ) → IsBucketLevel level → h < 2 ^ 64 → slot_of level seed h < level.slots
unfolding slot_of
slot_small level seed h is fits =
    omega (
      arith,
      fraction_below h (level.slots - level.slice + 1) fits (omega arith),
      fraction_below (mixed seed h) level.slice (mixed_small seed h) is.slice,
      is.slice,
      is.within,
    )

none_some : (p : ℕ) → None ≡ Some p → ⊥
none_some p e = cc

-- and of all levels
below_step : (level : Level) (levels : List Level) (first at p : ℕ) (rest : Option ℕ) (b : Bool) → at < level.slots
    → (rest ≡ Some p → p < first + level.slots + slots_of levels)
    → cond b rest (Some (first + at)) ≡ Some p → p < first + slots_of (level ∷ levels)
below_step level levels first at p rest true inside later e =
    omega (arith, later e, sum_by-cons (λ (l : Level). l.slots) level levels)
below_step level levels first at p rest false inside later e =
    let same : first + at ≡ p = cc in
    omega (arith, same, inside, sum_by-cons (λ (l : Level). l.slots) level levels)

pub slot_below : (levels : List Level) (seeds : List ℕ) (first h p : ℕ) → All IsBucketLevel levels → h < 2 ^ 64 → slot_from levels seeds first h ≡ Some p
    → p < first + slots_of levels
slot_below [] seeds first h p each fits is = absurd (none_some p is)
slot_below (level ∷ levels) seeds first h p each fits is =
    let seed = slice_index seeds (bucket_of level h) in
    let is_level : IsBucketLevel level = All-get_or IsBucketLevel (level ∷ levels) 0 level (omega arith) each in
    below_step level levels first (slot_of level seed h) p (slot_from levels (drop level.buckets seeds) (first + level.slots) (next_of h)) (eqb seed 0)
    (slot_small level seed h is_level fits)
    (λ e. slot_below levels (drop level.buckets seeds) (first + level.slots) (next_of h) p (All-tail IsBucketLevel level levels each) (next_small h) e)
    is

one_true : (b : Bool) → 1 ≤ one_if b → b ≡ true
one_true true some = refl
one_true false some = absurd (omega arith)

one_few : (b : Bool) → one_if b ≤ 1
one_few true = omega arith
one_few false = omega arith

-- the number at a slot below n, and from n on
low_is : (n : ℕ) (free : List ℕ) (p : ℕ) → p < n → slot_number n free p ≡ p
low_is n free p low = ap (λ (b : Bool). cond b p (slice_index free (p - n))) (lt-ltb p n low)

high_is : (n : ℕ) (free : List ℕ) (p : ℕ) → n ≤ p → slot_number n free p ≡ slice_index free (p - n)
high_is n free p high = ap (λ (b : Bool). cond b p (slice_index free (p - n))) (le-ltb p n high)

-- each number is below n
below_n : (n : ℕ) (free : List ℕ) (p : ℕ) → 0 < n → All (λ slot. slot < n) free → slot_number n free p < n
below_n n free p some below =
    ⊎_elim
    (λ low. omega (arith, low_is n free p low, low))
    (λ high. ⊎_elim
    (λ inside. omega (arith, high_is n free p high, All-get_or (λ slot. slot < n) free (p - n) 0 inside below))
    (λ past. omega (arith, high_is n free p high, get_or_past free (p - n) 0 past, some))
    (cases_lt (p - n) (length free)))
    (cases_lt p n)

differ : (x : Bool) → x ≡ false → x ≡ true → ⊥
differ x is_no is_yes = false_true (sym is_no ∙ is_yes)
  where
    false_true : false ≡ true → ⊥
    false_true h = cc

module _ (n : ℕ) (free : List ℕ) (used : List Bool) (stand : StandForUsed used n free) where
  back : (p : ℕ) → n ≤ p → item used p ≡ true → item used (n + (p - n)) ≡ true
  back p high is =
      let e : n + (p - n) ≡ p = omega arith in
      ap (item used) e ∙ is

  -- a used slot below n is no free slot
  low_high : (p q : ℕ) → p < n → n ≤ q → q < n + length free → item used p ≡ true → item used q ≡ true → slot_number n free p ≡ slot_number n free q → ⊥
  low_high p q low high inside used_p used_q same =
      let p_is : slice_index free (q - n) ≡ p = sym (high_is n free q high) ∙ sym same ∙ low_is n free p low in
      differ (item used p) (ap (item used) (sym p_is) ∙ stand.clear (q - n) (omega arith) (back q high used_q)) used_p

  high_high : (p q : ℕ) → n ≤ p → n ≤ q → p < n + length free → q < n + length free → item used p ≡ true → item used q ≡ true
      → slot_number n free p ≡ slot_number n free q → p ≡ q
  high_high p q high_p high_q inside_p inside_q used_p used_q same =
      let e : slice_index free (p - n) ≡ slice_index free (q - n) = sym (high_is n free p high_p) ∙ same ∙ high_is n free q high_q in
      ⊎_elim
      (λ before. absurd (omega (arith, e, stand.apart (p - n) (q - n) before (omega arith) (back p high_p used_p) (back q high_q used_q))))
      (λ after. ⊎_elim
      (λ same_position. omega (arith, same_position))
      (λ other. absurd (omega (arith, e, stand.apart (q - n) (p - n) (omega arith) (omega arith) (back q high_q used_q) (back p high_p used_p))))
      (cases_eq (p - n) (q - n)))
      (cases_lt (p - n) (q - n))

  -- numbers at used slots are those of one slot
  pub one_slot : (p q : ℕ) → p < n + length free → q < n + length free → item used p ≡ true → item used q ≡ true
      → slot_number n free p ≡ slot_number n free q → p ≡ q
  one_slot p q inside_p inside_q used_p used_q same =
      ⊎_elim
      (λ low_p. ⊎_elim
      (λ low_q. sym (low_is n free p low_p) ∙ same ∙ low_is n free q low_q)
      (λ high_q. absurd (low_high p q low_p high_q inside_q used_p used_q same))
      (cases_lt q n))
      (λ high_p. ⊎_elim
      (λ low_q. absurd (low_high q p low_q high_p inside_p used_q used_p (sym same)))
      (λ high_q. high_high p q high_p high_q inside_p inside_q used_p used_q same)
      (cases_lt q n))
      (cases_lt p n)

module _ (levels : List Level) (seeds : List ℕ) (used : List Bool) (keys : List ℕ) (counts : (q : ℕ) → one_if (item used q) ≡ slots_at levels seeds 0 keys q) where
  abbrev slot : ℕ → Option ℕ
  slot = slot_from levels seeds 0

  ones_are : (m : ℕ) → m ≤ length used → ones_before used m ≡ count_by (λ k. is_less m (slot k)) keys
  ones_are zero inside = omega (arith, ones_before_none used, less-zero slot keys)
  ones_are (suc m) inside =
      let e : suc m ≡ m + 1 = omega arith in
      omega (arith, ap (ones_before used) e, ones_before_more used m inside, counts m, ones_are m (omega arith), less-more slot keys m)

  -- no more bits are 1 than there are keys
  pub ones_few : ones_of used ≤ length keys
  ones_few = omega (arith, ones_are (length used) (omega arith), count_by-le-length (λ k. is_less (length used) (slot k)) keys)

  -- the bit of a key's slot is 1
  used_at : (i x p : ℕ) → slice_get keys i ≡ Some x → slot x ≡ Some p → item used p ≡ true
  used_at i x p at is =
      one_true (item used p) (omega (arith, counts p, counted (λ k. is_number p (slot k)) keys i x at (ap (is_number p) is ∙ eq-eqb p p refl)))

  -- and no other key's
  same_slot : (i j x y p : ℕ) → slice_get keys i ≡ Some x → slice_get keys j ≡ Some y → slot x ≡ Some p → slot y ≡ Some p → i ≡ j
  same_slot i j x y p at_i at_j is_x is_y =
      let pass_x = ap (is_number p) is_x ∙ eq-eqb p p refl in
      let pass_y = ap (is_number p) is_y ∙ eq-eqb p p refl in
      let once : count_by (λ k. is_number p (slot k)) keys ≡ 1 =
      omega (arith, counts p, one_few (item used p), counted (λ k. is_number p (slot k)) keys i x at_i pass_x) in
      one_position (λ k. is_number p (slot k)) keys i j x y once at_i pass_x at_j pass_y

  module _ (none : count_left levels seeds 0 keys ≡ 0) where
    slot_is : (i x : ℕ) → slice_get keys i ≡ Some x → (o : Option ℕ) → slot x ≡ o → (p : ℕ) × (slot x ≡ Some p)
    slot_is i x at None is = absurd (omega (arith, none, counted (λ k. is_none (slot k)) keys i x at (ap is_none is)))
    slot_is i x at (Some p) is = (p, is)

    module _ (free : List ℕ) (each : All IsBucketLevel levels) (fit : (i : ℕ) → Fits w64 (slice_index keys i)) (some : 0 < length keys)
        (stand : StandForUsed used (length keys) free) (all : slots_of levels ≤ length keys + length free) where
      abbrev number : ℕ → Option ℕ
      number = bucket_number levels seeds (length keys) free

      number_is : (x p : ℕ) → slot x ≡ Some p → number x ≡ Some (slot_number (length keys) free p)
      number_is x p is = ap (option_map (slot_number (length keys) free)) is

      inside : (i x p : ℕ) → slice_get keys i ≡ Some x → slot x ≡ Some p → p < length keys + length free
      inside i x p at is =
          let x_is = get_or_from_slice_get keys i x 0 at in
          omega (arith, all, slot_below levels seeds 0 x p each (omega (arith, x_is, (fit i).fits)) is)

      bounded : (o : Option ℕ) → IfSome (option_map (slot_number (length keys) free) o) (λ v. v < length keys)
      bounded None = tt
      bounded (Some p) = below_n (length keys) free p some stand.below

      value : (v x p : ℕ) → slot x ≡ Some p → is_number v (number x) ≡ true → slot_number (length keys) free p ≡ v
      value v x p is pass = eqb-true (slot_number (length keys) free p) v (sym (ap (is_number v) (number_is x p is)) ∙ pass)

      alone : (v : ℕ) → AloneAt (λ k. is_number v (number k)) keys
      alone v i j x y at_i at_j pass_x pass_y =
          let s = slot_is i x at_i (slot x) refl in
          let t = slot_is j y at_j (slot y) refl in
          let same : slot_number (length keys) free s.0 ≡ slot_number (length keys) free t.0 = value v x s.0 s.1 pass_x ∙ sym (value v y t.0 t.1 pass_y) in
          let one : s.0 ≡ t.0 =
          one_slot (length keys) free used stand s.0 t.0 (inside i x s.0 at_i s.1) (inside j y t.0 at_j t.1) (used_at i x s.0 at_i s.1) (used_at j y t.0 at_j t.1) same in
          same_slot i j x y t.0 at_i at_j (s.1 ∙ ap Some one) t.1

      all_less : (i x : ℕ) → slice_get keys i ≡ Some x → is_less (length keys) (number x) ≡ true
      all_less i x at =
          let s = slot_is i x at (slot x) refl in
          ap (is_less (length keys)) (number_is x s.0 s.1) ∙ lt-ltb (slot_number (length keys) free s.0) (length keys) (below_n (length keys) free s.0 some stand.below)

      -- each key has a number of its own below their count
      pub numbers_are : IsMinimalPerfect number keys
      numbers_are =
          minimal_perfect number keys (λ k. bounded (slot k))
          (each_once number keys (λ v. at_most_one (λ k. is_number v (number k)) keys (alone v)) (length keys) (count_all (λ k. is_less (length keys) (number k)) keys all_less))

-- A look-up goes on from level to level.
use Rattle.std.proofs.Common.{◌≡◌, ℕ, zero, suc, ◌+◌, ◌^◌, ◌<◌, ◌≤◌, Bool, cond, List, [], ◌∷◌, length, take, drop, get_or, slice_index, eqb, refl, sym, ap, ◌∙◌, subst, arith, drop-cons}
use Rattle.std.specs.Prelude.{Some, None}
use Rattle.std.proofs.lemmas.Bool.{eq-eqb, ne_eqb}
use Rattle.std.proofs.lemmas.List.{drop-drop, get_or-drop}
use Rattle.std.proofs.lemmas.List.Sums.{sum_by_more, sum_by_more_le}
use Rattle.hash_buckets.specs.declared.positions.Level.{Level}
use Rattle.hash_buckets.specs.Positions.{bucket_of, next_of, slot_of, IsBucketLevel}
use Rattle.hash_buckets.specs.Numbers.{buckets_of, slots_of, slot_from, AreBucketLevels}

-- no level
abbrev pub none_at : Level
none_at = record { buckets = 0; slots = 0; slice = 0 }

-- the look-up has come to level i, whose seeds begin at item `begin` and whose slots at number `first`
pub record GoesOn (levels : List Level) (seeds : List ℕ) (hash i begin first h : ℕ) : Type 0 where
  pub begins : begin ≡ buckets_of (take i levels)
  pub firsts : first ≡ slots_of (take i levels)
  pub inside : begin ≤ length seeds
  pub short : first < 2 ^ 58
  pub rest : slot_from levels seeds 0 hash ≡ slot_from (drop i levels) (drop begin seeds) first h

-- the rest of a look-up, by its first level
pub rest_is : (levels : List Level) (seeds : List ℕ) (i begin first h : ℕ) → i < length levels
    → slot_from (drop i levels) (drop begin seeds) first h
    ≡ cond (eqb (slice_index seeds (begin + bucket_of (get_or levels i none_at) h)) 0)
    (slot_from (drop (suc i) levels) (drop (begin + (get_or levels i none_at).buckets) seeds) (first + (get_or levels i none_at).slots) (next_of h))
    (Some (first + slot_of (get_or levels i none_at) (slice_index seeds (begin + bucket_of (get_or levels i none_at) h)) h))
rest_is levels seeds i begin first h less =
    let level = get_or levels i none_at in
    let seed : slice_index (drop begin seeds) (bucket_of level h) ≡ slice_index seeds (begin + bucket_of level h) = get_or-drop begin seeds (bucket_of level h) 0 in
    let dropped : drop level.buckets (drop begin seeds) ≡ drop (begin + level.buckets) seeds = drop-drop level.buckets begin seeds in
    ap (λ (l : List Level). slot_from l (drop begin seeds) first h) (drop-cons levels i none_at less)
    ∙ ap (λ (s : ℕ). cond (eqb s 0) (slot_from (drop (suc i) levels) (drop level.buckets (drop begin seeds)) (first + level.slots) (next_of h)) (Some (first + slot_of level s h))) seed
    ∙ ap (λ (t : List ℕ). cond (eqb (slice_index seeds (begin + bucket_of level h)) 0) (slot_from (drop (suc i) levels) t (first + level.slots) (next_of h)) (Some (first + slot_of level (slice_index seeds (begin + bucket_of level h)) h))) dropped

-- a seed that is not 0 says the slot
pub found_at : (levels : List Level) (seeds : List ℕ) (hash i begin first h : ℕ) → GoesOn levels seeds hash i begin first h → i < length levels
    → (slice_index seeds (begin + bucket_of (get_or levels i none_at) h) ≡ 0 → ⊥)
    → slot_from levels seeds 0 hash ≡ Some (first + slot_of (get_or levels i none_at) (slice_index seeds (begin + bucket_of (get_or levels i none_at) h)) h)
found_at levels seeds hash i begin first h on less some =
    let level = get_or levels i none_at in
    let seed = slice_index seeds (begin + bucket_of level h) in
    on.rest ∙ rest_is levels seeds i begin first h less
    ∙ ap (λ (b : Bool). cond b (slot_from (drop (suc i) levels) (drop (begin + level.buckets) seeds) (first + level.slots) (next_of h)) (Some (first + slot_of level seed h))) (ne_eqb seed 0 some)

-- seed 0 sends on
pub goes_on : (levels : List Level) (seeds : List ℕ) (hash i begin first h : ℕ) → GoesOn levels seeds hash i begin first h → i < length levels
    → slice_index seeds (begin + bucket_of (get_or levels i none_at) h) ≡ 0
    → begin + (get_or levels i none_at).buckets ≤ length seeds → first + (get_or levels i none_at).slots < 2 ^ 58
    → GoesOn levels seeds hash (i + 1) (begin + (get_or levels i none_at).buckets) (first + (get_or levels i none_at).slots) (next_of h)
goes_on levels seeds hash i begin first h on less none inside short =
    let level = get_or levels i none_at in
    let seed = slice_index seeds (begin + bucket_of level h) in
    let on_to : (j : ℕ) → j ≡ i + 1 → suc i ≡ j = λ j is. omega (arith, is) in
    record {
      begins = ap (λ n. n + level.buckets) on.begins ∙ sym (sum_by_more (λ l. l.buckets) levels i none_at less);
      firsts = ap (λ n. n + level.slots) on.firsts ∙ sym (sum_by_more (λ l. l.slots) levels i none_at less);
      inside = inside;
      short = short;
      rest = on.rest ∙ rest_is levels seeds i begin first h less
          ∙ ap (λ (b : Bool). cond b (slot_from (drop (suc i) levels) (drop (begin + level.buckets) seeds) (first + level.slots) (next_of h)) (Some (first + slot_of level seed h))) (eq-eqb seed 0 none)
          ∙ ap (λ (j : ℕ). slot_from (drop j levels) (drop (begin + level.buckets) seeds) (first + level.slots) (next_of h)) (on_to (i + 1) refl);
    }

-- past the last level there is no slot
pub none_left : (levels : List Level) (seeds : List ℕ) (hash i begin first h : ℕ) → GoesOn levels seeds hash i begin first h → length levels ≤ i
    → slot_from levels seeds 0 hash ≡ None
none_left levels seeds hash i begin first h on all =
    on.rest ∙ ap (λ (l : List Level). slot_from l (drop begin seeds) first h) (all_dropped i levels all)
  where
    all_dropped : (n : ℕ) (l : List Level) → length l ≤ n → drop n l ≡ []
    all_dropped zero [] all = refl
    all_dropped (suc n) [] all = refl
    all_dropped zero (x ∷ l) all = absurd (omega arith)
    all_dropped (suc n) (x ∷ l) all = all_dropped n l (omega arith)

-- each level of right parts fits
pub level_fits : (levels : List Level) (seeds : List ℕ) (hash i begin first h : ℕ) → GoesOn levels seeds hash i begin first h → i < length levels
    → AreBucketLevels levels (length seeds)
    → begin + (get_or levels i none_at).buckets ≤ length seeds
level_fits levels seeds hash i begin first h on less are =
    omega (arith, on.begins, are.seeded, sum_by_more_le (λ l. l.buckets) levels i none_at less)

pub slots_fit : (levels : List Level) (seeds : List ℕ) (hash i begin first h : ℕ) → GoesOn levels seeds hash i begin first h → i < length levels
    → AreBucketLevels levels (length seeds)
    → first + (get_or levels i none_at).slots < 2 ^ 58
slots_fit levels seeds hash i begin first h on less are =
    omega (arith, on.firsts, are.short, sum_by_more_le (λ l. l.slots) levels i none_at less)

pub starts : (levels : List Level) (seeds : List ℕ) (hash : ℕ) → GoesOn levels seeds hash 0 0 0 hash
starts levels seeds hash = record {
  begins = refl;
  firsts = refl;
  inside = omega arith;
  short = omega arith;
  rest = refl;
}

-- the same, where the bucket and the slot were computed
pub found_by : (levels : List Level) (seeds : List ℕ) (hash i begin first h b p : ℕ) → GoesOn levels seeds hash i begin first h → i < length levels
    → b ≡ bucket_of (get_or levels i none_at) h → (slice_index seeds (begin + b) ≡ 0 → ⊥)
    → p ≡ slot_of (get_or levels i none_at) (slice_index seeds (begin + b)) h
    → slot_from levels seeds 0 hash ≡ Some (first + p)
found_by levels seeds hash i begin first h b p on less bucket some slot =
    let level = get_or levels i none_at in
    let seed = ap (λ n. slice_index seeds (begin + n)) bucket in
    found_at levels seeds hash i begin first h on less (λ none. some (seed ∙ none))
    ∙ ap (λ s. Some (first + slot_of level s h)) (sym seed) ∙ ap (λ s. Some (first + s)) (sym slot)

pub goes_by : (levels : List Level) (seeds : List ℕ) (hash i begin first h b n : ℕ) → GoesOn levels seeds hash i begin first h → i < length levels
    → b ≡ bucket_of (get_or levels i none_at) h → slice_index seeds (begin + b) ≡ 0 → n ≡ next_of h
    → begin + (get_or levels i none_at).buckets ≤ length seeds → first + (get_or levels i none_at).slots < 2 ^ 58
    → GoesOn levels seeds hash (i + 1) (begin + (get_or levels i none_at).buckets) (first + (get_or levels i none_at).slots) n
goes_by levels seeds hash i begin first h b n on less bucket none is inside short =
    let level = get_or levels i none_at in
    let P : ℕ → Type 0 = λ m. GoesOn levels seeds hash (i + 1) (begin + level.buckets) (first + level.slots) m in
    subst P (sym is) (goes_on levels seeds hash i begin first h on less (sym (ap (λ m. slice_index seeds (begin + m)) bucket) ∙ none) inside short)

-- a slot of a level is one of all slots
pub slot_inside : (levels : List Level) (seeds : List ℕ) (hash i begin first h p : ℕ) → GoesOn levels seeds hash i begin first h → i < length levels
    → p < (get_or levels i none_at).slots → first + p < slots_of levels
slot_inside levels seeds hash i begin first h p on less inside =
    omega (arith, on.firsts, inside, sum_by_more_le (λ l. l.slots) levels i none_at less)

-- the first i levels are levels, which have a number of buckets and of slots
pub record AreSoFar (levels : List Level) (seeds i begin first : ℕ) : Type 0 where
  pub each : (k : ℕ) → k < i → IsBucketLevel (get_or levels k none_at)
  pub begins : begin ≡ buckets_of (take i levels)
  pub firsts : first ≡ slots_of (take i levels)
  pub inside : begin ≤ seeds
  pub short : first < 2 ^ 58

-- Look-ups side by side, and lists that are written block after block.
use Rattle.std.proofs.Common.{◌≡◌, ◌≢◌, ℕ, ◌+◌, ◌-◌, ◌*◌, ◌%◌, ◌^◌, ◌<◌, ◌≤◌, ◌⊎◌, Bool, List, length, slice_index, slice_set, Option, Some, None, refl, sym, ap, ◌∙◌, subst, arith, inl, inr}
use Rattle.std.proofs.Math.Nat.{mul-le-mul_left}
use Rattle.std.proofs.lemmas.Bool.{cases_eq, cases_lt}
use Rattle.std.proofs.lemmas.List.{drop_all, get_or-set_other, get_or-set_same, length-set}
use Rattle.std.specs.List.{sum}
use Rattle.std.specs.Option.{option_map, IfSome}
use Rattle.bit_lists.specs.Count.{ones_before}
use Rattle.bitm_tables.specs.Reads.{OnlyReads}
use Rattle.bitm_tables.specs.Tables.{Lists}
use Rattle.bitm_tables.specs.declared.source.counts.ReadCounts.{ReadCounts}
use Rattle.perfect_hash.specs.Levels.{position_from, GoesOn}
use Rattle.perfect_hash.specs.Many.{number_code, AreLookedUp, IsLookedUp, IsNumberOfPosition}
use Rattle.perfect_hash.specs.Numbers.{number_in, AreSizes}
use Rattle.perfect_hash.proofs.lemmas.NumberLemmas.{IsOneBefore, position_from-one}
use Rattle.perfect_hash.proofs.lemmas.LevelLemmas.{FallsInside}

-- at a level, of the first `count` that wait those before i are looked up, and those of them that go on are the first `kept`
pub record Midway (fall : ℕ → ℕ → ℕ → ℕ) (b : List Bool) (sizes : List ℕ) (level begin next : ℕ) (hashes positions waiting : List ℕ) (kept i count : ℕ) : Type 0 where
  pub order : kept ≤ i
  pub most : i ≤ count
  pub room : count ≤ length waiting
  pub inside : (a : ℕ) → a < kept → slice_index waiting a < length hashes
  pub inside_rest : (a : ℕ) → i ≤ a → a < count → slice_index waiting a < length hashes
  pub go_on : (a : ℕ) → a < kept → GoesOn (fall (slice_index hashes (slice_index waiting a))) b sizes (level + 1) next
  pub rest : (a : ℕ) → i ≤ a → a < count → GoesOn (fall (slice_index hashes (slice_index waiting a))) b sizes level begin
  pub found : (k : ℕ) → k < length hashes → slice_index positions k ≢ 2 ^ 64 - 1
      → position_from (fall (slice_index hashes k)) b 0 0 sizes ≡ Some (slice_index positions k)
  pub wait : (k : ℕ) → k < length hashes → slice_index positions k ≡ 2 ^ 64 - 1
      → ((a : ℕ) × (a < kept) × (slice_index waiting a ≡ k)) ⊎ ((a : ℕ) × (i ≤ a) × (a < count) × (slice_index waiting a ≡ k))

-- one of those that wait is looked up
module _ (fall : ℕ → ℕ → ℕ → ℕ) (b : List Bool) (sizes : List ℕ) (level begin next : ℕ) (hashes positions waiting : List ℕ) (kept i count position : ℕ)
    (h : Midway fall b sizes level begin next hashes positions waiting kept i count) (less : i < count) (long : length positions ≡ length hashes)
    (is : IsLookedUp (fall (slice_index hashes (slice_index waiting i))) b sizes (level + 1) next position) where
  at : ℕ
  at = slice_index waiting i

  at_inside : slice_index waiting i < length positions
  at_inside = omega (arith, h.inside_rest i (omega arith) less, long)

  kept_inside : kept < length waiting
  kept_inside = omega (arith, h.order, less, h.room)

  -- those behind stay
  behind : (a : ℕ) → i + 1 ≤ a → slice_index (slice_set waiting kept (slice_index waiting i)) a ≡ slice_index waiting a
  behind a after = get_or-set_other waiting kept a (slice_index waiting i) 0 (λ e. omega (arith, e, after, h.order))

  -- those in front stay, and the one that was looked up follows
  front : (a : ℕ) → a < kept → slice_index (slice_set waiting kept (slice_index waiting i)) a ≡ slice_index waiting a
  front a below = get_or-set_other waiting kept a (slice_index waiting i) 0 (λ e. omega (arith, e, below))

  here : slice_index (slice_set waiting kept (slice_index waiting i)) kept ≡ slice_index waiting i
  here = get_or-set_same waiting kept (slice_index waiting i) 0 kept_inside

  -- the others stay where they were
  other_wait : (k : ℕ) (kept' : ℕ) → kept ≤ kept' → k ≢ slice_index waiting i
      → ((a : ℕ) × (a < kept) × (slice_index waiting a ≡ k)) ⊎ ((a : ℕ) × (i ≤ a) × (a < count) × (slice_index waiting a ≡ k))
      → ((a : ℕ) × (a < kept') × (slice_index (slice_set waiting kept (slice_index waiting i)) a ≡ k))
      ⊎ ((a : ℕ) × (i + 1 ≤ a) × (a < count) × (slice_index (slice_set waiting kept (slice_index waiting i)) a ≡ k))
  other_wait k kept' more not w =
      elim w [
        | inl v ↦ inl (v.0, omega (arith, v.1, more), front v.0 v.1 ∙ v.2)
        | inr v ↦
            elim (cases_lt i v.0) [
              | inl after ↦ inr (v.0, omega (arith, after), v.2, behind v.0 (omega (arith, after)) ∙ v.3)
              | inr before ↦
                  let e : i ≡ v.0 = omega (arith, before, v.1) in
                  absurd (not (sym (ap (slice_index waiting) e ∙ v.3)))
            ]
      ]

  found_then : (k : ℕ) → k < length hashes → slice_index (slice_set positions (slice_index waiting i) position) k ≢ 2 ^ 64 - 1
      → position_from (fall (slice_index hashes k)) b 0 0 sizes ≡ Some (slice_index (slice_set positions (slice_index waiting i) position) k)
  found_then k low some =
      elim (cases_eq k (slice_index waiting i)) [
        | inl e ↦
            let now : slice_index (slice_set positions (slice_index waiting i) position) k ≡ position =
            ap (slice_index (slice_set positions (slice_index waiting i) position)) e
            ∙ get_or-set_same positions (slice_index waiting i) position 0 at_inside in
            ap (λ (j : ℕ). position_from (fall (slice_index hashes j)) b 0 0 sizes) e
            ∙ is.found (λ none. some (now ∙ none)) ∙ ap Some (sym now)
        | inr not ↦
            let now = get_or-set_other positions (slice_index waiting i) k position 0 not in
            h.found k low (λ none. some (now ∙ none)) ∙ ap Some (sym now)
      ]

  still : (k : ℕ) → k ≢ slice_index waiting i → slice_index (slice_set positions (slice_index waiting i) position) k ≡ 2 ^ 64 - 1
      → slice_index positions k ≡ 2 ^ 64 - 1
  still k not none = sym (get_or-set_other positions (slice_index waiting i) k position 0 not) ∙ none

  -- where it goes on
  pub Midway-on : position ≡ 2 ^ 64 - 1
      → Midway fall b sizes level begin next hashes (slice_set positions (slice_index waiting i) position)
      (slice_set waiting kept (slice_index waiting i)) (kept + 1) (i + 1) count
  Midway-on none = record {
    order = omega (arith, h.order);
    most = omega (arith, less);
    room = omega (arith, h.room, length-set waiting kept (slice_index waiting i));
    inside = λ a low.
        elim (cases_lt a kept) [
          | inl below ↦ omega (arith, front a below, h.inside a below)
          | inr over ↦
              let e : kept ≡ a = omega (arith, over, low) in
              subst (λ (j : ℕ). slice_index (slice_set waiting kept (slice_index waiting i)) j < length hashes) e
              (omega (arith, here, h.inside_rest i (omega arith) less))
        ];
    inside_rest = λ a after low. omega (arith, behind a after, h.inside_rest a (omega (arith, after)) low);
    go_on = λ a low.
        elim (cases_lt a kept) [
          | inl below ↦
              subst (λ (j : ℕ). GoesOn (fall (slice_index hashes j)) b sizes (level + 1) next) (sym (front a below)) (h.go_on a below)
          | inr over ↦
              let e : kept ≡ a = omega (arith, over, low) in
              subst (λ (j : ℕ). GoesOn (fall (slice_index hashes (slice_index (slice_set waiting kept (slice_index waiting i)) j))) b sizes (level + 1) next) e
              (subst (λ (j : ℕ). GoesOn (fall (slice_index hashes j)) b sizes (level + 1) next) (sym here) (is.goes_on none))
        ];
    rest = λ a after low.
        subst (λ (j : ℕ). GoesOn (fall (slice_index hashes j)) b sizes level begin) (sym (behind a after)) (h.rest a (omega (arith, after)) low);
    found = found_then;
    wait = λ k low then.
        elim (cases_eq k (slice_index waiting i)) [
          | inl e ↦ inl (kept, omega arith, here ∙ sym e)
          | inr not ↦ other_wait k (kept + 1) (omega arith) not (h.wait k low (still k not then))
        ];
  }

  -- where it was found
  pub Midway-found : position ≢ 2 ^ 64 - 1
      → Midway fall b sizes level begin next hashes (slice_set positions (slice_index waiting i) position)
      (slice_set waiting kept (slice_index waiting i)) kept (i + 1) count
  Midway-found some = record {
    order = omega (arith, h.order);
    most = omega (arith, less);
    room = omega (arith, h.room, length-set waiting kept (slice_index waiting i));
    inside = λ a below. omega (arith, front a below, h.inside a below);
    inside_rest = λ a after low. omega (arith, behind a after, h.inside_rest a (omega (arith, after)) low);
    go_on = λ a below.
        subst (λ (j : ℕ). GoesOn (fall (slice_index hashes j)) b sizes (level + 1) next) (sym (front a below)) (h.go_on a below);
    rest = λ a after low.
        subst (λ (j : ℕ). GoesOn (fall (slice_index hashes j)) b sizes level begin) (sym (behind a after)) (h.rest a (omega (arith, after)) low);
    found = found_then;
    wait = λ k low then.
        elim (cases_eq k (slice_index waiting i)) [
          | inl e ↦
              absurd (some (sym (ap (slice_index (slice_set positions (slice_index waiting i) position)) e
              ∙ get_or-set_same positions (slice_index waiting i) position 0 at_inside) ∙ then))
          | inr not ↦ other_wait k kept (omega arith) not (h.wait k low (still k not then))
        ];
  }

-- no answer stands anywhere once it does in each second position from either on
pub all_none : (first second : List ℕ) (n m : ℕ) → m ≡ n
    → ((j : ℕ) → 0 ≤ j → j % 2 ≡ 0 % 2 → j < n → slice_index first j ≡ 2 ^ 64 - 1)
    → ((j : ℕ) → 1 ≤ j → j % 2 ≡ 1 % 2 → j < m → slice_index second j ≡ 2 ^ 64 - 1)
    → ((j : ℕ) → slice_index first j ≡ 2 ^ 64 - 1 → slice_index second j ≡ 2 ^ 64 - 1)
    → (k : ℕ) → k < n → slice_index second k ≡ 2 ^ 64 - 1
all_none first second n m same even odd kept k less =
    elim (cases_eq (k % 2) 0) [
      | inl e ↦ kept k (even k (omega arith) (omega (arith, e)) less)
      | inr not ↦ odd k (omega (arith, not)) (omega (arith, not)) (omega (arith, less, same))
    ]

-- before the first level all wait
pub looked_up-first : (fall : ℕ → ℕ → ℕ → ℕ) (b : List Bool) (sizes hashes positions waiting : List ℕ) → length hashes ≤ length waiting
    → ((k : ℕ) → k < length hashes → slice_index positions k ≡ 2 ^ 64 - 1) → ((k : ℕ) → k < length hashes → slice_index waiting k ≡ k)
    → AreLookedUp fall b sizes 0 0 hashes positions waiting (length hashes)
looked_up-first fall b sizes hashes positions waiting room none own = record {
  room = room;
  inside = λ a less. omega (arith, own a less, less);
  go_on = λ a less. record { begins = refl; found = refl };
  found = λ k less some. absurd (some (none k less));
  wait = λ k less _. (k, less, own k less);
}

-- after the last level, or where none waits, the positions are reported
pub last_is_claimed : (fall : ℕ → ℕ → ℕ → ℕ) (b : List Bool) (sizes : List ℕ) (level begin : ℕ) (hashes positions waiting : List ℕ) (count : ℕ)
    → AreLookedUp fall b sizes level begin hashes positions waiting count → length sizes ≤ level ⊎ count ≡ 0
    → (k : ℕ) → k < length hashes → slice_index positions k ≡ number_code (position_from (fall (slice_index hashes k)) b 0 0 sizes)
last_is_claimed fall b sizes level begin hashes positions waiting count h end k less =
    elim (cases_eq (slice_index positions k) (2 ^ 64 - 1)) [
      | inl none ↦
          let w = h.wait k less none in
          elim end [
            | inl last ↦
                let on = h.go_on w.0 w.1 in
                let own = ap (λ (j : ℕ). position_from (fall (slice_index hashes j)) b 0 0 sizes) (sym w.2) in
                none ∙ sym (ap number_code (own ∙ sym on.found
                ∙ ap (position_from (fall (slice_index hashes (slice_index waiting w.0))) b level (64 * begin)) (drop_all level sizes last)))
            | inr zero ↦ absurd (omega (arith, w.1, zero))
          ]
      | inr some ↦ sym (ap number_code (h.found k less some))
    ]

-- a word for each of n hashes at each level so far is one at each level at most
pub reads_fewer : {S : Type 0} (n all level : ℕ) (lists_of : S → Lists) (reads_of : S → ReadCounts) (old new : S) → level ≤ all
    → OnlyReads lists_of reads_of old new 0 0 (n * level) → OnlyReads lists_of reads_of old new 0 0 (n * all)
reads_fewer n all level lists_of reads_of old new inside reads = record {
  at_most = record {
    upper = reads.at_most.upper;
    lower = reads.at_most.lower;
    words = omega (arith, reads.at_most.words, mul-le-mul_left n inside);
    upper_kept = reads.at_most.upper_kept;
    lower_kept = reads.at_most.lower_kept;
    words_kept = reads.at_most.words_kept;
  };
  same = reads.same;
}

-- a position that was reported is inside, and its rank shows the number
claimed_inside : (b : List Bool) (o : Option ℕ) (end old : ℕ) → end ≤ length b → IfSome o (IsOneBefore b end)
    → old ≡ number_code o → old ≢ 2 ^ 64 - 1 → old ≤ length b
claimed_inside b None end old inside one is some = absurd (some is)
claimed_inside b (Some p) end old inside one is some = omega (arith, is, one.1, inside)

rank_is_claimed : (b : List Bool) (o : Option ℕ) (end old new : ℕ) → end ≤ length b → length b < 2 ^ 64 → IfSome o (IsOneBefore b end)
    → old ≡ number_code o → IsNumberOfPosition b old new → new ≡ number_code (option_map (ones_before b) o)
rank_is_claimed b None end old new inside short one is r = r.none is
rank_is_claimed b (Some p) end old new inside short one is r =
    r.some (λ none. omega (arith, none, is, one.1, inside, short)) ∙ ap (ones_before b) is

-- the same of a hash, for bits and sizes under two names each
module _ (fall : ℕ → ℕ → ℕ → ℕ) (falls : FallsInside fall) (sizes s : List ℕ) (b b' : List Bool) (hash old : ℕ) (h : AreSizes s b) (same : b' ≡ b)
    (is : old ≡ number_code (position_from (fall hash) b' 0 0 s)) where
  one : IfSome (position_from (fall hash) b 0 0 s) (IsOneBefore b (0 + 64 * sum s))
  one = position_from-one (fall hash) (falls hash) b 0 0 (0 + 64 * sum s) s refl h.some

  claimed_here : old ≡ number_code (position_from (fall hash) b 0 0 s)
  claimed_here = is ∙ ap (λ (c : List Bool). number_code (position_from (fall hash) c 0 0 s)) same

  pub position_inside : (b2 : List Bool) → b2 ≡ b → old ≢ 2 ^ 64 - 1 → old ≤ length b2
  position_inside b2 same2 some =
      subst (λ (c : List Bool). old ≤ length c) (sym same2)
      (claimed_inside b (position_from (fall hash) b 0 0 s) (0 + 64 * sum s) old (omega (arith, h.all)) one claimed_here some)

  pub number_is_claimed : (new : ℕ) (b2 : List Bool) → b2 ≡ b → s ≡ sizes → IsNumberOfPosition b2 old new → new ≡ number_code (number_in fall sizes b hash)
  number_is_claimed new b2 same2 same_sizes ranked =
      rank_is_claimed b (position_from (fall hash) b 0 0 s) (0 + 64 * sum s) old new (omega (arith, h.all)) h.short one claimed_here
      (subst (λ (c : List Bool). IsNumberOfPosition c old new) same2 ranked)
      ∙ ap (λ (z : List ℕ). number_code (number_in fall z b hash)) same_sizes

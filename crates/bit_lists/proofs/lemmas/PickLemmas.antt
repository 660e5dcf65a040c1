-- One position is picked for each rank, and item k of the rising positions is the one for k.
use Rattle.std.proofs.Common.{◌≡◌, ℕ, zero, suc, ◌+◌, ◌-◌, ◌<◌, ◌≤◌, Bool, true, false, not, List, [], ◌∷◌, length, get_or, take, refl, ap, ◌∙◌, ⊎_elim, arith, sym, subst, ◌↔◌, Option, Some, None}
use Rattle.std.proofs.lemmas.Bool.{cases_order, cases_lt}
use Rattle.std.proofs.lemmas.List.{get_or_past}
use Rattle.std.proofs.lemmas.List.Sums.{sum_by-cons}
use Rattle.std.specs.List.Sorted.{IsStrictlyIncreasing}
use Rattle.bit_lists.proofs.lemmas.CountLemmas.{count_before_more, count_before_grows, count_before-le, count_before-none}
use Rattle.bit_lists.proofs.lemmas.WordLemmas.{truth}
use Rattle.bit_lists.specs.Bits.{item}
use Rattle.bit_lists.specs.Count.{ones_before, zeros_before, count_before, Picks, IsSelect, IsSelectFrom, IsFirstFrom, IsLastTo, MatchesFirstOne, MatchesFirstZero, is_same, bit_positions}

-- ---- one position for each rank

is_same_self : (v : Bool) → truth (is_same v v) ≡ 1
is_same_self true = refl
is_same_self false = refl

later : (b : List Bool) (v : Bool) (r p q : ℕ) → Picks b v r p → Picks b v r q → p < q → ⊥
later b v r p q here there l =
    let one : truth (is_same v (item b p)) ≡ 1 = ap (λ x. truth (is_same v x)) here.item ∙ is_same_self v in
    let e : p + 1 + (q - (p + 1)) ≡ q = omega arith in
    omega (
      arith,
      count_before_more v b p here.inside,
      one,
      here.before,
      there.before,
      count_before_grows v b (p + 1) (q - (p + 1)) (omega (arith, there.inside)),
      ap (count_before b v) e,
    )

pub same_from_Picks : (b : List Bool) (v : Bool) (r p q : ℕ) → Picks b v r p → Picks b v r q → p ≡ q
same_from_Picks b v r p q here there =
    ⊎_elim (λ e. e)
    (λ apart. ⊎_elim (λ l. absurd (later b v r p q here there l)) (λ l. absurd (later b v r q p there here l)) apart)
    (cases_order p q)

-- ---- item k of the positions is the one with k before it

pub count_before_after : (v x : Bool) (b : List Bool) (i : ℕ) → count_before (x ∷ b) v (suc i) ≡ truth (is_same v x) + count_before b v i
unfolding ones_before zeros_before
count_before_after true x b i = sum_by-cons truth x (take i b)
count_before_after false x b i = sum_by-cons (λ y. truth (not y)) x (take i b)

-- p is the position of item k of the positions, where the first item's position is from
record IsPosition (b : List Bool) (v : Bool) (k from p : ℕ) : Type 0 where
  pub at : ℕ
  pub is : p ≡ from + at
  pub picked : Picks b v k at

skip : (b : List Bool) (v x : Bool) (k from p : ℕ) → is_same v x ≡ false → IsPosition b v k (from + 1) p → IsPosition (x ∷ b) v k from p
skip b v x k from p other h = record {
  at = suc h.at;
  is = omega (arith, h.is);
  picked = record {
    inside = omega (arith, h.picked.inside);
    item = h.picked.item;
    before = count_before_after v x b h.at ∙ ap (λ y. truth y + count_before b v h.at) other ∙ omega (arith, h.picked.before);
  };
}

next_position : (b : List Bool) (v x : Bool) (k from p : ℕ) → is_same v x ≡ true
    → IsPosition b v k (from + 1) p → IsPosition (x ∷ b) v (suc k) from p
next_position b v x k from p one h = record {
  at = suc h.at;
  is = omega (arith, h.is);
  picked = record {
    inside = omega (arith, h.picked.inside);
    item = h.picked.item;
    before = count_before_after v x b h.at ∙ ap (λ y. truth y + count_before b v h.at) one ∙ omega (arith, h.picked.before);
  };
}

here_position : (b : List Bool) (v : Bool) (from : ℕ) → IsPosition (v ∷ b) v 0 from from
here_position b v from = record {
  at = 0;
  is = omega arith;
  picked = record { inside = omega arith; item = refl; before = count_before-none (v ∷ b) v };
}

position_at : (b : List Bool) (v : Bool) (k from d : ℕ) → k < length (bit_positions v from b) → IsPosition b v k from (get_or (bit_positions v from b) k d)
position_at [] v k from d l = absurd (omega arith)
position_at (true ∷ b) true zero from d l = here_position b true from
position_at (true ∷ b) true (suc k) from d l = next_position b true true k from _ refl (position_at b true k (from + 1) d (omega arith))
position_at (false ∷ b) true k from d l = skip b true false k from _ refl (position_at b true k (from + 1) d l)
position_at (false ∷ b) false zero from d l = here_position b false from
position_at (false ∷ b) false (suc k) from d l = next_position b false false k from _ refl (position_at b false k (from + 1) d (omega arith))
position_at (true ∷ b) false k from d l = skip b false true k from _ refl (position_at b false k (from + 1) d l)

pub Picks-positions : (b : List Bool) (v : Bool) (k d : ℕ) → k < length (bit_positions v 0 b) → Picks b v k (get_or (bit_positions v 0 b) k d)
Picks-positions b v k d l =
    let h = position_at b v k 0 d l in
    let e : h.at ≡ get_or (bit_positions v 0 b) k d = omega (arith, h.is) in
    let P : ℕ → Type 0 = λ p. Picks b v k p in
    subst P e h.picked

-- ---- how many positions are picked

pub length-positions : (v : Bool) (k : ℕ) (b : List Bool) → length (bit_positions v k b) ≡ count_before b v (length b)
length-positions v k [] = sym (count_before-none [] v)
length-positions true k (true ∷ b) = omega (arith, length-positions true (k + 1) b, count_before_after true true b (length b))
length-positions true k (false ∷ b) = omega (arith, length-positions true (k + 1) b, count_before_after true false b (length b))
length-positions false k (true ∷ b) = omega (arith, length-positions false (k + 1) b, count_before_after false true b (length b))
length-positions false k (false ∷ b) = omega (arith, length-positions false (k + 1) b, count_before_after false false b (length b))

pub some_picked : (b : List Bool) (v : Bool) (r : ℕ) → r < count_before b v (length b) → (p : ℕ) × Picks b v r p
some_picked b v r l = (get_or (bit_positions v 0 b) r 0, Picks-positions b v r 0 (omega (arith, length-positions v 0 b)))

-- the rank of a position that is picked is below the count
pub rank_below : (b : List Bool) (v : Bool) (r p : ℕ) → Picks b v r p → r < count_before b v (length b)
rank_below b v r p h =
    let one : truth (is_same v (item b p)) ≡ 1 = ap (λ x. truth (is_same v x)) h.item ∙ is_same_self v in
    let all : p + 1 + (length b - (p + 1)) ≡ length b = omega (arith, h.inside) in
    omega (
      arith,
      count_before_more v b p h.inside,
      one,
      h.before,
      count_before_grows v b (p + 1) (length b - (p + 1)) (omega (arith, all)),
      ap (count_before b v) all,
    )

pub none_picked : (b : List Bool) (v : Bool) (r : ℕ) → (count_before b v (length b) ≤ r) ↔ ((p : ℕ) → ¬ (Picks b v r p))
none_picked b v r = (λ past p h. absurd (omega (arith, past, rank_below b v r p h)), counted)
  where
    counted : ((p : ℕ) → ¬ (Picks b v r p)) → count_before b v (length b) ≤ r
    counted none =
        ⊎_elim (λ below. let some = some_picked b v r below in absurd (none some.0 some.1)) (λ past. past)
        (cases_lt r (count_before b v (length b)))

-- each position is picked by its rank
pub Picks-rank : (b : List Bool) (v : Bool) (p : ℕ) → p < length b → item b p ≡ v → Picks b v (count_before b v p) p
Picks-rank b v p within is = record { inside = within; item = is; before = refl }

pub positions-rise : (b : List Bool) (v : Bool) → IsStrictlyIncreasing (bit_positions v 0 b)
positions-rise b v k l =
    let p = get_or (bit_positions v 0 b) k 0 in
    let q = get_or (bit_positions v 0 b) (k + 1) 0 in
    let here = Picks-positions b v k 0 (omega arith) in
    let there = Picks-positions b v (k + 1) 0 l in
    ⊎_elim (λ less. less)
    (λ back.
    let at : q + (p - q) ≡ p = omega arith in
    let more = count_before_grows v b q (p - q) (omega (arith, here.inside)) in
    absurd (omega (arith, here.before, there.before, more, ap (count_before b v) at)))
    (cases_lt p q)

-- ---- the first from a position on, and the last up to one

not_same : (v x : Bool) → truth (is_same v x) ≡ 0 → x ≡ not v
not_same true true h = absurd (omega arith)
not_same true false h = refl
not_same false true h = refl
not_same false false h = absurd (omega arith)

-- where no more are counted there are none
none_between : (b : List Bool) (v : Bool) (s e i : ℕ) → count_before b v e ≡ count_before b v s → s ≤ i → i < e → i < length b
    → item b i ≡ not v
none_between b v s e i same from to inside =
    not_same v (item b i)
    (omega (arith, same, count_before_more v b i inside, count_before-le b v (i + 1) e (omega arith), count_before-le b v s i from))

-- where all of a kind stand before a position there are none from it on
none_from : (b : List Bool) (v : Bool) (s p : ℕ) → count_before b v (length b) ≤ count_before b v s → s ≤ p → p < length b
    → item b p ≡ not v
none_from b v s p none from inside =
    none_between b v s (length b) p (omega (arith, none, count_before-le b v s (length b) (omega arith))) from inside inside

-- what is picked by a rank that is no less than that of a position is not before it
pub from-Picks : (b : List Bool) (v : Bool) (s r p : ℕ) → count_before b v s ≤ r → Picks b v r p → s ≤ p
from-Picks b v s r p enough picked =
    let one : truth (is_same v (item b p)) ≡ 1 = ap (λ x. truth (is_same v x)) picked.item ∙ is_same_self v in
    ⊎_elim
    (λ before.
    absurd
    (omega (arith, enough, one, picked.before, count_before_more v b p picked.inside, count_before-le b v (p + 1) s (omega arith))))
    (λ from. from)
    (cases_lt p s)

-- the rank of a position picks the first of the kind from there on
pub IsFirstFrom-Picks : (b : List Bool) (v : Bool) (s p : ℕ) → Picks b v (count_before b v s) p → IsFirstFrom b v s p
IsFirstFrom-Picks b v s p picked = record {
  from = from-Picks b v s (count_before b v s) p (omega arith) picked;
  inside = picked.inside;
  is = picked.item;
  least = λ i from to. none_between b v s p i picked.before from to (omega (arith, picked.inside));
}

-- the rank of a position selects the first one from there on
pub MatchesFirstOne-selected : (b : List Bool) (s : ℕ) (o : Option ℕ) → s ≤ length b → IsSelect b true (ones_before b s) o → MatchesFirstOne b s o
MatchesFirstOne-selected b s None l none =
    λ p from. ⊎_elim (λ inside. none_from b true s p none from inside) (λ past. get_or_past b p false past) (cases_lt p (length b))
MatchesFirstOne-selected b s (Some p) l picked = IsFirstFrom-Picks b true s p picked

-- and so of zeros
pub MatchesFirstZero-selected : (b : List Bool) (s : ℕ) (o : Option ℕ) → IsSelect b false (zeros_before b s) o → MatchesFirstZero b s o
MatchesFirstZero-selected b s None none = λ p from inside. none_from b false s p none from inside
MatchesFirstZero-selected b s (Some p) picked = IsFirstFrom-Picks b false s p picked

-- the last of the kind up to a position is picked by one less than the rank after that position
pub IsLastTo-Picks : (b : List Bool) (v : Bool) (s r p : ℕ) → s < length b → count_before b v (s + 1) ≡ r + 1 → Picks b v r p
    → IsLastTo b v s p
IsLastTo-Picks b v s r p inside count picked =
    let one : truth (is_same v (item b p)) ≡ 1 = ap (λ x. truth (is_same v x)) picked.item ∙ is_same_self v in
    let after : count_before b v (p + 1) ≡ r + 1 = omega (arith, one, picked.before, count_before_more v b p picked.inside) in
    record {
      to = ⊎_elim (λ past. absurd (omega (arith, count, picked.before, count_before-le b v (s + 1) p (omega arith)))) (λ to. to) (cases_lt s p);
      inside = picked.inside;
      is = picked.item;
      greatest = λ i past to. none_between b v (p + 1) (s + 1) i (omega (arith, count, after)) (omega arith) (omega arith) (omega arith);
    }

-- where none stand before the next position there are none up to it
pub none_to : (b : List Bool) (v : Bool) (s i : ℕ) → s < length b → count_before b v (s + 1) ≡ 0 → i ≤ s → item b i ≡ not v
none_to b v s i inside none to =
    none_between b v 0 (s + 1) i (omega (arith, none, count_before-none b v)) (omega arith) (omega arith) (omega arith)

-- the rank of a position and k more select the one with k of its kind between
pub IsSelectFrom-selected : (b : List Bool) (v : Bool) (s k : ℕ) (o : Option ℕ) → IsSelect b v (count_before b v s + k) o → IsSelectFrom b v s k o
IsSelectFrom-selected b v s k None none = none
IsSelectFrom-selected b v s k (Some p) picked = (from-Picks b v s _ p (omega arith) picked, picked)

-- Counting in the parts of a content, and where in a part an item is.
use Rattle.std.proofs.Common.{◌≡◌, ℕ, ◌+◌, ◌-◌, ◌*◌, ◌/◌, ◌^◌, ◌<◌, ◌≤◌, Bool, true, false, not, cond, List, length, take, drop, min, count_by, arith, sym, ap, ◌∙◌, inl, inr, take-add, length-take, length-drop}
use Rattle.std.proofs.lemmas.Bool.{cases_lt}
use Rattle.std.proofs.lemmas.List.{take-take}
use Rattle.std.proofs.lemmas.List.Sums.{sum_by-append}
use Rattle.std.specs.Int.{div_ceil}
use Rattle.bit_lists.proofs.lemmas.CountLemmas.{ones_before_more, zeros_before_more}
use Rattle.bit_lists.proofs.lemmas.PickLemmas.{Picks-positions, length-positions}
use Rattle.bit_lists.proofs.lemmas.WordLemmas.{truth}
use Rattle.bit_lists.specs.Bits.{item}
use Rattle.bit_lists.specs.Count.{count_of, ones_before, zeros_before, count_before, Picks}
use Rattle.bitm_tables.specs.Entry.{before_in_part, negation}
use Rattle.bitm_strategies.specs.Samples.{part_of, position, entry_of}
use Rattle.bitm_select.specs.Search.{IsLastWithin, sought_bits}
use Rattle.bitm_tables.proofs.lemmas.EntryLemmas.{ones_before-negation}
use Rattle.bitm_select.proofs.lemmas.MarkLemmas.{count_before-sought_bits}
use Rattle.bitm_tables.proofs.lemmas.StretchLemmas.{ones_before-between}

-- ---- counting

pub count_before-between : (v : Bool) (b : List Bool) (i j : ℕ) → i ≤ j → count_before b v i ≤ count_before b v j
count_before-between true b i j h = (ones_before-between b i j h).0
count_before-between false b i j h =
    omega (arith, (ones_before-between (negation b) i j h).0, ones_before-negation b i, ones_before-negation b j)

-- the count rises at an item
count_before-next : (b : List Bool) (v : Bool) (p : ℕ) → p < length b → item b p ≡ v → count_before b v (p + 1) ≡ count_before b v p + 1
count_before-next b true p h e = omega (arith, ones_before_more b p h, ap truth e)
count_before-next b false p h e = omega (arith, zeros_before_more b p h, ap (λ (x : Bool). truth (not x)) e)

-- ---- the position of an item

pub found : (c : List Bool) (v : Bool) (t : ℕ) → t < count_of c v → Picks c v t (position c v t)
unfolding position
found c v t h = Picks-positions c v t (length c) (omega (arith, length-positions v 0 c))

-- the entry of an item is the last one with no more items before it
pub entry_last : (c : List Bool) (v : Bool) (t : ℕ) → t < count_of c v
    → IsLastWithin (λ j. count_before c v (2048 * j)) (div_ceil (length c) 2048) t (entry_of c v t)
entry_last c v t h =
    let p = position c v t in
    let f = found c v t h in
    let after = count_before-next c v p f.inside f.item in
    record {
      inside = omega (arith, f.inside);
      at_most = omega (arith, f.before, count_before-between v c (2048 * (p / 2048)) p (omega arith));
      next = λ _. omega (arith, f.before, after, count_before-between v c (p + 1) (2048 * (p / 2048 + 1)) (omega arith));
    }

-- ---- the last one of counts that rise

module _ (count : ℕ → ℕ) (rises : (i j : ℕ) → i ≤ j → count i ≤ count j) (n r e : ℕ) (last : IsLastWithin count n r e) where
  pub last_least : (a : ℕ) → a < n → count a ≤ r → a ≤ e
  last_least a h le =
      elim (cases_lt e a) [
        | inl lt ↦ absurd (omega (arith, last.next (omega arith), rises (e + 1) a (omega arith)))
        | inr ge ↦ ge
      ]

pub last_same : (count : ℕ → ℕ) (rises : (i j : ℕ) → i ≤ j → count i ≤ count j) (n r e f : ℕ)
    → IsLastWithin count n r e → IsLastWithin count n r f → e ≡ f
last_same count rises n r e f a b =
    omega (arith, last_least count rises n r e a f b.inside b.at_most, last_least count rises n r f b e a.inside a.at_most)

pub last_alike : (f g : ℕ → ℕ) (n r e : ℕ) → ((j : ℕ) → j < n → f j ≡ g j) → IsLastWithin f n r e → IsLastWithin g n r e
last_alike f g n r e same l =
    record {
      inside = l.inside;
      at_most = omega (arith, l.at_most, same e l.inside);
      next = λ h. omega (arith, l.next h, same (e + 1) h);
    }

-- ---- parts

count_cut : (p : Bool → Bool) (b : List Bool) (n a i : ℕ) → i ≤ n
    → count_by p (take a b) + count_by p (take i (take n (drop a b))) ≡ count_by p (take (a + i) b)
count_cut p b n a i h =
    ap (λ (l : List Bool). count_by p (take a b) + count_by p l) (take-take i n (drop a b) h)
    ∙ sym (ap (count_by p) (take-add a i b) ∙ sum_by-append (λ (x : Bool). cond (p x) 1 0) (take a b) (take i (drop a b)))

length_cut : (b : List Bool) (n a : ℕ) → length (take n (drop a b)) ≡ min n (length b - a)
length_cut b n a = length-take n (drop a b) ∙ ap (min n) (length-drop a b)

pub length-part_of : (b : List Bool) (k : ℕ) → length (part_of b k) ≡ min (2 ^ 32) (length b - k * 2 ^ 32)
unfolding part_of
length-part_of b k = length_cut b (2 ^ 32) (k * 2 ^ 32)

count_before-part_of : (v : Bool) (b : List Bool) (k i : ℕ) → i ≤ 2 ^ 32
    → count_before b v (k * 2 ^ 32) + count_before (part_of b k) v i ≡ count_before b v (k * 2 ^ 32 + i)
unfolding ones_before zeros_before part_of
count_before-part_of true b k i h = count_cut (λ x. x) b (2 ^ 32) (k * 2 ^ 32) i h
count_before-part_of false b k i h = count_cut not b (2 ^ 32) (k * 2 ^ 32) i h

pub entry-small : (b : List Bool) (v : Bool) (k t : ℕ) → t < count_of (part_of b k) v → entry_of (part_of b k) v t < 2 ^ 21
entry-small b v k t h = let f = found (part_of b k) v t h in omega (arith, f.inside, length-part_of b k)

-- the items up to the end of a part
pub count_of-part_of : (v : Bool) (b : List Bool) (k e : ℕ) → k * 2 ^ 32 ≤ length b → e ≡ min (length b) ((k + 1) * 2 ^ 32)
    → count_before b v (k * 2 ^ 32) + count_of (part_of b k) v ≡ count_before b v e
count_of-part_of v b k e h is =
    let l = length-part_of b k in
    let same : k * 2 ^ 32 + length (part_of b k) ≡ e = omega arith in
    count_before-part_of v b k (length (part_of b k)) (omega arith) ∙ ap (count_before b v) same

-- the counts before the entries of a part
pub count_in_part : (v : Bool) (b : List Bool) (k j : ℕ) → j < div_ceil (length (part_of b k)) 2048
    → before_in_part (sought_bits v b) (k * 2 ^ 21 + j) ≡ count_before (part_of b k) v (2048 * j)
count_in_part v b k j h =
    let l = length-part_of b k in
    let at : 2048 * (k * 2 ^ 21 + j) ≡ k * 2 ^ 32 + 2048 * j = omega arith in
    let from : (k * 2 ^ 21 + j) / 2 ^ 21 * 2 ^ 32 ≡ k * 2 ^ 32 = omega arith in
    let there = count_before-sought_bits b v (k * 2 ^ 32 + 2048 * j) (omega arith) in
    let here = count_before-sought_bits b v (k * 2 ^ 32) (omega arith) in
    rw (at, from, there, here) (omega (arith, count_before-part_of v b k (2048 * j) (omega arith)))

-- Between which entries of a part the samples say that an item is.
use Rattle.std.proofs.Common.{◌≡◌, ℕ, ◌+◌, ◌-◌, ◌*◌, ◌/◌, ◌%◌, ◌^◌, ◌<◌, ◌≤◌, Bool, List, length, get_or, nat_eq, if◌then◌else◌, sym, ap, ◌∙◌, inl, inr, arith}
use Rattle.std.proofs.lemmas.Bool.{cases_lt}
use Rattle.std.proofs.lemmas.Nat.{pow_pos}
use Rattle.std.specs.Int.{div_ceil}
use Rattle.bit_lists.specs.Count.{count_of, count_before}
use Rattle.bitm_strategies.specs.Samples.{part_of, parts, entry_of, sample, intervals, first_item, walk_start, sample_count_before, samples_of}
use Rattle.bitm_strategies.proofs.lemmas.PartLemmas.{count_before-between, entry_last, entry-small, last_least, length-part_of}
use Rattle.bitm_strategies.proofs.lemmas.SampleLemmas.{before_more, ceil_less, ceil_more, decoded, first_item_is, sample_at, start_at_most, start_inside}
use Rattle.bitm_tables.proofs.lemmas.TableLemmas.{HasEntries}
use Rattle.bitm_tables.specs.Entry.{entries_from}
use Rattle.tables_view.specs.Samples.{IsBounded}

-- the entries from low on and before end are some, of the part, and item r is among them
pub record HasBounds (c : List Bool) (v : Bool) (r low end : ℕ) : Type 0 where
  pub some : low < end
  pub within : end ≤ div_ceil (length c) 2048
  pub bounded : IsBounded c v r (div_ceil (length c) 2048) low end

module _ (b : List Bool) (v : Bool) (d k r : ℕ) (pos : 7 ≤ d) (inside : k < parts b) (samples : List ℕ) (own : samples ≡ samples_of b v d)
    (first to count i : ℕ) (first_is : first ≡ sample_count_before b v d k) (to_is : to ≡ sample_count_before b v d (k + 1))
    (count_is : count ≡ to - first) (interval : i ≡ r / 2 ^ d) where
  all : count ≡ intervals (part_of b k) v d
  all = omega (arith, before_more b v d k, first_is, to_is, count_is)

  starts : i * 2 ^ d ≡ first_item d r
  starts = ap (λ (n : ℕ). n * 2 ^ d) interval ∙ sym (first_item_is d r)

  -- where the part has no such interval, it has no such item
  pub past : count ≤ i → (n : ℕ) → n ≡ div_ceil (length (part_of b k)) 2048 → 0 < n → IsBounded (part_of b k) v r n (n - 1) n
  past over n size some =
      let c = part_of b k in
      let none : count_of c v ≤ r =
      elim (cases_lt r (count_of c v)) [
        | inl l ↦ absurd (omega (arith, all, over, ceil_more i (count_of c v) (2 ^ d) (pow_pos d) (omega (arith, starts, l))))
        | inr g ↦ g
      ] in
      record {
        at_most = omega (arith, none, count_before-between v c (2048 * (n - 1)) (length c) (omega (arith, size, some)));
        above = λ l. absurd (omega (arith, l));
      }

  module _ (here : i < count) (low : ℕ)
      (low_is : low ≡ get_or samples (first + i) 0 % 2 ^ 21 + (if nat_eq (r / 2 ^ (d - 1) % 2) 1 then get_or samples (first + i) 0 / 2 ^ 21 else 0)) where
    has : first_item d r < count_of (part_of b k) v
    has = omega (arith, starts, ceil_less i (count_of (part_of b k) v) (2 ^ d) (pow_pos d) (omega (arith, all, here)))

    number : (j : ℕ) → j < count → get_or samples (first + j) 0 ≡ sample (part_of b k) v d (j * 2 ^ d)
    number j l =
        ap (λ (xs : List ℕ). get_or xs (first + j) 0) own
        ∙ ap (λ (n : ℕ). get_or (samples_of b v d) (n + j) 0) first_is
        ∙ sample_at b v d k j inside (omega (arith, all, l))

    begins : low ≡ walk_start (part_of b k) v d r
    begins =
        low_is
        ∙ decoded (part_of b k) v d r (omega (arith, pos)) (get_or samples (first + i) 0)
        (number i here ∙ ap (sample (part_of b k) v d) starts) (entry-small b v k (first_item d r) has)

    at_most : count_before (part_of b k) v (2048 * low) ≤ r
    at_most = omega (arith, ap (λ (n : ℕ). count_before (part_of b k) v (2048 * n)) begins, start_at_most (part_of b k) v d r (omega (arith, pos)) has)

    low_inside : low < div_ceil (length (part_of b k)) 2048
    low_inside = omega (arith, begins, start_inside (part_of b k) v d r (omega (arith, pos)) has)

    -- in the last interval, the item is before the part's end
    pub bounded_last : HasBounds (part_of b k) v r low (div_ceil (length (part_of b k)) 2048)
    bounded_last = record {
      some = low_inside;
      within = omega arith;
      bounded = record { at_most = at_most; above = λ l. absurd (omega (arith, l)) };
    }

    -- else no later than the first item of the next one
    pub bounded_next : i + 1 < count → (end : ℕ) → end ≡ get_or samples (first + i + 1) 0 % 2 ^ 21 + 1 → HasBounds (part_of b k) v r low end
    bounded_next more end end_is =
        let c = part_of b k in
        let q = (i + 1) * 2 ^ d in
        let some : q < count_of c v = ceil_less (i + 1) (count_of c v) (2 ^ d) (pow_pos d) (omega (arith, all, more)) in
        let e = entry_of c v q in
        let last = entry_last c v q some in
        let before : r < q = omega (arith, starts, pow_pos d) in
        let at : first + i + 1 ≡ first + (i + 1) = omega arith in
        let is : end ≡ e + 1 =
        omega (arith, end_is, ap (λ (n : ℕ). get_or samples n 0) at, number (i + 1) more, entry-small b v k q some) in
        let order =
        last_least (λ j. count_before c v (2048 * j)) (λ i j h. count_before-between v c (2048 * i) (2048 * j) (omega (arith, h)))
        (div_ceil (length c) 2048) q e last low low_inside (omega (arith, at_most, before)) in
        record {
          some = omega (arith, is, order);
          within = omega (arith, is, last.inside);
          bounded =
              record {
                at_most = at_most;
                above = λ l. omega (arith, before, last.next (omega (arith, is, l)), ap (λ (n : ℕ). count_before c v (2048 * n)) is);
              };
        }

-- a part's entries are those of its bits
pub part_size : (b : List Bool) (upper lower : List ℕ) → HasEntries b upper lower → (k : ℕ) → k < length upper
    → entries_from (length lower) k ≡ div_ceil (length (part_of b k)) 2048
part_size b upper lower t k inside = omega (arith, t.upper_length, t.lower_length, length-part_of b k, inside)

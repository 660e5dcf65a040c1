-- Selection by samples: from the sample of a rank the walk begins no later than the answer's entry, and reads no more.
use Rattle.std.proofs.Common.{◌≡◌, ℕ, zero, suc, ◌+◌, ◌-◌, ◌*◌, ◌/◌, ◌%◌, ◌^◌, ◌<◌, ◌≤◌, Bool, List, length, get_or, min, nat_eq, if◌then◌else◌, Option, Some, None, IfSome, arith, sym, ap, ◌∙◌, subst, inl, inr}
use Rattle.std.proofs.Math.Nat.{mul-le-mul_right, mul-div-le, le_of_mul-le-mul_right}
use Rattle.std.proofs.Math.Pow.{pow_mono}
use Rattle.std.proofs.lemmas.Nat.{pow_pos}
use Rattle.std.proofs.lemmas.Bool.{cases_lt}
use Rattle.std.proofs.lemmas.Grind.{div_ceil_times}
use Rattle.std.specs.Int.{div_ceil}
use Rattle.bit_lists.specs.Bits.{digit_count}
use Rattle.bit_lists.specs.Count.{count_of, ones_before, count_before, IsSelect}
use Rattle.bitm_tables.specs.Entry.{before_in_part, entries_from}
use Rattle.bitm_tables.specs.Reads.{ReadsAtMost}
use Rattle.bitm_strategies.specs.Samples.{part_of, parts, sample, intervals, first_item, walk_start, sample_count_before, samples_of, sample_count_of, rank_in, WalkedTo, WalkedOut, SampledReads, IsSampleCount}
use Rattle.bitm_select.specs.Search.{IsLastPart, IsLastEntry, sought_bits}
use Rattle.bitm_tables.specs.declared.source.counts.ReadCounts.{ReadCounts}
use Rattle.bitm_select.proofs.lemmas.MarkLemmas.{count_before-sought_bits}
use Rattle.bit_lists.proofs.lemmas.CountLemmas.{count_before-none}
use Rattle.bitm_strategies.proofs.lemmas.PartLemmas.{count_before-between, length-part_of, count_of-part_of, count_in_part, entry-small}
use Rattle.bitm_strategies.proofs.lemmas.SampleLemmas.{sample_at, decoded, start_inside, start_at_most, ceil_more, ceil_less, before_more, before_le, length-samples, first_item_is}
use Rattle.bitm_tables.proofs.lemmas.StretchLemmas.{ones_before-self}
use Rattle.bitm_tables.proofs.lemmas.TableLemmas.{HasEntries}

by_lt : {P : Type 0} (a b : ℕ) → (a < b → P) → (b ≤ a → P) → P
by_lt a b f g = elim (cases_lt a b) [ inl h ↦ f h | inr h ↦ g h ]

-- ---- part k is the last one with no more than the rank before it

module _ (b : List Bool) (upper lower : List ℕ) (t : HasEntries b upper lower) (v : Bool) (rank k : ℕ)
    (last : IsLastPart (sought_bits v b) (length upper) rank k) where
  part_begins : k * 2 ^ 32 ≤ length b
  part_begins = omega (arith, last.inside, t.upper_length)

  pub count_is : ones_before (sought_bits v b) (k * 2 ^ 32) ≡ count_before b v (k * 2 ^ 32)
  count_is = count_before-sought_bits b v (k * 2 ^ 32) part_begins

  -- the items up to the part's end
  part_items : k + 1 ≡ parts b → count_before b v (k * 2 ^ 32) + count_of (part_of b k) v ≡ count_of b v
  part_items h = count_of-part_of v b k (length b) part_begins (omega arith)

  rank_inside : k + 1 < parts b → rank_in b v rank k < count_of (part_of b k) v
  rank_inside h =
      let e = count_of-part_of v b k ((k + 1) * 2 ^ 32) part_begins (omega arith) in
      let next = last.next (omega (arith, t.upper_length)) in
      omega (arith, next, count_before-sought_bits b v ((k + 1) * 2 ^ 32) (omega arith), e, count_is, last.at_most)

  entries_are : entries_from (length lower) k ≡ div_ceil (length (part_of b k)) 2048
  entries_are = omega (arith, t.lower_length, length-part_of b k, part_begins)

  module _ (d : ℕ) where
    interval_is : rank_in b v rank k / 2 ^ d * 2 ^ d ≡ first_item d (rank_in b v rank k)
    interval_is = sym (first_item_is d (rank_in b v rank k))

    -- the sample after the last one
    samples_end : sample_count_before b v d k + intervals (part_of b k) v d ≤ length (samples_of b v d)
    samples_end =
        let rises = before_le b v d (k + 1) (parts b) (omega (arith, last.inside, t.upper_length)) in
        omega (arith, before_more b v d k, rises, length-samples b v d (parts b))

    pub interval_inside : sample_count_before b v d k + rank_in b v rank k / 2 ^ d < length (samples_of b v d)
        → rank_in b v rank k / 2 ^ d < intervals (part_of b k) v d
    interval_inside h =
        by_lt (k + 1) (parts b)
        (λ more.
        ceil_more (rank_in b v rank k / 2 ^ d) (count_of (part_of b k) v) (2 ^ d) (pow_pos d)
        (omega (arith, interval_is, rank_inside more)))
        (λ end.
        let e : k + 1 ≡ parts b = omega (arith, last.inside, t.upper_length) in
        omega (arith, before_more b v d k, ap (sample_count_before b v d) e, length-samples b v d (parts b)))

    pub first_inside : rank_in b v rank k / 2 ^ d < intervals (part_of b k) v d
        → first_item d (rank_in b v rank k) < count_of (part_of b k) v
    first_inside h =
        omega (arith, interval_is, ceil_less (rank_in b v rank k / 2 ^ d) (count_of (part_of b k) v) (2 ^ d) (pow_pos d) h)

    -- what the sample of this rank lets begin
    pub start_from : 1 ≤ d → (s : ℕ) → sample_count_before b v d k + rank_in b v rank k / 2 ^ d < length (samples_of b v d)
        → s ≡ get_or (samples_of b v d) (sample_count_before b v d k + rank_in b v rank k / 2 ^ d) 0
        → s % 2 ^ 21 + (if nat_eq (rank_in b v rank k / 2 ^ (d - 1) % 2) 1 then s / 2 ^ 21 else 0)
        ≡ walk_start (part_of b k) v d (rank_in b v rank k)
    start_from pos s h is =
        let r = rank_in b v rank k in
        let i = interval_inside h in
        let at = sample_at b v d k (r / 2 ^ d) (omega (arith, last.inside, t.upper_length)) i in
        decoded (part_of b k) v d r pos s (is ∙ at ∙ ap (sample (part_of b k) v d) interval_is)
        (entry-small b v k (first_item d r) (first_inside i))

    module _ (pos : 1 ≤ d) (h : sample_count_before b v d k + rank_in b v rank k / 2 ^ d < length (samples_of b v d)) where
      pub start_in : walk_start (part_of b k) v d (rank_in b v rank k) < entries_from (length lower) k
      start_in =
          omega (arith, entries_are, start_inside (part_of b k) v d (rank_in b v rank k) pos (first_inside (interval_inside h)))

      pub start_below : before_in_part (sought_bits v b) (k * 2 ^ 21 + walk_start (part_of b k) v d (rank_in b v rank k)) ≤ rank_in b v rank k
      start_below =
          let r = rank_in b v rank k in
          let f = first_inside (interval_inside h) in
          let here = count_in_part v b k (walk_start (part_of b k) v d r) (start_inside (part_of b k) v d r pos f) in
          omega (arith, here, start_at_most (part_of b k) v d r pos f)

    -- ---- where there is no such sample

    module _ (h : length (samples_of b v d) ≤ sample_count_before b v d k + rank_in b v rank k / 2 ^ d) where
      outside : (k + 1 ≡ parts b) × (count_of (part_of b k) v ≤ first_item d (rank_in b v rank k))
      outside =
          let over : count_of (part_of b k) v ≤ first_item d (rank_in b v rank k) =
          by_lt (first_item d (rank_in b v rank k)) (count_of (part_of b k) v)
          (λ l.
          let more = ceil_more (rank_in b v rank k / 2 ^ d) (count_of (part_of b k) v) (2 ^ d) (pow_pos d) (omega (arith, interval_is)) in
          absurd (omega (arith, samples_end, more)))
          (λ g. g) in
          let end : k + 1 ≡ parts b =
          by_lt (k + 1) (parts b)
          (λ more. absurd (omega (arith, rank_inside more)))
          (λ end. omega (arith, last.inside, t.upper_length)) in
          (end, over)

      pub outside_none : count_before b v (length b) ≤ rank
      outside_none = omega (arith, part_items outside.0, outside.1, last.at_most, count_is)

      pub outside_reads : (uppers : ℕ) (early late : ReadCounts) → ReadsAtMost early late uppers 0 0
          → WalkedOut (part_of b (parts b - 1)) v d (rank_in b v rank (parts b - 1)) uppers early late
      outside_reads uppers early late reads =
          let e : k ≡ parts b - 1 = omega (arith, outside.0) in
          subst (λ (n : ℕ). WalkedOut (part_of b n) v d (rank_in b v rank n) uppers early late) e
          (record { walked = λ l. absurd (omega (arith, outside.1)); nothing = λ _. reads })

    -- ---- after the walk, to entry e

    module _ (e uppers : ℕ) (low : IsLastEntry (sought_bits v b) (length lower) k (rank_in b v rank k) e)
        (some : first_item d (rank_in b v rank k) < count_of (part_of b k) v) (early late : ReadCounts)
        (walked : WalkedTo (part_of b k) v d (rank_in b v rank k) e uppers early late) where
      found_reads : (p : ℕ) → p / 2048 ≡ k * 2 ^ 21 + e
          → WalkedTo (part_of b (p / 2 ^ 32)) v d (rank_in b v rank (p / 2 ^ 32)) (p % 2 ^ 32 / 2048) uppers early late
      found_reads p h =
          let at : p / 2 ^ 32 ≡ k = omega (arith, low.inside) in
          let to : p % 2 ^ 32 / 2048 ≡ e = omega (arith, low.inside) in
          rw (at, to) walked

      none_reads : count_of b v ≤ rank → WalkedOut (part_of b (parts b - 1)) v d (rank_in b v rank (parts b - 1)) uppers early late
      none_reads h =
          let c = part_of b k in
          let n = div_ceil (length c) 2048 in
          let last_one : k ≡ parts b - 1 =
          by_lt (k + 1) (parts b)
          (λ more.
          let next = last.next (omega (arith, t.upper_length)) in
          let here = count_before-sought_bits b v ((k + 1) * 2 ^ 32) (omega arith) in
          absurd (omega (arith, next, here, count_before-between v b ((k + 1) * 2 ^ 32) (length b) (omega arith))))
          (λ end. omega (arith, last.inside, t.upper_length)) in
          let whole = part_items (omega (arith, last_one, last.inside, t.upper_length)) in
          let end : e ≡ n - 1 =
          by_lt (e + 1) n
          (λ more.
          let next = low.next (omega (arith, entries_are)) in
          let rises = count_before-between v c (2048 * (e + 1)) (length c) (omega arith) in
          absurd (omega (arith, next, count_in_part v b k (e + 1) more, rises, whole)))
          (λ over. omega (arith, low.inside, entries_are)) in
          let there = subst (λ (x : ℕ). WalkedTo c v d (rank_in b v rank k) x uppers early late) end walked in
          subst (λ (m : ℕ). WalkedOut (part_of b m) v d (rank_in b v rank m) uppers early late) last_one
          (record { walked = λ _. there; nothing = λ l. absurd (omega (arith, some)) })

    pub sampled_reads : (e : ℕ) → IsLastEntry (sought_bits v b) (length lower) k (rank_in b v rank k) e
        → first_item d (rank_in b v rank k) < count_of (part_of b k) v → (early late : ReadCounts)
        → WalkedTo (part_of b k) v d (rank_in b v rank k) e (digit_count (parts b) + 1) early late
        → (o : Option ℕ) → IsSelect b v rank o → IfSome o (λ p. p / 2048 ≡ k * 2 ^ 21 + e) → SampledReads b v d rank o early late
    sampled_reads e low some early late walked None is inside = none_reads e (digit_count (parts b) + 1) low some early late walked is
    sampled_reads e low some early late walked (Some p) is inside =
        found_reads e (digit_count (parts b) + 1) low some early late walked p inside

-- an empty content has nothing to read
pub empty_reads : (b : List Bool) (v : Bool) (d rank : ℕ) (reads : ReadCounts) → 0 ≡ parts b → SampledReads b v d rank None reads reads
empty_reads b v d rank reads h =
    let c = part_of b (parts b - 1) in
    let short : length c ≡ 0 = omega (arith, length-part_of b (parts b - 1)) in
    let none : count_of c v ≡ 0 = ap (count_before c v) short ∙ count_before-none c v in
    record {
      walked = λ l. absurd (omega (arith, none));
      nothing = λ _. record {
        upper = omega arith;
        lower = omega arith;
        words = omega arith;
        upper_kept = omega arith;
        lower_kept = omega arith;
        words_kept = omega arith;
      };
    }

-- ---- how many samples there are

module _ (b : List Bool) (v : Bool) (d : ℕ) where
  ends_at : (k : ℕ) → k < parts b
      → count_before b v (min (length b) (k * 2 ^ 32)) + count_of (part_of b k) v ≡ count_before b v (min (length b) ((k + 1) * 2 ^ 32))
  ends_at k h =
      let e : min (length b) (k * 2 ^ 32) ≡ k * 2 ^ 32 = omega arith in
      let to : min (length b) ((k + 1) * 2 ^ 32) ≡ min (length b) ((k + 1) * 2 ^ 32) = omega arith in
      ap (λ (n : ℕ). count_before b v n + count_of (part_of b k) v) e
      ∙ count_of-part_of v b k (min (length b) ((k + 1) * 2 ^ 32)) (omega arith) to

  -- each part adds less than one sample to its share of the items
  pub before_bound : (k : ℕ) → k ≤ parts b
      → sample_count_before b v d k * 2 ^ d ≤ count_before b v (min (length b) (k * 2 ^ 32)) + k * 2 ^ d
  before_bound zero h = omega arith
  before_bound (suc k) h =
      let e : suc k ≡ k + 1 = omega arith in
      let c = (div_ceil_times (count_of (part_of b k) v) (2 ^ d) (pow_pos d)).1 in
      let more = ap (λ (n : ℕ). n * 2 ^ d) (before_more b v d k) in
      subst (λ (n : ℕ). sample_count_before b v d n * 2 ^ d ≤ count_before b v (min (length b) (n * 2 ^ 32)) + n * 2 ^ d) (sym e)
      (omega (arith, before_bound k (omega arith), ends_at k (omega arith), more, c))

  total_bound : sample_count_of b v d * 2 ^ d ≤ count_of b v + parts b * 2 ^ d
  total_bound =
      let e : min (length b) (parts b * 2 ^ 32) ≡ length b = omega arith in
      omega (arith, before_bound (parts b) (omega arith), ap (count_before b v) e)

  samples_bound : (m : ℕ) → count_of b v * 2 ^ (m + 1) ≤ 3 * length b * 2 ^ d
      → sample_count_of b v d * 2 ^ (m + 1) ≤ 3 * length b + parts b * 2 ^ (m + 1)
  samples_bound m h =
      le_of_mul-le-mul_right {k = 2 ^ d} (omega (arith, mul-le-mul_right (2 ^ (m + 1)) total_bound)) (pow_pos d)

few_over : (s k x n : ℕ) → s * x ≤ n + k * x → x * (s - k) ≤ n
few_over s k x n h =
    elim (cases_lt k s) [
      | inl l ↦
          let e : s ≡ (s - k) + k = omega arith in
          let f = ap (λ (y : ℕ). y * x) e in
          omega arith
      | inr g ↦
          let e : s - k ≡ 0 = omega arith in
          rw e (omega arith)
    ]

count_before-self : (v : Bool) (b : List Bool) (i : ℕ) → i ≤ length b → count_before b v i ≤ i
count_before-self v b i h = omega (arith, count_before-sought_bits b v i h, ones_before-self (sought_bits v b) i)

-- the sum of two counts of samples fits
pub position_fits : (b : List Bool) (v : Bool) (d n q k : ℕ) → 7 ≤ d → length b < 2 ^ 64 → k < parts b → n < 2 ^ 64 → q ≡ n / 2 ^ d
    → sample_count_before b v d k + q < 2 ^ 64
position_fits b v d n q k low short inside fits is =
    let s = sample_count_before b v d k in
    let p : 2 ^ 7 ≤ 2 ^ d = pow_mono low in
    let f : 2 ^ d * q ≤ n = subst (λ (x : ℕ). 2 ^ d * x ≤ n) (sym is) (mul-div-le n (2 ^ d)) in
    let bound = before_bound b v d k (omega arith) in
    let all = count_before-self v b (min (length b) (k * 2 ^ 32)) (omega arith) in
    let one : 2 ^ 7 * q ≤ 2 ^ d * q = mul-le-mul_right q p in
    by_lt k s
    (λ l.
    let two : 2 ^ 7 * (s - k) ≤ 2 ^ d * (s - k) = mul-le-mul_right (s - k) p in
    let three : 2 ^ d * (s - k) ≤ length b = few_over s k (2 ^ d) (length b) (omega (arith, bound, all)) in
    omega arith)
    (λ g. omega arith)

-- a list of all samples is as long as they are many
pub count_is_total : (b : List Bool) (v : Bool) (d e count : ℕ) (kept : List ℕ) → kept ≡ samples_of b v e → e ≡ d → count ≡ length kept
    → IsSampleCount b v d count
count_is_total b v d e count kept is same n =
    let total : count ≡ sample_count_of b v d =
    n ∙ ap length is ∙ length-samples b v e (parts b) ∙ ap (sample_count_of b v) same in
    record { total = total; bound = λ m h. omega (arith, samples_bound b v d m h, ap (λ (x : ℕ). x * 2 ^ (m + 1)) total) }

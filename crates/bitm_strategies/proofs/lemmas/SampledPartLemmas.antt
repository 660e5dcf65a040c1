-- Selection by samples in one part: which sample is that of the rank, where it lets the walk begin, and what is so
-- where there is no such sample.
use Rattle.std.proofs.Common.{◌≡◌, ℕ, ◌+◌, ◌-◌, ◌*◌, ◌/◌, ◌%◌, ◌^◌, ◌<◌, ◌≤◌, List, Option, None, IfSome, length, get_or, slice_index_or, if◌then◌else◌, refl, sym, ap, ap₂, ◌∙◌, subst, arith}
use Rattle.bit_lists.specs.Bits.{bits_of, digit, digit_count}
use Rattle.bit_lists.specs.Count.{as_bit, count_of, ones_before, IsSelect}
use Rattle.bitm_tables.specs.Reads.{ReadsAtMost}
use Rattle.bitm_select.specs.Search.{IsLastEntry, items_to, sought_in}
use Rattle.bitm_tables.specs.Entry.{entries_from}
use Rattle.bitm_tables.specs.Tables.{Lists, HasTables}
use Rattle.bitm_tables.specs.declared.source.counts.ReadCounts.{ReadCounts}
use Rattle.bitm_tables.proofs.lemmas.TableLemmas.{HasEntries, entries}
use Rattle.bitm_strategies.specs.Samples.{part_of, parts, walk_start, samples_of, sample_count_before, rank_in, IsSampledPart, SampledReads}
use Rattle.bitm_strategies.specs.declared.sampled.PartBegin.{PartBegin}
use Rattle.bitm_strategies.proofs.lemmas.WalkLemmas.{count_is, outside_none, outside_reads, start_from, start_in, start_below, sampled_reads, interval_inside, first_inside, position_fits}

module _ (bit : ℕ) (l : Lists) (xs : List ℕ) (d rank : ℕ) (begin : PartBegin) (t : HasTables l) (p : IsSampledPart bit l xs d begin rank) where
  tables : HasEntries (bits_of l.words) l.upper l.lower
  tables = entries (bits_of l.words) l.upper l.lower t

  pub in_part : rank - begin.items ≡ rank_in (bits_of l.words) (as_bit bit) rank begin.part
  in_part =
      ap (λ (n : ℕ). rank - n) (p.before_is ∙ count_is (bits_of l.words) l.upper l.lower tables (as_bit bit) rank begin.part p.part)

  position_is : begin.samples + (rank - begin.items) / 2 ^ d
      ≡ sample_count_before (bits_of l.words) (as_bit bit) d begin.part + rank_in (bits_of l.words) (as_bit bit) rank begin.part / 2 ^ d
  position_is = ap₂ ◌+◌ p.start_is (ap (λ (n : ℕ). n / 2 ^ d) in_part)

  pub position_small : length (bits_of l.words) < 2 ^ 64 → rank < 2 ^ 64 → begin.samples + (rank - begin.items) / 2 ^ d < 2 ^ 64
  position_small short fits =
      let r = rank_in (bits_of l.words) (as_bit bit) rank begin.part in
      let inside : begin.part < parts (bits_of l.words) = omega (arith, p.part.inside, tables.upper_length) in
      let small : r < 2 ^ 64 = omega (arith, fits) in
      omega (arith, position_is, position_fits (bits_of l.words) (as_bit bit) d r (r / 2 ^ d) begin.part p.low short inside small refl)

  -- ---- no sample

  module _ (none : length xs ≤ begin.samples + (rank - begin.items) / 2 ^ d) where
    over : length (samples_of (bits_of l.words) (as_bit bit) d)
        ≤ sample_count_before (bits_of l.words) (as_bit bit) d begin.part + rank_in (bits_of l.words) (as_bit bit) rank begin.part / 2 ^ d
    over = omega (arith, position_is, none, ap length p.samples)

    pub no_item : count_of (bits_of l.words) (as_bit bit) ≤ rank
    no_item = outside_none (bits_of l.words) l.upper l.lower tables (as_bit bit) rank begin.part p.part d over

    pub no_item_reads : (early late : ReadCounts) → ReadsAtMost early late (digit_count (parts (bits_of l.words)) + 1) 0 0
        → SampledReads (bits_of l.words) (as_bit bit) d rank None early late
    no_item_reads =
        outside_reads (bits_of l.words) l.upper l.lower tables (as_bit bit) rank begin.part p.part d over (digit_count (parts (bits_of l.words)) + 1)

  -- ---- the walk from a sample

  module _ (some : begin.samples + (rank - begin.items) / 2 ^ d < length xs) (s from : ℕ)
      (s_is : s ≡ slice_index_or xs (begin.samples + (rank - begin.items) / 2 ^ d) 0)
      (from_is : from ≡ s % 2 ^ 21 + (if digit (rank - begin.items) (d - 1) then s / 2 ^ 21 else 0)) where
    pos : 1 ≤ d
    pos = omega (arith, p.low)

    there : sample_count_before (bits_of l.words) (as_bit bit) d begin.part + rank_in (bits_of l.words) (as_bit bit) rank begin.part / 2 ^ d
        < length (samples_of (bits_of l.words) (as_bit bit) d)
    there = omega (arith, position_is, some, ap length p.samples)

    start_is : from ≡ walk_start (part_of (bits_of l.words) begin.part) (as_bit bit) d (rank_in (bits_of l.words) (as_bit bit) rank begin.part)
    start_is =
        from_is
        ∙ ap (λ (r : ℕ). s % 2 ^ 21 + (if digit r (d - 1) then s / 2 ^ 21 else 0)) in_part
        ∙ start_from (bits_of l.words) l.upper l.lower tables (as_bit bit) rank begin.part p.part d pos s there
        (s_is ∙ ap₂ (λ (ys : List ℕ) (i : ℕ). get_or ys i 0) p.samples position_is)

    pub begins_inside : from < entries_from (length l.lower) begin.part
    begins_inside =
        subst (λ (x : ℕ). x < entries_from (length l.lower) begin.part) (sym start_is)
        (start_in (bits_of l.words) l.upper l.lower tables (as_bit bit) rank begin.part p.part d pos there)

    pub begins_below : items_to bit (bits_of l.words) begin.part from ≤ rank - begin.items
    begins_below =
        subst (λ (x : ℕ). items_to bit (bits_of l.words) begin.part from ≤ x) (sym in_part)
        (subst (λ (x : ℕ). items_to bit (bits_of l.words) begin.part x ≤ rank_in (bits_of l.words) (as_bit bit) rank begin.part) (sym start_is)
        (start_below (bits_of l.words) l.upper l.lower tables (as_bit bit) rank begin.part p.part d pos there))

    -- the reads of a walk to entry e
    pub walk_reads : (e : ℕ) → IsLastEntry (sought_in bit l.words) (length l.lower) begin.part (rank - begin.items) e → from ≤ e
        → (early late : ReadCounts) → ReadsAtMost early late (digit_count (parts (bits_of l.words)) + 1) (e - from + 2) 8
        → (o : Option ℕ) → IsSelect (bits_of l.words) (as_bit bit) rank o → IfSome o (λ n. n / 2048 ≡ begin.part * 2 ^ 21 + e)
        → SampledReads (bits_of l.words) (as_bit bit) d rank o early late
    walk_reads e last order early late reads =
        let v = as_bit bit in
        let low = subst (λ (x : ℕ). IsLastEntry (sought_in bit l.words) (length l.lower) begin.part x e) in_part last in
        let inside = interval_inside (bits_of l.words) l.upper l.lower tables v rank begin.part p.part d there in
        sampled_reads (bits_of l.words) l.upper l.lower tables v rank begin.part p.part d e low
        (first_inside (bits_of l.words) l.upper l.lower tables v rank begin.part p.part d inside) early late
        (record {
          order = subst (λ (x : ℕ). x ≤ e) start_is order;
          reads = record {
            upper = reads.upper;
            lower = omega (arith, reads.lower, start_is);
            words = reads.words;
            upper_kept = reads.upper_kept;
            lower_kept = reads.lower_kept;
            words_kept = reads.words_kept;
          };
        })

-- what is selected in the entry where the walk ends, of the source as it was
pub selected_there : (bit k left rank : ℕ) (l l' : Lists) (o : Option ℕ) → l' ≡ l
    → ones_before (sought_in bit l.words) (k * 2 ^ 32) + left ≡ rank
    → IsSelect (bits_of l'.words) (as_bit bit) (ones_before (sought_in bit l'.words) (k * 2 ^ 32) + left) o
    → IsSelect (bits_of l.words) (as_bit bit) rank o
selected_there bit k left rank l l' o same total h =
    subst (λ (n : ℕ). IsSelect (bits_of l.words) (as_bit bit) n o) total
    (subst (λ (x : Lists). IsSelect (bits_of x.words) (as_bit bit) (ones_before (sought_in bit x.words) (k * 2 ^ 32) + left) o) same h)

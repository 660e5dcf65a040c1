-- Ranks that were read one after another.
use Rattle.std.proofs.Common.{ℕ, ◌+◌, ◌*◌, ◌≤◌, refl, ◌∙◌, subst, arith}
use Rattle.bitm_tables.specs.declared.source.counts.ReadCounts.{ReadCounts}
use Rattle.bitm_tables.specs.Reads.{ReadsAtMost}
use Rattle.bitm_tables.specs.Tables.{Lists}
use Rattle.bitm_selection.specs.Selection.{OnlySelectsBy}
use Rattle.matrix_levels.specs.Matrix.{LevelTables, OnlyRanks, OnlyRanksAndSelects}

none : (a : ReadCounts) → ReadsAtMost a a 0 0 0
none a = record {
  upper = omega arith;
  lower = omega arith;
  words = omega arith;
  upper_kept = omega arith;
  lower_kept = omega arith;
  words_kept = omega arith;
}

fewer : (a b : ReadCounts) (u v w x y z : ℕ) → ReadsAtMost a b u v w → u ≤ x → v ≤ y → w ≤ z → ReadsAtMost a b x y z
fewer a b u v w x y z h uppers lowers words =
    record {
      upper = omega (arith, h.upper, uppers);
      lower = omega (arith, h.lower, lowers);
      words = omega (arith, h.words, words);
      upper_kept = h.upper_kept;
      lower_kept = h.lower_kept;
      words_kept = h.words_kept;
    }

more : (a b c : ReadCounts) (u v w x y z : ℕ) → ReadsAtMost a b u v w → ReadsAtMost b c x y z → ReadsAtMost a c (u + x) (v + y) (w + z)
more a b c u v w x y z first next = record {
  upper = omega (arith, first.upper, next.upper);
  lower = omega (arith, first.lower, next.lower);
  words = omega (arith, first.words, next.words);
  upper_kept = omega (arith, first.upper_kept, next.upper_kept);
  lower_kept = omega (arith, first.lower_kept, next.lower_kept);
  words_kept = omega (arith, first.words_kept, next.words_kept);
}

module _ {S : Type 0} (l : LevelTables) (lists_of : S → Lists) (reads_of : S → ReadCounts) where
  pub ranks-none : (s : S) → OnlyRanks l lists_of reads_of s s 0
  ranks-none s = record { at_most = none (reads_of s); quick = λ _. none (reads_of s); same = refl }

  pub ranks-fewer : (s t : S) (j k : ℕ) → OnlyRanks l lists_of reads_of s t j → j ≤ k → OnlyRanks l lists_of reads_of s t k
  ranks-fewer s t j k h few = record {
    at_most = fewer (reads_of s) (reads_of t) j j (8 * j) k k (8 * k) h.at_most few few (omega (arith, few));
    quick = λ e. fewer (reads_of s) (reads_of t) j 0 (2 * j) k 0 (2 * k) (h.quick e) few (omega arith) (omega (arith, few));
    same = h.same;
  }

  pub ranks-more : (s t u : S) (j i k : ℕ) → OnlyRanks l lists_of reads_of s t j → OnlyRanks l lists_of reads_of t u i → j + i ≤ k
      → OnlyRanks l lists_of reads_of s u k
  ranks-more s t u j i k first next few = record {
    at_most = fewer (reads_of s) (reads_of u) (j + i) (j + i) (8 * j + 8 * i) k k (8 * k)
        (more (reads_of s) (reads_of t) (reads_of u) j j (8 * j) i i (8 * i) first.at_most next.at_most) few few (omega (arith, few));
    quick = λ e. fewer (reads_of s) (reads_of u) (j + i) 0 (2 * j + 2 * i) k 0 (2 * k)
        (more (reads_of s) (reads_of t) (reads_of u) j 0 (2 * j) i 0 (2 * i) (first.quick e) (next.quick e)) few (omega arith) (omega (arith, few));
    same = next.same ∙ first.same;
  }

  -- selections after ranks, and ranks alone
  pub ranks-then-selects : (s t u : S) (r k : ℕ) (most : Lists → ReadCounts) → OnlyRanks l lists_of reads_of s t r
      → OnlySelectsBy lists_of reads_of t u (most (lists_of t)) k 0 → OnlyRanksAndSelects l lists_of reads_of s u r (most (lists_of s)) k
  ranks-then-selects s t u r k most first next =
      let each = most (lists_of t) in
      subst (λ ls. OnlyRanksAndSelects l lists_of reads_of s u r (most ls) k) first.same
      (record {
        at_most = fewer (reads_of s) (reads_of u) (r + k * each.upper) (r + k * each.lower) (8 * r + (k * each.words + 0))
            (r + k * each.upper) (r + k * each.lower) (8 * r + k * each.words)
            (more (reads_of s) (reads_of t) (reads_of u) r r (8 * r) (k * each.upper) (k * each.lower) (k * each.words + 0) first.at_most next.at_most)
            (omega arith) (omega arith) (omega arith);
        quick = λ e. fewer (reads_of s) (reads_of u) (r + k * each.upper) (0 + k * each.lower) (2 * r + (k * each.words + 0))
            (r + k * each.upper) (k * each.lower) (2 * r + k * each.words)
            (more (reads_of s) (reads_of t) (reads_of u) r 0 (2 * r) (k * each.upper) (k * each.lower) (k * each.words + 0) (first.quick e) next.at_most)
            (omega arith) (omega arith) (omega arith);
        same = next.same ∙ first.same;
      })

  pub ranks-without-selects : (s t : S) (r k : ℕ) (each : ReadCounts) → OnlyRanks l lists_of reads_of s t r
      → OnlyRanksAndSelects l lists_of reads_of s t r each k
  ranks-without-selects s t r k each h = record {
    at_most = fewer (reads_of s) (reads_of t) r r (8 * r) (r + k * each.upper) (r + k * each.lower) (8 * r + k * each.words) h.at_most
        (omega arith) (omega arith) (omega arith);
    quick = λ e. fewer (reads_of s) (reads_of t) r 0 (2 * r) (r + k * each.upper) (k * each.lower) (2 * r + k * each.words) (h.quick e)
        (omega arith) (omega arith) (omega arith);
    same = h.same;
  }

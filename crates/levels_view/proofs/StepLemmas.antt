-- One level on, by what words and tables say; and what was read on the way.
use Rattle.std.proofs.Common.{◌≡◌, ℕ, suc, ◌+◌, ◌*◌, ◌^◌, ◌<◌, ◌≤◌, Bool, true, false, List, length, take, get_or, count_by, refl, sym, ap, ◌∙◌, arith}
use Rattle.std.proofs.lemmas.List.{length-take-le}
use Rattle.std.proofs.Math.Nat.{pow-succ'}
use Rattle.bit_lists.specs.Bits.{digit, item}
use Rattle.bitm_tables.specs.declared.source.counts.ReadCounts.{ReadCounts}
use Rattle.bitm_tables.specs.Reads.{OnlyReads}
use Rattle.bitm_tables.specs.Tables.{Lists}
use Rattle.matrix_levels.specs.Levels.{has_digit, level, partition_position}
use Rattle.matrix_levels.specs.Matrix.{digit_position, IsMatrixOf, LevelTables}
use Rattle.matrix_levels.proofs.lemmas.ColumnLemmas.{length-level}
use Rattle.matrix_levels.proofs.lemmas.MatrixLemmas.{digit-is}
use Rattle.matrix_levels.proofs.lemmas.PartLemmas.{both-digits, moved-inside}
use mir.Val.{bool_byte}

-- one digit more
pub digits_more : (n d : ℕ) (v : Bool) → n < 2 ^ d → 2 * n + bool_byte v < 2 ^ (d + 1)
digits_more n d v small = by v (let e : d + 1 ≡ suc d = omega arith in ap (λ k. 2 ^ k) e ∙ pow-succ' 2 d)
  where
    by : (u : Bool) → 2 ^ (d + 1) ≡ 2 * 2 ^ d → 2 * n + bool_byte u < 2 ^ (d + 1)
    by true twice = omega (arith, small, twice)
    by false twice = omega (arith, small, twice)

-- a level has all numbers, and no more items of a digit stand before a position than items
module _ (xs : List ℕ) (l : LevelTables) (b : List Bool) (h : IsMatrixOf xs l b) (d : ℕ) where
  pub level-len : length (level xs l.width d) ≡ l.len
  level-len = omega (arith, length-level xs l.width d, h.count)

  pub ones-few : (p : ℕ) → p ≤ l.len → count_by (has_digit (digit_position l d) true) (take p (level xs l.width d)) ≤ p
  ones-few p inside =
      let ys = level xs l.width d in
      omega (arith, both-digits (digit_position l d) (take p ys), length-take-le p ys (omega (arith, inside, level-len)))

-- so few numbers have positions that fit into a word
pub len-short : (w n : ℕ) → 1 ≤ w → w * n < 2 ^ 63 → n < 2 ^ 63
len-short w n some short = grind arith

-- nothing was read, and what two calls read after one another
module _ {S : Type 0} (lists_of : S → Lists) (reads_of : S → ReadCounts) where
  pub reads-none : (s : S) (u v w : ℕ) → OnlyReads lists_of reads_of s s u v w
  reads-none s u v w = record {
    at_most = record {
      upper = omega arith;
      lower = omega arith;
      words = omega arith;
      upper_kept = omega arith;
      lower_kept = omega arith;
      words_kept = omega arith;
    };
    same = refl;
  }

  pub reads-more : (s t r : S) (u v w x y z p q m : ℕ) → OnlyReads lists_of reads_of s t u v w → OnlyReads lists_of reads_of t r x y z
      → u + x ≤ p → v + y ≤ q → w + z ≤ m → OnlyReads lists_of reads_of s r p q m
  reads-more s t r u v w x y z p q m first next uppers lowers words = record {
    at_most = record {
      upper = omega (arith, first.at_most.upper, next.at_most.upper, uppers);
      lower = omega (arith, first.at_most.lower, next.at_most.lower, lowers);
      words = omega (arith, first.at_most.words, next.at_most.words, words);
      upper_kept = omega (arith, first.at_most.upper_kept, next.at_most.upper_kept);
      lower_kept = omega (arith, first.at_most.lower_kept, next.at_most.lower_kept);
      words_kept = omega (arith, first.at_most.words_kept, next.at_most.words_kept);
    };
    same = next.same ∙ first.same;
  }

-- the bit of an item is its digit, and it moves to a position of the next level
pub step-is : (xs : List ℕ) (l : LevelTables) (b : List Bool) → IsMatrixOf xs l b → (d p : ℕ) → d < l.width → p < l.len → (v : Bool) (next : ℕ)
    → v ≡ item b (d * l.len + p) → next ≡ partition_position (digit_position l d) v (level xs l.width d) p
    → (v ≡ digit (get_or (level xs l.width d) p 0) (digit_position l d)) × (next < l.len)
step-is xs l b h d p less inside v next bit moves =
    let own = bit ∙ digit-is xs l b h d p less inside in
    let len = level-len xs l b h d in (
      own,
      omega (arith, moves, moved-inside (digit_position l d) v (level xs l.width d) p (omega (arith, inside, len)) (sym own), len),
    )

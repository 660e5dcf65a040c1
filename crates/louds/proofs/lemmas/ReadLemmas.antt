-- What calls read that follow one another.
use Rattle.std.proofs.Common.{◌≡◌, ℕ, ◌+◌, ◌*◌, ◌≤◌, List, refl, sym, ap, ◌∙◌, subst, arith}
use Rattle.std.proofs.Math.Nat.{mul-le-mul_left}
use Rattle.bitm_tables.specs.declared.source.counts.ReadCounts.{ReadCounts}
use Rattle.bitm_tables.specs.Tables.{Lists}
use Rattle.bitm_selection.specs.Selection.{OnlySelectsBy}
use Rattle.louds.specs.Leading.{LabelReads, ReadsLabels}

module _ {S : Type 0} (lists_of : S → Lists) (reads_of : S → ReadCounts) (most : Lists → ReadCounts) where
  -- the selections and words of two calls, and no more than that
  pub selects_then : (s t r : S) (a b n v w x : ℕ) → OnlySelectsBy lists_of reads_of s t (most (lists_of s)) a v
      → OnlySelectsBy lists_of reads_of t r (most (lists_of t)) b w → a + b ≤ n → v + w ≤ x
      → OnlySelectsBy lists_of reads_of s r (most (lists_of s)) n x
  selects_then s t r a b n v w x first next selections words =
      let each = most (lists_of s) in
      let other = most (lists_of t) in
      let upper : b * other.upper ≡ b * each.upper = ap (λ l. b * (most l).upper) first.same in
      let lower : b * other.lower ≡ b * each.lower = ap (λ l. b * (most l).lower) first.same in
      let word : b * other.words ≡ b * each.words = ap (λ l. b * (most l).words) first.same in
      record {
        at_most = record {
          upper = omega (arith, first.at_most.upper, next.at_most.upper, upper, mul-le-mul_left each.upper selections);
          lower = omega (arith, first.at_most.lower, next.at_most.lower, lower, mul-le-mul_left each.lower selections);
          words = omega (arith, first.at_most.words, next.at_most.words, word, mul-le-mul_left each.words selections);
          upper_kept = omega (arith, first.at_most.upper_kept, next.at_most.upper_kept);
          lower_kept = omega (arith, first.at_most.lower_kept, next.at_most.lower_kept);
          words_kept = omega (arith, first.at_most.words_kept, next.at_most.words_kept);
        };
        same = next.same ∙ first.same;
      }

  -- nothing was read
  pub selects_nothing : (s : S) (k w : ℕ) → OnlySelectsBy lists_of reads_of s s (most (lists_of s)) k w
  selects_nothing s k w = record {
    at_most = record {
      upper = omega arith;
      lower = omega arith;
      words = omega arith;
      upper_kept = omega arith;
      lower_kept = omega arith;
      words_kept = omega arith;
    };
    same = refl;
  }

  -- and so no more than more
  pub selects_within : (s t : S) (k n v x : ℕ) → OnlySelectsBy lists_of reads_of s t (most (lists_of s)) k v → k ≤ n → v ≤ x
      → OnlySelectsBy lists_of reads_of s t (most (lists_of s)) n x
  selects_within s t k n v x first selections words =
      selects_then s t t k 0 n v 0 x first (selects_nothing t 0 0) (omega (arith, selections)) (omega (arith, words))

-- labels that were read one after another
pub labels_more : (s t r : LabelReads) (k m : ℕ) → ReadsLabels s t (k * m) → ReadsLabels t r m → ReadsLabels s r ((k + 1) * m)
labels_more s t r k m first next = record {
  at_most = omega (arith, first.at_most, next.at_most);
  words = next.words ∙ first.words;
  width = next.width ∙ first.width;
}

pub labels_most : (s t : LabelReads) (k n m : ℕ) → ReadsLabels s t (k * m) → k ≤ n → ReadsLabels s t (n * m)
labels_most s t k n m first within = record {
  at_most = omega (arith, first.at_most, mul-le-mul_left m within);
  words = first.words;
  width = first.width;
}

-- what holds of the lists of a source and of labels, holds of the same ones
pub moved : (P : Lists → List ℕ → Type 0) (old new : Lists) (ls xs : List ℕ) → new ≡ old → xs ≡ ls → P new xs → P old ls
moved P old new ls xs same is h = subst (λ (m : Lists). P m ls) same (subst (λ (l : List ℕ). P new l) is h)

-- what is read of the same words is the same
pub same_read : {A : Type 0} (f : List ℕ → ℕ → ℕ → A) (s t : LabelReads) (n : ℕ) → t.words ≡ s.words → t.width ≡ s.width
    → f t.words t.width n ≡ f s.words s.width n
same_read f s t n words width = ap (λ w. f w t.width n) words ∙ ap (λ k. f s.words k n) width

-- and what holds of them holds
pub same_held : (P : List ℕ → ℕ → ℕ → Type 0) (s t : LabelReads) (n : ℕ) → t.words ≡ s.words → t.width ≡ s.width
    → P s.words s.width n → P t.words t.width n
same_held P s t n words width h =
    subst (λ (w : List ℕ). P w t.width n) (sym words) (subst (λ (k : ℕ). P s.words k n) (sym width) h)

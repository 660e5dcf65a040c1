-- Lines and entries of the table that are counted, one entry after another: what is so of all of them, and why it stays.
use Rattle.std.proofs.Common.{◌≡◌, ℕ, ◌+◌, ◌-◌, ◌*◌, ◌/◌, ◌%◌, ◌^◌, ◌<◌, ◌≤◌, List, length, get_or, min, refl, sym, ap, ◌∙◌, arith, ⊎_elim}
use Rattle.std.proofs.lemmas.Bool.{cases_lt}
use Rattle.std.specs.Int.{div_ceil}
use Rattle.digits.specs.Digits.{digits_of, digits_before}
use Rattle.digits.specs.Tables.{digit_lists, counts_between, count_field, HasDigitTables, FollowsEntry}
use Rattle.digits.proofs.lemmas.DigitLemmas.{digits_before_none, digits_before-self}
use Rattle.digits.proofs.lemmas.TableLemmas.{between_few, field-counts_between}

-- the first `entry` entries of a table, and the lines of these, count the digits xs of n lines; w has the counts of the
-- lines of the last of them
pub record CountedTo (xs lines table : List ℕ) (n entry w : ℕ) : Type 0 where
  pub numbers : (k d : ℕ) → d < 4 → k < entry → get_or table (4 * k + d) 0 ≡ digits_before d xs (224 * (256 * k))
  pub words : (k : ℕ) → k < 256 * entry → k < n → get_or lines (8 * k) 0 ≡ counts_between xs (224 * (256 * (k / 256))) (224 * k + 128)
  pub last : 0 < entry → w ≡ counts_between xs (224 * (256 * (entry - 1))) (224 * min n (256 * entry))

-- the next number of the table is right
pub next_counted : (xs lines table : List ℕ) (n entry w d r : ℕ) → length xs ≡ 224 * n → n < 2 ^ 55 → 256 * entry < n → d < 4
    → CountedTo xs lines table n entry w → FollowsEntry table entry w d r → r ≡ digits_before d xs (224 * (256 * entry))
next_counted xs lines table n entry w d r len short begun low so_far next =
    ⊎_elim
    (λ (some : 0 < entry).
    let from = 224 * (256 * (entry - 1)) in
    let to : 224 * min n (256 * entry) ≡ 224 * (256 * entry) = omega arith in
    let last : w ≡ counts_between xs from (224 * (256 * entry)) = so_far.last some ∙ ap (counts_between xs from) to in
    let order : from ≤ 224 * (256 * entry) = omega arith in
    let inside : 224 * (256 * entry) ≤ length xs = omega arith in
    let field =
    ap (λ (v : ℕ). count_field v d) last ∙ field-counts_between xs from (224 * (256 * entry)) d order (omega arith) inside low in
    omega (
      arith,
      next.next some,
      so_far.numbers (entry - 1) d low (omega arith),
      field,
      (between_few d xs from (224 * (256 * entry)) order inside).0,
      digits_before-self d xs (224 * (256 * entry)),
    ))
    (λ (none : entry ≤ 0).
    let zero : entry ≡ 0 = omega arith in
    let position : 224 * (256 * entry) ≡ 0 = omega arith in
    next.first zero ∙ sym (ap (digits_before d xs) position ∙ digits_before_none d xs))
    (cases_lt 0 entry)

-- where the table is right, each number is the next one
pub next_right : (xs lines table : List ℕ) (n entry w d : ℕ) → length xs ≡ 224 * n → n < 2 ^ 55 → 256 * entry < n → d < 4
    → CountedTo xs lines table n entry w → get_or table (4 * entry + d) 0 ≡ digits_before d xs (224 * (256 * entry))
    → FollowsEntry table entry w d (get_or table (4 * entry + d) 0)
next_right xs lines table n entry w d len short begun low so_far is =
    record {
      first = λ none.
          is
          ∙ sym (next_counted xs lines table n entry w d 0 len short begun low so_far
          (record { first = λ z. refl; next = λ some. absurd (omega arith) }));
      next = λ some.
          is
          ∙ sym (next_counted xs lines table n entry w d ((get_or table (4 * (entry - 1) + d) 0 + count_field w d) % 2 ^ 64) len short begun low so_far
          (record { first = λ z. absurd (omega arith); next = λ s. refl }));
    }

-- one entry more is counted
pub counted_more : (xs lines table new_lines new_table : List ℕ) (n entry w v : ℕ) → length xs ≡ 224 * n → n < 2 ^ 55 → 256 * entry < n
    → CountedTo xs lines table n entry w
    → ((i : ℕ) → i < 4 * entry → get_or new_table i 0 ≡ get_or table i 0)
    → ((d : ℕ) → d < 4 → FollowsEntry table entry w d (get_or new_table (4 * entry + d) 0))
    → ((i : ℕ) → i < 8 * (256 * entry) → get_or new_lines i 0 ≡ get_or lines i 0)
    → ((k : ℕ) → 256 * entry ≤ k → k < min n (256 * entry + 256) → get_or new_lines (8 * k) 0 ≡ counts_between xs (224 * (256 * entry)) (224 * k + 128))
    → v ≡ counts_between xs (224 * (256 * entry)) (224 * min n (256 * entry + 256))
    → CountedTo xs new_lines new_table n (entry + 1) v
counted_more xs lines table new_lines new_table n entry w v len short begun so_far same_table next same_lines words all =
    record {
      numbers = λ k d low l.
          ⊎_elim
          (λ (before : k < entry). same_table (4 * k + d) (omega arith) ∙ so_far.numbers k d low before)
          (λ (now : entry ≤ k).
          let is : k ≡ entry = omega arith in
          ap (λ (e : ℕ). get_or new_table (4 * e + d) 0) is
          ∙ next_counted xs lines table n entry w d _ len short begun low so_far (next d low)
          ∙ sym (ap (λ (e : ℕ). digits_before d xs (224 * (256 * e))) is))
          (cases_lt k entry);
      words = λ k l inside.
          ⊎_elim
          (λ (before : k < 256 * entry). same_lines (8 * k) (omega arith) ∙ so_far.words k before inside)
          (λ (now : 256 * entry ≤ k).
          let is : k / 256 ≡ entry = omega arith in
          words k now (omega arith) ∙ sym (ap (λ (e : ℕ). counts_between xs (224 * (256 * e)) (224 * k + 128)) is))
          (cases_lt k (256 * entry));
      last = λ some.
          let from : entry + 1 - 1 ≡ entry = omega arith in
          let to : 256 * (entry + 1) ≡ 256 * entry + 256 = omega arith in
          all
          ∙ sym (ap (λ (e : ℕ). counts_between xs (224 * (256 * e)) (224 * min n (256 * (entry + 1)))) from
          ∙ ap (λ (m : ℕ). counts_between xs (224 * (256 * entry)) (224 * min n m)) to);
    }

-- where all entries are counted, the tables are right
pub counted_all : (lines table : List ℕ) (n entry w len : ℕ) → n ≡ length lines / 8 → entry ≡ div_ceil n 256 → length table ≡ 4 * entry
    → CountedTo (digits_of lines) lines table n entry w → HasDigitTables (digit_lists lines table len)
counted_all lines table n entry w len lines_of is table_of all =
    record {
      entries = λ k d low inside. all.numbers k d low (omega arith);
      counts = λ k inside. let within : k < n = omega arith in all.words k (omega arith) within;
    }

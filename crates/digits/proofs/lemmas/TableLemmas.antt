-- The counts of lines and of their table, and the digits that count.
use Rattle.std.proofs.Common.{◌≡◌, ℕ, zero, suc, ◌+◌, ◌-◌, ◌*◌, ◌/◌, ◌^◌, ◌<◌, ◌≤◌, ◌==◌, List, length, get_or, count_by, Bool, true, false, refl, ap, ap₂, subst, ◌∙◌, arith, length-take}
use Rattle.std.proofs.lemmas.List.{get_or-take, take-take}
use Rattle.bit_lists.proofs.lemmas.WordLemmas.{truth}
use Rattle.digits.specs.Digits.{digits_of, digit_of, digits_before}
use Rattle.digits.specs.Tables.{DigitLists, HasDigitSizes, HasDigitTables, digits_in, count_field, digits_between, counts_between}
use Rattle.digits.proofs.lemmas.DigitLemmas.{length-digits_of, item-digits_of, digits_before_more, by_digit}

-- ---- the digits that count

pub length-digits_in : (lists : DigitLists) → HasDigitSizes lists → length (digits_in lists) ≡ lists.len
length-digits_in lists sizes =
    omega (arith, length-take lists.len (digits_of lists.lines), length-digits_of lists.lines, sizes.lines_len)

pub item-digits_in : (lists : DigitLists) (i : ℕ) → HasDigitSizes lists → i < lists.len → get_or (digits_in lists) i 0 ≡ digit_of lists.lines i
item-digits_in lists i sizes l =
    get_or-take lists.len (digits_of lists.lines) i 0 l ∙ item-digits_of lists.lines i (omega (arith, sizes.lines_len, l))

pub before-digits_in : (lists : DigitLists) (d i : ℕ) → i ≤ lists.len → digits_before d (digits_in lists) i ≡ digits_before d (digits_of lists.lines) i
unfolding digits_before
before-digits_in lists d i l = ap (count_by (λ x. x == d)) (take-take i lists.len (digits_of lists.lines) l)

-- ---- counts

-- over k digits more, a count rises by at most k
pub counts_rise : (d : ℕ) (xs : List ℕ) (i k : ℕ) → i + k ≤ length xs
    → (digits_before d xs i ≤ digits_before d xs (i + k)) × (digits_before d xs (i + k) ≤ digits_before d xs i + k)
counts_rise d xs i zero l =
    let e : i + 0 ≡ i = omega arith in (omega (arith, ap (digits_before d xs) e), omega (arith, ap (digits_before d xs) e))
counts_rise d xs i (suc k) l =
    let e : i + suc k ≡ i + k + 1 = omega arith in
    let rest = counts_rise d xs i k (omega arith) in
    let more = digits_before_more d xs (i + k) (omega arith) in
    let few : truth (get_or xs (i + k) 0 == d) ≤ 1 = by (get_or xs (i + k) 0 == d) in
    (omega (arith, ap (digits_before d xs) e, rest.0, more), omega (arith, ap (digits_before d xs) e, rest.1, more, few))
  where
    by : (b : Bool) → truth b ≤ 1
    by true = omega arith
    by false = omega arith

pub between_few : (d : ℕ) (xs : List ℕ) (i j : ℕ) → i ≤ j → j ≤ length xs
    → (digits_before d xs i ≤ digits_before d xs j) × (digits_before d xs j ≤ digits_before d xs i + (j - i))
between_few d xs i j order inside =
    let e : i + (j - i) ≡ j = omega arith in
    subst (λ (n : ℕ). (digits_before d xs i ≤ digits_before d xs n) × (digits_before d xs n ≤ digits_before d xs i + (j - i))) e (counts_rise d xs i (j - i) (omega arith))

-- the four fields of a word
four_fields : (a b c e d : ℕ) → a < 2 ^ 16 → b < 2 ^ 16 → c < 2 ^ 16 → e < 2 ^ 16
    → (P : ℕ → ℕ) → P 0 ≡ a → P 1 ≡ b → P 2 ≡ c → P 3 ≡ e → d < 4
    → count_field (a + b * 2 ^ 16 + c * 2 ^ 32 + e * 2 ^ 48) d ≡ P d
four_fields a b c e d la lb lc le P pa pb pc pe low =
    let w = a + b * 2 ^ 16 + c * 2 ^ 32 + e * 2 ^ 48 in
    by_digit (λ k. count_field w k ≡ P k) (omega (arith, pa)) (omega (arith, pb)) (omega (arith, pc)) (omega (arith, pe)) d low

pub field-counts_between : (xs : List ℕ) (i j d : ℕ) → i ≤ j → j ≤ i + 65535 → j ≤ length xs → d < 4
    → count_field (counts_between xs i j) d ≡ digits_between d xs i j
unfolding counts_between
field-counts_between xs i j d order near inside low =
    let few : (e : ℕ) → digits_between e xs i j < 2 ^ 16 = λ e. omega (arith, (between_few e xs i j order inside).1) in
    four_fields (digits_between 0 xs i j) (digits_between 1 xs i j) (digits_between 2 xs i j) (digits_between 3 xs i j) d
    (few 0) (few 1) (few 2) (few 3) (λ e. digits_between e xs i j) refl refl refl refl low

pub counts_between-fits : (xs : List ℕ) (i j : ℕ) → i ≤ j → j ≤ i + 65535 → j ≤ length xs → counts_between xs i j < 2 ^ 64
unfolding counts_between
counts_between-fits xs i j order near inside =
    let few : (e : ℕ) → digits_between e xs i j < 2 ^ 16 = λ e. omega (arith, (between_few e xs i j order inside).1) in
    omega (arith, few 0, few 1, few 2, few 3)

pub counts_between-none : (xs : List ℕ) (i : ℕ) → counts_between xs i i ≡ 0
unfolding counts_between
counts_between-none xs i = omega arith

pub counts_between-add : (xs : List ℕ) (i j k : ℕ) → i ≤ j → j ≤ k → k ≤ length xs
    → counts_between xs i j + counts_between xs j k ≡ counts_between xs i k
unfolding counts_between
counts_between-add xs i j k first second inside =
    let each : (d : ℕ) → digits_between d xs i j + digits_between d xs j k ≡ digits_between d xs i k =
    λ d. omega (arith, (between_few d xs i j first (omega arith)).0, (between_few d xs j k second inside).0) in
    omega (arith, each 0, each 1, each 2, each 3)

-- the counts from line `first` to a position of line `line`
pub counts_on : (xs ys : List ℕ) (first line to before counts : ℕ) → ys ≡ xs → first ≤ line → 224 * line ≤ to → to ≤ length xs
    → before ≡ counts_between xs (224 * first) (224 * line) → counts ≡ counts_between ys (224 * line) to
    → before + counts ≡ counts_between xs (224 * first) to
counts_on xs ys first line to before counts same order further inside is more =
    ap₂ (λ (a b : ℕ). a + b) is (more ∙ ap (λ (zs : List ℕ). counts_between zs (224 * line) to) same)
    ∙ counts_between-add xs (224 * first) (224 * line) to (omega arith) further inside

-- four counts in one word
pub packed : (xs : List ℕ) (i j a b c e r : ℕ) → digits_before 0 xs i + a ≡ digits_before 0 xs j → digits_before 1 xs i + b ≡ digits_before 1 xs j
    → digits_before 2 xs i + c ≡ digits_before 2 xs j → digits_before 3 xs i + e ≡ digits_before 3 xs j
    → r ≡ a + b * 2 ^ 16 + c * 2 ^ 32 + e * 2 ^ 48 → r ≡ counts_between xs i j
unfolding counts_between
packed xs i j a b c e r pa pb pc pe is = omega arith

-- ---- right tables

-- a number of the table and the field of a line are the count before the line's position 128
pub middle_counted : (lists : DigitLists) → HasDigitSizes lists → HasDigitTables lists → (k d : ℕ) → k ≤ lists.len / 224 → d < 4
    → get_or lists.table (4 * (k / 256) + d) 0 + count_field (get_or lists.lines (8 * k) 0) d ≡ digits_before d (digits_of lists.lines) (224 * k + 128)
middle_counted lists sizes tables k d line low =
    let xs = digits_of lists.lines in
    let base = 224 * (256 * (k / 256)) in
    let len = length-digits_of lists.lines in
    let inside : 224 * k + 128 ≤ length xs = omega (arith, len, sizes.lines_len) in
    let order : base ≤ 224 * k + 128 = omega arith in
    let entry = tables.entries (k / 256) d low (omega (arith, sizes.table_len)) in
    let word = tables.counts k (omega (arith, sizes.lines_len)) in
    let field = ap (λ (w : ℕ). count_field w d) word ∙ field-counts_between xs base (224 * k + 128) d order (omega arith) inside low in
    omega (arith, entry, field, (between_few d xs base (224 * k + 128) order inside).0)

-- The numbers of records: the table as it is made, and the ones that it and two words count.
use Rattle.std.proofs.Common.{◌≡◌, ℕ, zero, suc, ◌+◌, ◌-◌, ◌*◌, ◌/◌, ◌%◌, ◌^◌, ◌<◌, ◌≤◌, Bool, List, length, slice_index, slice_set, sym, count_ones, ⊎_elim, arith, ap, ◌∙◌, subst, refl}
use Rattle.std.specs.Int.{div_ceil}
use Rattle.std.proofs.lemmas.Bool.{cases_lt}
use Rattle.std.proofs.lemmas.List.{get_or-set_same, get_or-set_other}
use Rattle.bit_lists.proofs.lemmas.BitsLemmas.{length-bits_of}
use Rattle.bit_lists.specs.Bits.{bits_of}
use Rattle.bit_lists.specs.Count.{ones_before}
use Rattle.bitm_tables.proofs.lemmas.StretchLemmas.{ones_before-between, word_more, word_through}
use Rattle.bitm_tables.proofs.lemmas.TableLemmas.{tables_sum}
use Rattle.bitm_tables.specs.Entry.{field_0}
use Rattle.bitm_tables.specs.Quarters.{AreQuartersOf, quarter_count, record_count}
use Rattle.bitm_tables.specs.Tables.{AreTablesOf}

-- ---- the table as it is made

-- a number counts to a quarter of record r
abbrev Counts : List Bool → ℕ → ℕ → ℕ → Type 0
Counts b r q e = ones_before b (r / 2 ^ 23 * 2 ^ 32) + record_count e + quarter_count e q ≡ ones_before b (512 * r + 128 * q)

-- the first n numbers count the quarters of their records
abbrev pub CountTo : List Bool → List ℕ → ℕ → Type 0
CountTo b xs n = (r q : ℕ) → r < n → q < 4 → 512 * r + 128 * q < length b → Counts b r q (slice_index xs r)

-- one number more
pub counted_more : (b : List Bool) (xs : List ℕ) (n e : ℕ) → n < length xs → CountTo b xs n
    → ((q : ℕ) → q < 4 → 512 * n + 128 * q < length b → Counts b n q e) → CountTo b (slice_set xs n e) (n + 1)
counted_more b xs n e inside so_far here r q less few begun =
    ⊎_elim
    (λ before. subst (λ (m : ℕ). Counts b r q m) (sym (get_or-set_other xs n r e 0 (λ same. omega (arith, before, same)))) (so_far r q before few begun))
    (λ from. let same : n ≡ r = omega (arith, less, from) in
    subst (λ (k : ℕ). Counts b k q (slice_index (slice_set xs n e) k)) same
    (subst (λ (m : ℕ). Counts b n q m) (sym (get_or-set_same xs n e 0 inside))
    (here q few (subst (λ (k : ℕ). 512 * k + 128 * q < length b) (sym same) begun))))
    (cases_lt r n)

-- a number of its parts: the ones before the record, and those of three quarters
pub number_counts : (b : List Bool) (r before x y z : ℕ) → before < 2 ^ 32 → x ≤ 128 → y ≤ 128 → z ≤ 128
    → ones_before b (r / 2 ^ 23 * 2 ^ 32) + before ≡ ones_before b (512 * r)
    → (q : ℕ) → q < 4
    → (0 < q → ones_before b (512 * r) + x ≡ ones_before b (512 * r + 128))
    → (1 < q → ones_before b (512 * r + 128) + y ≡ ones_before b (512 * r + 256))
    → (2 < q → ones_before b (512 * r + 256) + z ≡ ones_before b (512 * r + 384))
    → Counts b r q (before + (x + y + z) * 2 ^ 32 + (x + y) * 2 ^ 42 + x * 2 ^ 52)
number_counts b r before x y z fits hx hy hz base zero less one two three =
    let e : 512 * r ≡ 512 * r + 128 * 0 = omega arith in omega (arith, ap (ones_before b) e, fits, hx, hy, hz, base)
number_counts b r before x y z fits hx hy hz base (suc zero) less one two three =
    omega (arith, one (omega arith), fits, hx, hy, hz, base)
number_counts b r before x y z fits hx hy hz base (suc (suc zero)) less one two three =
    omega (arith, one (omega arith), two (omega arith), fits, hx, hy, hz, base)
number_counts b r before x y z fits hx hy hz base (suc (suc (suc zero))) less one two three =
    omega (arith, one (omega arith), two (omega arith), three (omega arith), fits, hx, hy, hz, base)
number_counts b r before x y z fits hx hy hz base (suc (suc (suc (suc q)))) less one two three = absurd (omega arith)

-- what a call counted of two words, in the words that it was given
pub counted_at : (ws words : List ℕ) (first n i j : ℕ) → ws ≡ words → 64 * first ≡ i → 64 * (first + 2) ≡ j
    → (first + 2 ≤ length ws → ones_before (bits_of ws) (64 * first) + n ≡ ones_before (bits_of ws) (64 * (first + 2)))
    → first + 2 ≤ length words → ones_before (bits_of words) i + n ≡ ones_before (bits_of words) j
counted_at ws words first n i j same i_is j_is counts inside =
    let P : List ℕ → Type 0 = λ m. first + 2 ≤ length m → ones_before (bits_of m) (64 * first) + n ≡ ones_before (bits_of m) (64 * (first + 2)) in
    omega (arith, subst P same counts inside, ap (ones_before (bits_of words)) i_is, ap (ones_before (bits_of words)) j_is)

-- a lower entry counts the ones before its records
pub before_record : (words upper lower : List ℕ) → AreTablesOf (bits_of words) upper lower → (at : ℕ) → 8 * at < length words
    → (e : ℕ) → e ≡ slice_index lower (at / 4)
    → (ones_before (bits_of words) (at / 2 ^ 23 * 2 ^ 32) + (field_0 e + e / 2 ^ (11 * (3 - at % 4)) / 2 ^ 32 % 2 ^ 11)
    ≡ ones_before (bits_of words) (512 * at)) × (field_0 e + e / 2 ^ (11 * (3 - at % 4)) / 2 ^ 32 % 2 ^ 11 < 2 ^ 32)
before_record words upper lower t at begun e e_is =
    let b = bits_of words in
    let part_at : 512 * at / 2 ^ 32 * 2 ^ 32 ≡ at / 2 ^ 23 * 2 ^ 32 = omega arith in
    let record_at : 64 * (512 * at / 512 * 8) ≡ 512 * at = omega arith in
    let entry_at : at / 4 ≡ 512 * at / 2048 = omega arith in
    let position : 512 * at / 512 ≡ at = omega arith in
    let sum : ones_before b (at / 2 ^ 23 * 2 ^ 32) + (field_0 e + e / 2 ^ (11 * (3 - at % 4)) / 2 ^ 32 % 2 ^ 11) ≡ ones_before b (512 * at) =
    omega (
      arith,
      tables_sum words upper lower t (512 * at) (omega (arith, begun)) (ones_before b (512 * at / 2 ^ 32 * 2 ^ 32)) e refl
          (e_is ∙ ap (λ (n : ℕ). slice_index lower n) entry_at),
      ap (ones_before b) part_at,
      ap (ones_before b) record_at,
      ap (λ (n : ℕ). e / 2 ^ (11 * (3 - n % 4)) / 2 ^ 32 % 2 ^ 11) position,
    ) in
    (sum, omega (arith, sum, ones_before-between b (at / 2 ^ 23 * 2 ^ 32) (512 * at) (omega arith)))

-- as many records as the words begin
pub records_of : (n : ℕ) → div_ceil n 8 ≡ div_ceil (64 * n) 512
records_of n = grind arith

-- a record that begins among the bits has a number
pub record_begun : (n r : ℕ) → 512 * r < n → r < div_ceil n 512
record_begun n r h = grind arith

-- ---- a rank by them

-- the first word of two counts where the position is in the second
pair_more : (words : List ℕ) (at w : ℕ) → at < length words → w < 2 ^ 64 → w ≡ slice_index words (at - at % 2)
    → ones_before (bits_of words) (64 * (at - at % 2)) + count_ones w * (at % 2) ≡ ones_before (bits_of words) (64 * at)
pair_more words at w inside fits is =
    let b = bits_of words in
    ⊎_elim
    (λ even.
    let none : at % 2 ≡ 0 = omega arith in
    let here : 64 * (at - at % 2) ≡ 64 * at = omega arith in
    omega (arith, ap (λ (n : ℕ). count_ones w * n) none, ap (ones_before b) here))
    (λ odd.
    let all : at % 2 ≡ 1 = omega arith in
    let next : 64 * (at - at % 2 + 1) ≡ 64 * at = omega arith in
    omega (
      arith,
      ap (λ (n : ℕ). count_ones w * n) all,
      word_more words (at - at % 2) w (omega arith) fits is,
      ap (ones_before b) next,
    ))
    (cases_lt (at % 2) 1)

-- an upper entry, a number and two words count the ones to a bit
pub quarters_sum : (words quarters : List ℕ) (h : AreQuartersOf (bits_of words) quarters) (i : ℕ) → i < length (bits_of words)
    → (u e w v : ℕ) → w < 2 ^ 64 → u ≡ ones_before (bits_of words) (i / 2 ^ 32 * 2 ^ 32) → e ≡ slice_index quarters (i / 512)
    → w ≡ slice_index words (i / 64 - i / 64 % 2) → v ≡ slice_index words (i / 64)
    → u + (record_count e + quarter_count e (i / 64 / 2 % 4) + count_ones w * (i / 64 % 2) + count_ones (v % 2 ^ (i % 64 + 1)))
    ≡ ones_before (bits_of words) (i + 1)
quarters_sum words quarters h i inside u e w v fits u_is e_is w_is v_is =
    let b = bits_of words in
    let in_words : i / 64 < length words = omega (arith, inside, length-bits_of words) in
    let part_at : i / 512 / 2 ^ 23 * 2 ^ 32 ≡ i / 2 ^ 32 * 2 ^ 32 = omega arith in
    let quarter_at : 512 * (i / 512) + 128 * (i / 64 / 2 % 4) ≡ 64 * (i / 64 - i / 64 % 2) = omega arith in
    omega (
      arith,
      u_is,
      ap (ones_before b) part_at,
      ap (λ (n : ℕ). record_count n + quarter_count n (i / 64 / 2 % 4)) e_is,
      h.counts (i / 512) (i / 64 / 2 % 4) (omega arith) (omega (arith, inside)),
      ap (ones_before b) quarter_at,
      pair_more words (i / 64) w in_words fits w_is,
      word_through words i v in_words v_is,
    )

-- ---- the table's length

enough : (n m : ℕ) → m ≡ div_ceil n 512 → n ≤ 512 * m
enough n m h = grind arith

-- there is a number for the basic block of each bit
pub quarters-enough : (b : List Bool) (quarters : List ℕ) → AreQuartersOf b quarters → length b ≤ 512 * length quarters
quarters-enough b quarters h = enough (length b) (length quarters) h.len

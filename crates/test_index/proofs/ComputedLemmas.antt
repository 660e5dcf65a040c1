-- Of n words that are 1 the ones before word k are k, so the entries of the tables are formulas.
use Rattle.std.proofs.Common.{◌≡◌, ℕ, zero, suc, ◌+◌, ◌-◌, ◌*◌, ◌/◌, ◌%◌, ◌^◌, ◌<◌, ◌≤◌, true, false, length, get_or, ap, ◌∙◌, ◌==◌, if◌then◌else◌, arith}
use Rattle.std.proofs.lemmas.List.{get_or-replicate, length-replicate}
use Rattle.std.proofs.lemmas.List.FromFn.{get_or-map-range_with_len, length-map-range_with_len}
use Rattle.std.proofs.lemmas.Nat.Bits.{bit_at_ones_above}
use Rattle.std.specs.Int.{div_ceil}
use Rattle.bitm.proofs.BitLaws.{bit_is_digit, bits_are_counted, count_after_item, equal_items_count_for_one, none_before_the_first, ones_and_zeros}
use Rattle.bitm.specs.Bits.{bits_of, digit, item}
use Rattle.bitm.specs.Count.{is_same, ones_before, ones_of, zeros_of}
use Rattle.bitm.specs.Entry.{lower_entry}
use Rattle.bitm.specs.Tables.{lower_of, upper_of}
use Rattle.test_index.specs.Computed.{words_of}

module _ (n : ℕ) where
  pub words_len : length (words_of n) ≡ n
  unfolding words_of
  words_len = length-replicate {A = ℕ} n 1

  pub word : (k : ℕ) → k < n → get_or (words_of n) k 0 ≡ 1
  unfolding words_of
  word k less = get_or-replicate n k 1 0 less

  pub bits_len : length (bits_of (words_of n)) ≡ 64 * n
  bits_len = omega (arith, bits_are_counted (words_of n), words_len)

  item_is : (k j : ℕ) → k < n → j < 64 → item (bits_of (words_of n)) (64 * k + j) ≡ digit 1 j
  item_is k j less low =
      let i = 64 * k + j in
      let word_at : i / 64 ≡ k = omega arith in
      let digit_at : i % 64 ≡ j = omega arith in
      bit_is_digit (words_of n) i (omega (arith, words_len))
      ∙ ap (λ q. digit (get_or (words_of n) q 0) (i % 64)) word_at
      ∙ ap (λ w. digit w (i % 64)) (word k less)
      ∙ ap (digit 1) digit_at

  digit_above : (j : ℕ) → 0 < j → digit 1 j ≡ false
  digit_above j some = ap (λ d. d == 1) (bit_at_ones_above 1 j some)

  word_passed : (k : ℕ) → k < n → ones_before (bits_of (words_of n)) (64 * (k + 1)) ≡ ones_before (bits_of (words_of n)) (64 * k) + 1
  word_passed k less =
      let c = bits_of (words_of n) in
      let one : item c (64 * k) ≡ true = ap (item c) (let e : 64 * k ≡ 64 * k + 0 = omega arith in e) ∙ item_is k 0 less (omega arith) in
      let first = count_after_item c true (64 * k) (omega (arith, bits_len)) in
      let rest = equal_items_count_for_one c false (64 * k + 1) 63 (omega (arith, bits_len))
      (λ i from to.
      let j = i - 64 * k in
      ap (item c) (let e : i ≡ 64 * k + j = omega arith in e) ∙ item_is k j less (omega arith) ∙ digit_above j (omega arith)) in
      ap (ones_before c) (let e : 64 * (k + 1) ≡ 64 * k + 1 + 63 = omega arith in e)
      ∙ rest ∙ first ∙ ap (λ x. ones_before c (64 * k) + (if is_same true x then 1 else 0)) one

  pub ones_at : (k : ℕ) → k ≤ n → ones_before (bits_of (words_of n)) (64 * k) ≡ k
  ones_at zero _ = none_before_the_first (bits_of (words_of n)) true
  ones_at (suc k) within =
      ap (λ q. ones_before (bits_of (words_of n)) (64 * q)) (let e : suc k ≡ k + 1 = omega arith in e)
      ∙ word_passed k (omega arith)
      ∙ (let e : ones_before (bits_of (words_of n)) (64 * k) ≡ k = ones_at k (omega arith) in omega arith)

  ones_to : (p k : ℕ) → p ≡ 64 * k → k ≤ n → ones_before (bits_of (words_of n)) p ≡ k
  ones_to p k is within = ap (ones_before (bits_of (words_of n))) is ∙ ones_at k within

  pub ones_all : ones_of (bits_of (words_of n)) ≡ n
  ones_all = ones_to (length (bits_of (words_of n))) n bits_len (omega arith)

  pub zeros_all : zeros_of (bits_of (words_of n)) ≡ 63 * n
  zeros_all =
      let c = bits_of (words_of n) in
      omega (arith, ones_and_zeros c (length c) (omega arith), ones_all, bits_len)

  -- ---- the tables

  pub uppers_len : length (upper_of (bits_of (words_of n))) ≡ div_ceil n (2 ^ 26)
  unfolding upper_of
  uppers_len =
      length-map-range_with_len (λ k. ones_before (bits_of (words_of n)) (k * 2 ^ 32)) 0 (div_ceil (length (bits_of (words_of n))) (2 ^ 32))
      ∙ omega (arith, bits_len)

  pub upper_at : (k : ℕ) → k < length (upper_of (bits_of (words_of n))) → get_or (upper_of (bits_of (words_of n))) k 0 ≡ k * 2 ^ 26
  unfolding upper_of
  upper_at k inside =
      let less : k < div_ceil n (2 ^ 26) = omega (arith, uppers_len) in
      get_or-map-range_with_len (λ q. ones_before (bits_of (words_of n)) (q * 2 ^ 32)) 0 (div_ceil (length (bits_of (words_of n))) (2 ^ 32)) k k 0
      (omega (arith, bits_len)) (omega arith)
      ∙ ones_to (k * 2 ^ 32) (k * 2 ^ 26) (omega arith) (omega arith)

  module _ (whole : n % 32 ≡ 0) where
    pub lowers_len : length (lower_of (bits_of (words_of n))) ≡ n / 32
    unfolding lower_of
    lowers_len =
        length-map-range_with_len (lower_entry (bits_of (words_of n))) 0 (div_ceil (length (bits_of (words_of n))) 2048) ∙ omega (arith, bits_len)

    pub lower_at : (k : ℕ) → k < length (lower_of (bits_of (words_of n)))
        → get_or (lower_of (bits_of (words_of n))) k 0 ≡ k % 2 ^ 21 * 32 + 24 * 2 ^ 32 + 16 * 2 ^ 43 + 8 * 2 ^ 54
    unfolding lower_of
    lower_at k inside =
        let c = bits_of (words_of n) in
        let less : k < n / 32 = omega (arith, lowers_len) in
        let here : ones_before c (2048 * k) ≡ 32 * k = ones_to (2048 * k) (32 * k) (omega arith) (omega arith) in
        let part : ones_before c (k / 2 ^ 21 * 2 ^ 32) ≡ k / 2 ^ 21 * 2 ^ 26 =
        ones_to (k / 2 ^ 21 * 2 ^ 32) (k / 2 ^ 21 * 2 ^ 26) (omega arith) (omega arith) in
        let one : ones_before c (2048 * k + 512 * 1) ≡ 32 * k + 8 = ones_to (2048 * k + 512 * 1) (32 * k + 8) (omega arith) (omega arith) in
        let two : ones_before c (2048 * k + 512 * 2) ≡ 32 * k + 16 = ones_to (2048 * k + 512 * 2) (32 * k + 16) (omega arith) (omega arith) in
        let three : ones_before c (2048 * k + 512 * 3) ≡ 32 * k + 24 = ones_to (2048 * k + 512 * 3) (32 * k + 24) (omega arith) (omega arith) in
        get_or-map-range_with_len (lower_entry c) 0 (div_ceil (length c) 2048) k k 0 (omega (arith, bits_len)) (omega arith)
        ∙ (let e : lower_entry c k ≡ k % 2 ^ 21 * 32 + 24 * 2 ^ 32 + 16 * 2 ^ 43 + 8 * 2 ^ 54 = omega (arith, here, part, one, two, three) in e)

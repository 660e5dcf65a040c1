-- The ones of a record by halves.
use Rattle.std.proofs.Common.{◌≡◌, ℕ, ◌+◌, ◌*◌, ◌/◌, ◌%◌, ◌<◌, Bool, List, ap, arith, suc, zero}
use Rattle.bit_lists.specs.Count.{ones_before}

module _ (b : List Bool) where
  -- a stretch of words whose ones count or do not
  pub taken : (at words times count n : ℕ) → times < 2 → n ≡ times * count
      → ones_before b (64 * at) + count ≡ ones_before b (64 * (at + words))
      → ones_before b (64 * at) + n ≡ ones_before b (64 * (at + times * words))
  taken at words zero count n few is all =
      let here : at + 0 * words ≡ at = omega arith in
      omega (arith, is, ap (λ (k : ℕ). ones_before b (64 * k)) here)
  taken at words (suc zero) count n few is all =
      let there : at + 1 * words ≡ at + words = omega arith in
      omega (arith, is, all, ap (λ (k : ℕ). ones_before b (64 * k)) there)
  taken at words (suc (suc _)) count n few is all = absurd (omega (arith, few))

  -- words that follow one another
  follows : (i j c : ℕ) → i ≡ j → ones_before b (64 * i) + c ≡ ones_before b (64 * (i + 1))
      → ones_before b (64 * j) + c ≡ ones_before b (64 * (j + 1))
  follows i j c e one =
      omega (arith, one, ap (λ (k : ℕ). ones_before b (64 * k)) e, ap (λ (k : ℕ). ones_before b (64 * (k + 1))) e)

  module _ (first len : ℕ) (few : len < 8) where
    -- the words before word len of a record: four, two and one, each where so many are among them
    pub by_halves : (w0 w1 w2 w3 p q r n4 n2 n1 : ℕ)
        → ones_before b (64 * first) + w0 ≡ ones_before b (64 * (first + 1))
        → ones_before b (64 * (first + 1)) + w1 ≡ ones_before b (64 * (first + 1 + 1))
        → ones_before b (64 * (first + 2)) + w2 ≡ ones_before b (64 * (first + 2 + 1))
        → ones_before b (64 * (first + 3)) + w3 ≡ ones_before b (64 * (first + 3 + 1))
        → ones_before b (64 * (first + len / 4 * 4)) + p ≡ ones_before b (64 * (first + len / 4 * 4 + 1))
        → ones_before b (64 * (first + len / 4 * 4 + 1)) + q ≡ ones_before b (64 * (first + len / 4 * 4 + 1 + 1))
        → ones_before b (64 * (first + len / 2 * 2)) + r ≡ ones_before b (64 * (first + len / 2 * 2 + 1))
        → n4 ≡ len / 4 * (w0 + w1 + w2 + w3) → n2 ≡ len / 2 % 2 * (p + q) → n1 ≡ len % 2 * r
        → ones_before b (64 * first) + (n4 + n2 + n1) ≡ ones_before b (64 * (first + len))
    by_halves w0 w1 w2 w3 p q r n4 n2 n1 h0 h1 h2 h3 hp hq hr e4 e2 e1 =
        let S : ℕ → ℕ = λ k. ones_before b (64 * k) in
        let half = first + len / 4 * 4 in
        let pair = first + len / 2 * 2 in
        let two : first + 1 + 1 ≡ first + 2 = omega arith in
        let three : first + 2 + 1 ≡ first + 3 = omega arith in
        let four : first + 3 + 1 ≡ first + 4 = omega arith in
        let after : half + 1 + 1 ≡ half + 2 = omega arith in
        let at_pair : half + len / 2 % 2 * 2 ≡ pair = omega arith in
        let at_end : pair + len % 2 * 1 ≡ first + len = omega arith in
        let all : ones_before b (64 * first) + (w0 + w1 + w2 + w3) ≡ ones_before b (64 * (first + 4)) =
        omega (arith, h0, h1, h2, h3, ap S two, ap S three, ap S four) in
        let both : ones_before b (64 * half) + (p + q) ≡ ones_before b (64 * (half + 2)) = omega (arith, hp, hq, ap S after) in
        let to_half = taken first 4 (len / 4) (w0 + w1 + w2 + w3) n4 (omega (arith, few)) e4 all in
        let to_pair = taken half 2 (len / 2 % 2) (p + q) n2 (omega arith) e2 both in
        let to_end = taken pair 1 (len % 2) r n1 (omega arith) e1 hr in
        omega (arith, to_half, to_pair, to_end, ap S at_pair, ap S at_end)

-- Samples written one after the other: how many there are, and where each stands.
use Rattle.std.proofs.Common.{◌≡◌, ℕ, ◌+◌, ◌-◌, ◌*◌, ◌%◌, ◌^◌, ◌≤◌, Bool, List, length, take, sym, ap, ◌∙◌, inl, inr, arith}
use Rattle.std.proofs.Math.Nat.{mul-le-mul_right}
use Rattle.std.proofs.lemmas.Bool.{cases_lt}
use Rattle.std.proofs.lemmas.Grind.{div_ceil_times}
use Rattle.std.proofs.lemmas.List.{ext_get_or, get_or-take, length-take-le}
use Rattle.std.proofs.lemmas.Nat.{one_shl, pow-add, pow_pos}
use Rattle.std.specs.Int.{div_ceil}
use Rattle.bitm_strategies.specs.Samples.{parts, sample_count_before, samples_of, sample_starts_of}
use Rattle.bitm_strategies.proofs.lemmas.SampleLemmas.{ceil_less, length-samples, length-starts, start_at}
use Rattle.tables_view.specs.Samples.{AreSamples, sample_number}
use Rattle.tables_view.specs.Sizes.{IsFilled}

module _ (first part items count d : ℕ) (high : d ≤ 31) (before : first * 2 ^ d ≤ part * 2 ^ 32)
    (is : count ≡ div_ceil items (1 * 2 ^ d % 2 ^ 64)) where
  intervals_are : count ≡ div_ceil items (2 ^ d)
  intervals_are = is ∙ ap (div_ceil items) (one_shl d 64 (omega (arith, high)))

  -- samples of no more items than bits find room
  pub samples_fit : (len n : ℕ) → part * 2 ^ 32 ≤ len → items ≤ len - part * 2 ^ 32 → len ≤ n * 2 ^ d → first + count ≤ n
  samples_fit len n begun few room =
      let most = (div_ceil_times items (2 ^ d) (pow_pos d)).1 in
      let same = ap (λ (x : ℕ). x * 2 ^ d) intervals_are in
      elim (cases_lt n (first + count)) [
        | inl over ↦
            let more : (n + 1) * 2 ^ d ≤ (first + count) * 2 ^ d = mul-le-mul_right (2 ^ d) (omega (arith, over)) in
            absurd (omega (arith, more, most, same, before, begun, few, room))
        | inr fits ↦ fits
      ]

  -- a part has no more than its bits divided
  pub samples_after : items ≤ 2 ^ 32 → (first + count) * 2 ^ d ≤ (part + 1) * 2 ^ 32
  samples_after few =
      let all : 2 ^ (32 - d) * 2 ^ d ≡ 2 ^ 32 =
      sym (pow-add 2 (32 - d) d) ∙ ap (λ (n : ℕ). 2 ^ n) {x = 32 - d + d} {y = 32} (omega (arith, high)) in
      elim (cases_lt (2 ^ (32 - d)) count) [
        | inl over ↦ absurd (omega (arith, ceil_less (2 ^ (32 - d)) items (2 ^ d) (pow_pos d) (omega (arith, over, intervals_are)), all, few))
        | inr within ↦ omega (arith, mul-le-mul_right (2 ^ d) within, all, before)
      ]

-- all samples, and all starts
pub all_made : (b : List Bool) (v : Bool) (d count : ℕ) (samples starts : List ℕ) → count ≤ length samples → count ≡ sample_count_before b v d (parts b)
    → length starts ≡ parts b → IsFilled (sample_number b v d) samples count → IsFilled (sample_count_before b v d) starts (parts b)
    → AreSamples b v d (take count samples) starts
all_made b v d count samples starts fits all many filled begun =
    let long : length (take count samples) ≡ count = length-take-le count samples fits in
    record {
      samples_are =
          ext_get_or 0 (take count samples) (samples_of b v d) (long ∙ all ∙ sym (length-samples b v d (parts b)))
          (λ i h. get_or-take count samples i 0 (omega (arith, h, long)) ∙ filled i (omega (arith, h, long)));
      starts_are =
          ext_get_or 0 starts (sample_starts_of b v d) (many ∙ sym (length-starts b v d))
          (λ i h. begun i (omega (arith, h, many)) ∙ sym (start_at b v d i (omega (arith, h, many))));
    }

-- enough positions for samples of so many words are enough for their bits
pub room_for : (words n d : ℕ) → 7 ≤ d → div_ceil words (2 ^ (d - 6)) ≤ n → words * 64 ≤ n * 2 ^ d
room_for words n d low enough =
    let power : 2 ^ d ≡ 2 ^ (d - 6) * 2 ^ 6 =
    ap (λ (x : ℕ). 2 ^ x) {x = d} {y = d - 6 + 6} (omega (arith, low)) ∙ pow-add 2 (d - 6) 6 in
    omega (
      arith,
      ap (λ (x : ℕ). n * x) power,
      (div_ceil_times words (2 ^ (d - 6)) (pow_pos (d - 6))).0,
      mul-le-mul_right (2 ^ (d - 6)) enough,
    )

-- Ranks side by side: what is reported of a rank.
use Rattle.std.proofs.Common.{◌≡◌, ℕ, ◌-◌, ◌^◌, ◌<◌, ◌≤◌, Bool, length, ap, arith, refl}
use Rattle.bit_lists.proofs.lemmas.BitsLemmas.{length-bits_of}
use Rattle.bit_lists.proofs.lemmas.CountLemmas.{count_before-none}
use Rattle.bit_lists.specs.Bits.{IsShort}
use Rattle.bit_lists.specs.Count.{count_before}
use Rattle.bitm_select.specs.Answers.{IsRankCode}
use Rattle.bitm_tables.specs.Tables.{HasTables, Lists, bits_in}

module _ (v : Bool) (lists : Lists) (index : ℕ) (short : IsShort lists.words) where
  -- there are fewer than 2^64 - 2 bits
  few_bits : length (bits_in lists) < 2 ^ 64 - 2
  few_bits = omega (arith, length-bits_of lists.words, short)

  -- a count is none of the numbers that say that there is none
  pub rank_claimed : (n : ℕ) → index ≤ length (bits_in lists) → n ≤ index
      → (HasTables lists → n ≡ count_before (bits_in lists) v index) → IsRankCode v lists index n
  rank_claimed n inside most is =
      record {
        none = (λ e. absurd (omega (arith, e, inside, most, few_bits)), λ past. absurd (omega (arith, past, inside)));
        most = λ _. most;
        count = λ t _. (omega (arith, inside, most, few_bits), is t);
      }

  -- wrong tables are reported
  pub wrong_claimed : index ≤ length (bits_in lists) → (HasTables lists → ⊥) → IsRankCode v lists index (2 ^ 64 - 2)
  wrong_claimed inside never =
      record {
        none = (λ e. absurd (omega (arith, e)), λ past. absurd (omega (arith, past, inside)));
        most = λ h. absurd (omega (arith, h));
        count = λ t _. absurd (never t);
      }

  -- and so is that there are fewer bits
  pub past_claimed : length (bits_in lists) < index → IsRankCode v lists index (2 ^ 64 - 1)
  past_claimed past =
      record {
        none = (λ _. past, λ _. refl {A = ℕ});
        most = λ h. absurd (omega (arith, h));
        count = λ _ h. absurd (omega (arith, h, past));
      }

  -- no bits have none
  pub none_claimed : index ≡ 0 → IsRankCode v lists index 0
  none_claimed e =
      rank_claimed 0 (omega (arith, e)) (omega arith)
      (λ _. omega (arith, ap (count_before (bits_in lists) v) e, count_before-none (bits_in lists) v))

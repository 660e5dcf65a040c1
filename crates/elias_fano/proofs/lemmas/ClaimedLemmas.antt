-- What is reported of a position among the low digits is reported of the parts; and of all but the answer that they are wrong.
use Rattle.std.proofs.Common.{◌≡◌, ℕ, ◌/◌, ◌%◌, ◌^◌, ◌<◌, ◌≤◌, false, Bool, IfSome, Option, None, Some, arith, refl}
use Rattle.bitm_tables.specs.Tables.{Lists}
use Rattle.elias_fano.specs.SequenceParts.{parts_with}
use Rattle.elias_fano.specs.Low.{fragment, Lows}
use Rattle.elias_fano.specs.Claims.{IfIndex, PartsAt, ClaimsBelow, ClaimsLess, ClaimsTo}
use Rattle.bitm_tables.specs.declared.answer.Answer.{Answer}
use Rattle.bitm_tables.specs.declared.answer.Answer.TheVariants.{Found, Absent, Wrong}

module _ (n : ℕ) (low : Lows) (lists : Lists) (v first end : ℕ) (begins : ClaimsBelow lists n (v / 2 ^ low.width) first)
    (ends : 0 < low.width → ClaimsTo lists n (v / 2 ^ low.width) end) (within : end ≤ n) where
  at_position : (p : ℕ) → PartsAt (fragment low) low.width first end (v % 2 ^ low.width) p → ClaimsLess (parts_with n low lists) v p
  at_position p parting = record { first = first; end = end; begins = begins; ends = ends; within = within; parting = parting }

  pub claimed_less : (s : Answer ℕ) → IfIndex n s (PartsAt (fragment low) low.width first end (v % 2 ^ low.width))
      → IfIndex n s (ClaimsLess (parts_with n low lists) v)
  claimed_less (Found p) parting = at_position p parting
  claimed_less Absent parting = at_position n parting
  claimed_less Wrong parting = parting

  -- and whether some number there is the value
  pub claimed_member : (o : Option Bool)
      → IfSome o (λ is. (p : ℕ) × PartsAt (fragment low) low.width first end (v % 2 ^ low.width) p × (p ≡ end → is ≡ false))
      → IfSome o (λ is. (p : ℕ) × ClaimsLess (parts_with n low lists) v p × (p ≡ n → is ≡ false))
  claimed_member None claimed = tt
  claimed_member (Some is) claimed = (claimed.0, at_position claimed.0 claimed.1, λ last. claimed.2 (omega (arith, last, within, claimed.1.to)))

-- all numbers are less
pub claimed_all : (n : ℕ) (low : Lows) (lists : Lists) (v : ℕ) → ClaimsBelow lists n (v / 2 ^ low.width) n
    → ClaimsTo lists n (v / 2 ^ low.width) n → ClaimsLess (parts_with n low lists) v n
claimed_all n low lists v begins ends = record {
  first = n;
  end = n;
  begins = begins;
  ends = λ some. ends;
  within = omega arith;
  parting = record {
    from = omega arith;
    to = omega arith;
    whole = λ none. refl;
    less = λ less. absurd (omega arith);
    at_least = λ less. absurd (omega arith);
  };
}

-- The bit that a rank selects is the nearest of its kind.
use Rattle.std.proofs.Common.{◌≡◌, ℕ, ◌+◌, ◌<◌, ◌≤◌, Bool, length, min, refl, subst, sym, arith, ⊎_elim}
use Rattle.std.proofs.lemmas.Bool.{cases_lt}
use Rattle.std.proofs.lemmas.List.{length-take-le}
use Rattle.bitm_select.specs.Answers.{HasBit, IsFoundFrom}
use Rattle.bitm_tables.specs.Tables.{bits_in}
use Rattle.bitm_tables.specs.declared.answer.Answer.{Answer}
use Rattle.bitm_tables.specs.declared.answer.Answer.TheVariants.{Found, Absent, Wrong}
use Rattle.bitm_view.specs.Cut.{Cut, bits_of_cut, IsWithin}
use Rattle.bitm_view.specs.Queries.{NextIn, PreviousIn, RanksIn, SelectsIn}
use Rattle.tables_view.specs.Nearest.{IsOnlyBefore, IsOnlyFrom}
use Rattle.tables_view.proofs.NearestLemmas.{next_of, previous_none, previous_of}

-- what holds of a position that is found, and of Wrong, holds of the answer that is only one of the two
one_of : (P : Answer ℕ → Type 0) (p i : ℕ) (answer : Answer ℕ) → (i ≤ p → P answer) → (p < i → P answer) → P answer
one_of P p i answer late early = ⊎_elim early late (cases_lt p i)

module _ (v : Bool) (c : Cut) (within : IsWithin c) where
  long : length (bits_of_cut c) ≡ c.len
  long = length-take-le c.len (bits_in c.lists) within

  -- the position with the rank of another one is the first from that on
  pub next_in : (from r : ℕ) (selected answer : Answer ℕ) → RanksIn v c from (Found r) → SelectsIn v c r selected
      → IsOnlyFrom from selected answer → NextIn v c from answer
  next_in from r (Found p) answer ranked is only = record {
    bit =
        one_of (HasBit (bits_of_cut c) v) p from answer (λ late. subst (HasBit (bits_of_cut c) v) (sym (only.0 late)) is.bit)
        (λ early. subst (HasBit (bits_of_cut c) v) (sym (only.1 early)) tt);
    from =
        one_of (IsFoundFrom from c.len) p from answer
        (λ late. subst (IsFoundFrom from c.len) (sym (only.0 late)) (late, omega (arith, is.bit.0, long)))
        (λ early. subst (IsFoundFrom from c.len) (sym (only.1 early)) tt);
    counts = λ t. next_of (bits_of_cut c) v from r (Found p) answer (ranked.counts t).1 (is.counts t) only;
  }
  next_in from r Absent answer ranked is only =
      subst (NextIn v c from) (sym only)
      (record { bit = tt; from = tt; counts = λ t. next_of (bits_of_cut c) v from r Absent Absent (ranked.counts t).1 (is.counts t) refl })
  next_in from r Wrong answer ranked is only = subst (NextIn v c from) (sym only) (record { bit = tt; from = tt; counts = λ t. is.counts t })

  -- no position is from the end on
  pub next_past : (from : ℕ) → c.len ≤ from → NextIn v c from Absent
  next_past from past = record { bit = tt; from = tt; counts = λ t p after inside. absurd (omega (arith, past, after, inside, long)) }

  module _ (from end : ℕ) (ends : end ≡ min (from + 1) c.len) where
    to_end : end ≡ min (from + 1) (length (bits_of_cut c))
    to_end = omega (arith, ends, long)

    -- none stand before the end
    pub previous_none_in : RanksIn v c end (Found 0) → PreviousIn v c from Absent
    previous_none_in ranked = record {
      bit = tt;
      to = tt;
      counts = λ t. previous_none (bits_of_cut c) v from end to_end (ranked.counts t).1;
    }

    -- the position with one rank less than the end is the last before the end
    pub previous_in : (r : ℕ) (selected answer : Answer ℕ) → RanksIn v c end (Found (r + 1)) → SelectsIn v c r selected
        → IsOnlyBefore end selected answer → PreviousIn v c from answer
    previous_in r (Found p) answer ranked is only = record {
      bit =
          one_of (HasBit (bits_of_cut c) v) p end answer (λ late. subst (HasBit (bits_of_cut c) v) (sym (only.1 late)) tt)
          (λ early. subst (HasBit (bits_of_cut c) v) (sym (only.0 early)) is.bit);
      to =
          one_of (IsFoundFrom 0 (from + 1)) p end answer (λ late. subst (IsFoundFrom 0 (from + 1)) (sym (only.1 late)) tt)
          (λ early. subst (IsFoundFrom 0 (from + 1)) (sym (only.0 early)) (omega arith, omega (arith, early, ends)));
      counts = λ t. previous_of (bits_of_cut c) v from end to_end r (Found p) answer (ranked.counts t).1 (is.counts t) only;
    }
    previous_in r Absent answer ranked is only =
        subst (PreviousIn v c from) (sym only)
        (record { bit = tt; to = tt; counts = λ t. previous_of (bits_of_cut c) v from end to_end r Absent Wrong (ranked.counts t).1 (is.counts t) refl })
    previous_in r Wrong answer ranked is only =
        subst (PreviousIn v c from) (sym only) (record { bit = tt; to = tt; counts = λ t. is.counts t })

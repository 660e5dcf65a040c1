-- Behind a zero begin those with one more before them; where there is none, all have less.
use Rattle.std.proofs.Common.{◌≡◌, ◌+◌, ◌-◌, false, refl, subst, inl, arith}
use Rattle.bitm_select.specs.Answers.{HasBit, IsSelected}
use Rattle.bitm_tables.specs.Entry.{less}
use Rattle.bitm_tables.specs.Tables.{bits_in}
use Rattle.elias_fano.proofs.lemmas.EndsLemmas.{begin-next, below-all}
use Rattle.elias_fano.proofs.finds.begin_behind.Goals as goal

pub returns-in-Found-clause-begin : goal.returns-in-Found-clause-begin
returns-in-Found-clause-begin c = λ xs l lists above h some selected.
    begin-next _ _ _ _ refl some (subst (IsSelected (bits_in lists) false (above - 1)) c.in-Found.is selected)

pub returns-in-Found-clause-claimed : goal.returns-in-Found-clause-claimed
returns-in-Found-clause-claimed c = λ lists n above some fits bit none.
    let zero = subst (HasBit (bits_in lists) false) c.in-Found.is bit in
    let here : less (c.in-Found.position + 1) above ≡ less c.in-Found.position (above - 1) = omega (arith, some, fits) in
    record {
      none = λ no. absurd (omega (arith, some, no));
      some = λ _. inl (record { position = c.in-Found.position; inside = zero.0; zero = zero.1; count = here });
    }

pub returns-in-Absent-clause-begin : goal.returns-in-Absent-clause-begin
returns-in-Absent-clause-begin c = λ xs l lists above h some selected.
    below-all xs l _ _ _ h refl some (subst (IsSelected (bits_in lists) false (above - 1)) c.in-Absent.is selected)

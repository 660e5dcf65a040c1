-- A rank as an index into the list of positions.
use Rattle.std.proofs.Common.{◌≡◌, ℕ, Bool, Option, Some, None, List, subst, sym, arith, ⊎_elim}
use Rattle.std.specs.List.{slice_get}
use Rattle.std.specs.Option.{option_map}
use Rattle.std.proofs.lemmas.Option.{slice_get_within, slice_get_cases, get_or_from_slice_get}
use Rattle.bitm.proofs.Callers.{Picks-positions, length-positions}
use Rattle.bitm.specs.Count.{bit_positions, Picks, IsSelect}

-- item r of the positions is what rank r picks
pub IsSelect-item : (b : List Bool) (v : Bool) (r : ℕ) (o : Option ℕ) → option_map (λ x. x) o ≡ slice_get (bit_positions v 0 b) r → IsSelect b v r o
IsSelect-item b v r None e =
    ⊎_elim (λ inside. absurd (cc)) (λ past. omega (arith, past.0, length-positions v 0 b)) (slice_get_cases (bit_positions v 0 b) r).1
IsSelect-item b v r (Some p) e =
    let P : ℕ → Type 0 = λ q. Picks b v r q in
    subst P (get_or_from_slice_get (bit_positions v 0 b) r p 0 (sym e))
    (Picks-positions b v r 0 (slice_get_within (bit_positions v 0 b) r p (sym e)))

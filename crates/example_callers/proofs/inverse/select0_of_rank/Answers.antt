-- The position itself is picked by its rank, and no other position is.
use Rattle.std.proofs.Common.{ℕ, ◌<◌, false, subst, sym}
use Rattle.bitm.proofs.BitLaws.{at_most_one_picked}
use Rattle.bitm.proofs.Callers.{zero_picked_by_its_rank, zero_below}
use Rattle.bitm.specs.Count.{Picks, count_of}
use Rattle.example_callers.proofs.inverse.select0_of_rank.Goals as goal

pub select0-requires : goal.select0-requires
select0-requires g c =
    let b = g.I.HasBits.bits c.args.index.now in
    let here = zero_picked_by_its_rank b c.args.position c.requires.inside c.requires.zero in
    subst (λ (r : ℕ). r < count_of b false) (sym c.rank0.ensures) (zero_below b _ _ here)

pub returns : goal.returns
returns g c =
    let b = g.I.HasBits.bits c.args.index.now in
    let here = zero_picked_by_its_rank b c.args.position c.requires.inside c.requires.zero in
    at_most_one_picked b false _ c.select0.result c.args.position c.select0.ensures
    (subst (λ (r : ℕ). Picks b false r c.args.position) (sym c.rank0.ensures) here)

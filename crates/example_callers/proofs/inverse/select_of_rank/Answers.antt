-- The position itself is picked by its rank, and no other position is.
use Rattle.std.proofs.Common.{ℕ, ◌<◌, true, subst, sym}
use Rattle.bitm.proofs.BitLaws.{at_most_one_picked}
use Rattle.bitm.proofs.Callers.{picked_by_its_rank, one_below}
use Rattle.bitm.specs.Count.{Picks, count_of}
use Rattle.example_callers.proofs.inverse.select_of_rank.Goals as goal

pub select-requires : goal.select-requires
select-requires g c =
    let b = g.I.HasBits.bits c.args.index.now in
    let here = picked_by_its_rank b c.args.position c.requires.inside c.requires.one in
    subst (λ (r : ℕ). r < count_of b true) (sym c.rank.ensures) (one_below b _ _ here)

pub returns : goal.returns
returns g c =
    let b = g.I.HasBits.bits c.args.index.now in
    let here = picked_by_its_rank b c.args.position c.requires.inside c.requires.one in
    at_most_one_picked b true _ c.select.result c.args.position c.select.ensures
    (subst (λ (r : ℕ). Picks b true r c.args.position) (sym c.rank.ensures) here)

-- The lengths are right where the positions are tested.
use Rattle.std.proofs.Common.{rules}
use Rattle.sequence_block.proofs.sparse.building.build.Goals as goal

pub returns-clause-not_rising : goal.returns-clause-not_rising
returns-clause-not_rising c =
    let of = c.write_checked.ensures.not_rising in (
      λ e. (search rules, search rules, of.0 e),
      λ h. of.1 h.2,
    )

pub returns-clause-past_end : goal.returns-clause-past_end
returns-clause-past_end c =
    let of = c.write_checked.ensures.past_end in (
      λ e. let past = of.0 e in (search rules, search rules, past.0, past.1),
      λ h. of.1 (h.2, h.3),
    )

-- A product is divided by parts.
use Rattle.std.proofs.Common.{◌-◌, ◌^◌}
use Rattle.perfect_hash.proofs.lemmas.InPlaceLemmas.{level_by_parts}
use Rattle.perfect_hash.proofs.levels.in_place.level_len.Goals as goal

pub returns : goal.returns
returns c =
    level_by_parts c.args.percent c.args.keys c.max-percent.result c.saturating_mul-whole.result (2 ^ 64 - 1) c.saturating_add.result c.max-percent.ensures
    c.saturating_mul-whole.ensures c.saturating_add.ensures

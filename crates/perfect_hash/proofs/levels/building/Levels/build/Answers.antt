-- Hashes alone say where they fall.
use Rattle.perfect_hash.specs.Positions.{words_for}
use Rattle.perfect_hash.proofs.lemmas.CollideLemmas.{collides_by_hash}
use Rattle.perfect_hash.proofs.levels.building.Levels.build.Goals as goal

pub returns-clause-collide_sized : goal.returns-clause-collide_sized
returns-clause-collide_sized g c = collides_by_hash _ (λ error. error) (words_for c.args.percent) _ _ c.build_by.ensures.collide_sized

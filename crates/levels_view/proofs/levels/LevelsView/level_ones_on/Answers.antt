-- The 1 bits before the position, less those before the level, are those of the level.
use Rattle.std.proofs.Common.{◌≡◌, ◌+◌, ◌*◌, ap, ◌∙◌, arith}
use Rattle.bit_lists.specs.Count.{ones_before}
use Rattle.bitm_tables.specs.Tables.{bits_in}
use Rattle.matrix_levels.specs.Matrix.{numbers_in}
use Rattle.matrix_levels.proofs.lemmas.MatrixLemmas.{ones-are}
use Rattle.levels_view.proofs.levels.LevelsView.level_ones_on.Goals as goal

pub returns-clause-answer : goal.returns-clause-answer
returns-clause-answer g c = λ h.
    let l = c.args.self.now in
    let lists = g.T.TableSource.lists c.args.source.now in
    let b = bits_in lists in
    let d = c.args.depth in
    let p = c.args.position in
    let rank : c.ones_to_on-ones.result ≡ ones_before b (d * l.len + p) =
    c.ones_to_on-ones.ensures.answer h.indexed.tables h.numbers.quarters_are ∙ ap (λ n. ones_before b (d * n + p)) c.len.ensures.len in
    omega (arith, rank, c.ones_before_level.ensures, ones-are (numbers_in l lists) l b h.numbers d p c.requires.depth c.requires.inside, c.ranges)

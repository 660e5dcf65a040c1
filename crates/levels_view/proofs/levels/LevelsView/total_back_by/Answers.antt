-- The selected bit is that of the number's item on this level.
use Rattle.std.proofs.Common.{◌≡◌, ℕ, ◌-◌, ◌*◌, ◌≤◌, IsSomeAnd, Option, sym, ap, subst, arith}
use Rattle.bitm_tables.specs.Tables.{bits_in}
use Rattle.matrix_levels.specs.Matrix.{level_in, numbers_in}
use Rattle.matrix_levels.specs.Numbers.{PicksItem}
use Rattle.levels_view.proofs.StepLemmas.{level-len}
use Rattle.levels_view.proofs.levels.LevelsView.total_back_by.Goals as goal

pub returns-in-Some-clause-answer : goal.returns-in-Some-clause-answer
returns-in-Some-clause-answer g c = λ k h f picked.
    let l = c.args.self.now in
    let lists = g.T.TableSource.lists c.args.source.now in
    let b = bits_in lists in
    let xs = numbers_in l lists in
    let d = c.args.depth in
    let start = d * l.len in
    let is = c.bit_before-digit.ensures xs b k h.numbers picked in
    let bit = c.in-Some.ensures.answer h.indexed.tables f is.some in
    let from : start ≤ c.in-Some.bit = is.start c.in-Some.bit bit in
    let there = is.picked c.in-Some.bit bit in
    let same : d * c.len-len.result ≡ start = ap (λ n. d * n) c.len-len.ensures.len in
    let claimed = c.difference.ensures.answer (c.in-Some.bit - start) (omega (arith, from, same))
    (omega (arith, there.inside, level-len xs l b h.numbers d, c.len-len.ensures.len)) in
    subst (λ (o : Option ℕ). IsSomeAnd o (PicksItem (level_in l lists d) c.args.number k)) (sym claimed) there

pub returns-in-None-clause-answer : goal.returns-in-None-clause-answer
returns-in-None-clause-answer g c = λ k h f picked.
    let l = c.args.self.now in
    let lists = g.T.TableSource.lists c.args.source.now in
    let is = c.bit_before-digit.ensures (numbers_in l lists) (bits_in lists) k h.numbers picked in
    c.in-None.ensures.answer h.indexed.tables f is.some

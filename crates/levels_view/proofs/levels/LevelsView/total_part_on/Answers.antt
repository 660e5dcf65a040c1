-- The range's 1 bits are those between the 1 bits before its ends.
use Rattle.std.proofs.Common.{◌-◌, true, take, count_by, sym, ap, subst, ◌∙◌, arith}
use Rattle.std.proofs.lemmas.Option.{same_Some}
use Rattle.bitm_tables.specs.Tables.{bits_in, Lists}
use Rattle.matrix_levels.specs.Levels.{has_digit, level, partition_position}
use Rattle.matrix_levels.specs.Matrix.{digit_position, level_in, numbers_in, IsMatrix}
use Rattle.levels_view.proofs.RangeLemmas.{ones-more, parts-are}
use Rattle.levels_view.proofs.levels.LevelsView.total_part_on.Goals as goal

pub returns-clause-answer : goal.returns-clause-answer
returns-clause-answer g c = λ h.
    let l = c.args.self.now in
    let lists = g.T.TableSource.lists c.args.source.now in
    let xs = numbers_in l lists in
    let b = bits_in lists in
    let d = c.args.depth in
    let k = digit_position l d in
    let row = level xs l.width d in
    let same = c.level_ones_on-before.ensures.reads.same in
    let there = subst (λ (s : Lists). IsMatrix l s) (sym same) h in
    let before = c.level_ones_on-before.ensures.answer h in
    let through =
    c.level_ones_on-through.ensures.answer there
    ∙ ap (λ (s : Lists). count_by (has_digit k true) (take c.args.last (level_in l s d))) same in
    let all = parts-are xs l b h.numbers d c.args.first c.args.last c.requires.order c.requires.inside in
    let sum = ones-more xs l b h.numbers d c.args.first c.args.last c.requires.order c.requires.inside c.level_ones_on-before.result c.level_ones_on-through.result before through in
    let ones = same_Some _ _ (c.in_ok-ones.ensures.answer (partition_position k true row c.args.last - partition_position k true row c.args.first) sum (omega (arith, all))) in
    (before, ones, omega (arith, ones, all))

pub returns-in_err-ones-clause-answer : goal.returns-in_err-ones-clause-answer
returns-in_err-ones-clause-answer g c = λ h.
    let l = c.args.self.now in
    let lists = g.T.TableSource.lists c.args.source.now in
    let xs = numbers_in l lists in
    let b = bits_in lists in
    let d = c.args.depth in
    let k = digit_position l d in
    let row = level xs l.width d in
    let same = c.level_ones_on-before.ensures.reads.same in
    let there = subst (λ (s : Lists). IsMatrix l s) (sym same) h in
    let before = c.level_ones_on-before.ensures.answer h in
    let through =
    c.level_ones_on-through.ensures.answer there
    ∙ ap (λ (s : Lists). count_by (has_digit k true) (take c.args.last (level_in l s d))) same in
    let all = parts-are xs l b h.numbers d c.args.first c.args.last c.requires.order c.requires.inside in
    let sum = ones-more xs l b h.numbers d c.args.first c.args.last c.requires.order c.requires.inside c.level_ones_on-before.result c.level_ones_on-through.result before through in
    let none = c.in_err-ones.ensures.answer (partition_position k true row c.args.last - partition_position k true row c.args.first) sum (omega (arith, all)) in
    cc none

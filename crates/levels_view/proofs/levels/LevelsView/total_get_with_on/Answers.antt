-- One more number stands where it was found, and those behind it are as they were.
use Rattle.std.proofs.Common.{◌<◌, length, length-set, slice_index, ◌∙◌, arith}
use Rattle.std.proofs.lemmas.List.{get_or-set_other}
use Rattle.matrix_levels.proofs.lemmas.ManyLemmas.{done-more}
use Rattle.bitm_tables.specs.declared.answer.Answer.TheVariants.{Found}
use Rattle.levels_view.specs.Walk.{IsNumberAt}
use Rattle.levels_view.proofs.levels.LevelsView.total_get_with_on.Goals as goal

pub loop-k-preserved : goal.loop-k-preserved
loop-k-preserved g c =
    let i = c.loop-k.invariant in
    let k = c.loop-k.k in
    let x = slice_index c.total_get_many_on.new.numbers k in
    let out = c.loop-k.out in
    let inside : k < length c.args.indices.now = omega (arith, c.loop-k-test.true) in
    let within : k < length out = omega (arith, inside, i.len, c.requires.out) in
    let here = (c.total_get_many_on.ensures.each k inside).found (omega (arith, c.if-positions-k.false, c.len.ensures.len)) in
    record {
      len = length-set out k x ∙ i.len;
      numbers =
          done-more (λ j n _. IsNumberAt c.args.self.now (g.T.TableSource.lists c.args.source.now) (slice_index c.args.indices.now j) (Found n)) out out k x 0
          within within i.numbers here;
      behind = λ j past. get_or-set_other out k j x 0 (λ same. omega (arith, past, same)) ∙ i.behind j (omega (arith, past));
    }

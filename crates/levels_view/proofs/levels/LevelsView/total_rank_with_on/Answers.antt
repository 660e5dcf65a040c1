-- One more rank stands where it was answered, and those behind it are as they were.
use Rattle.std.proofs.Common.{◌<◌, length, length-set, slice_index, inl, inr, subst, ◌∙◌, arith}
use Rattle.std.proofs.lemmas.List.{get_or-set_other}
use Rattle.matrix_levels.proofs.lemmas.ManyLemmas.{done-more}
use Rattle.bitm_tables.specs.declared.answer.Answer.TheVariants.{Found}
use Rattle.levels_view.specs.Walk.{IsRankAt}
use Rattle.levels_view.proofs.levels.LevelsView.total_rank_with_on.Goals as goal
use Rattle.levels_view.proofs.levels.LevelsView.total_rank_with_on.Goals.{After-rank_between}

claimed : (g : _) (c : After-rank_between g)
    → IsRankAt c.args.self.now (g.T.TableSource.lists c.args.source.now) (slice_index c.args.numbers.now c.loop-k.k) (slice_index c.args.ends.now c.loop-k.k)
    c.rank_between.result
claimed g c =
    c.rank_between.ensures (g.T.TableSource.lists c.args.source.now)
    (c.total_positions_of_many_on.ensures.each c.loop-k.k (omega (arith, c.loop-k-test.true)))

pub loop-k-preserved : goal.loop-k-preserved
loop-k-preserved g c =
    let i = c.loop-k.invariant in
    let k = c.loop-k.k in
    let l = c.args.self.now in
    let lists = g.T.TableSource.lists c.args.source.now in
    let x = c.in-Found.count in
    let out = c.loop-k.out in
    let v = slice_index c.args.numbers.now k in
    let e = slice_index c.args.ends.now k in
    let within : k < length out = omega (arith, c.loop-k-test.true, i.len, c.requires.out) in
    let here = subst (IsRankAt l lists v e) c.in-Found.is (claimed g (goal.at.loop-k-preserved g c).After-rank_between) in
    record {
      len = length-set out k x ∙ i.len;
      ranks =
          done-more (λ j n _. IsRankAt l lists (slice_index c.args.numbers.now j) (slice_index c.args.ends.now j) (Found n)) out out k x 0 within within i.ranks here;
      behind = λ j past. get_or-set_other out k j x 0 (λ same. omega (arith, past, same)) ∙ i.behind j (omega (arith, past));
    }

pub returns-in-Absent-clause-last : goal.returns-in-Absent-clause-last
returns-in-Absent-clause-last g c = λ _.
    let k = c.loop-k.k in
    inl (subst (IsRankAt c.args.self.now (g.T.TableSource.lists c.args.source.now) (slice_index c.args.numbers.now k) (slice_index c.args.ends.now k)) c.in-Absent.is
    (claimed g (goal.at.returns-in-Absent-clause-last g c).After-rank_between))

pub returns-in-Wrong-clause-last : goal.returns-in-Wrong-clause-last
returns-in-Wrong-clause-last g c = λ _.
    let k = c.loop-k.k in
    inr (subst (IsRankAt c.args.self.now (g.T.TableSource.lists c.args.source.now) (slice_index c.args.numbers.now k) (slice_index c.args.ends.now k)) c.in-Wrong.is
    (claimed g (goal.at.returns-in-Wrong-clause-last g c).After-rank_between))

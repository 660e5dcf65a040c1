-- After the known levels both positions go on, level by level.
use Rattle.std.proofs.Common.{◌≡◌, ℕ, ◌+◌, ◌-◌, ◌*◌, ◌≤◌, get_or, length, subst, sym, arith}
use Rattle.bitm_tables.specs.Tables.{bits_in, HasSizes, Lists}
use Rattle.matrix_levels.specs.Matrix.{OnlyRanks}
use Rattle.levels_view.specs.Walk.{AreBothOnTheWay}
use Rattle.matrix_levels.proofs.lemmas.ReadsLemmas.{ranks-fewer, ranks-more}
use Rattle.levels_view.proofs.WalkLemmas.{both-levels, both-levels-more}
use Rattle.levels_view.proofs.levels.LevelsView.total_positions_of_many_on.Goals as goal

pub loop-depth-init : goal.loop-depth-init
loop-depth-init g c =
    let T = g.T.TableSource in
    let l = c.args.self.now in
    let n = length c.args.numbers.now in
    let at : c.known-depth.result ≡ l.known = c.known-depth.ensures.known in
    record {
      from = omega (arith, at);
      few = omega (arith, at, c.known-depth.ensures.most);
      firsts_len = c.total_known_positions_on.ensures.firsts;
      lasts_len = c.total_known_positions_on.ensures.lasts;
      each = λ j less near fit.
          let P : ℕ → Type 0 = λ d. AreBothOnTheWay l (T.lists c.args.source.now) d (get_or c.args.numbers.now j 0) 0 (get_or c.args.ends.now j 0)
          (get_or c.total_known_positions_on.new.firsts j 0) (get_or c.total_known_positions_on.new.lasts j 0) in
          subst P (sym at) (c.total_known_positions_on.ensures.each j less near fit);
      reads = ranks-fewer l T.lists T.reads c.args.source.now c.total_known_positions_on.new.source (l.known * n) (l.known * n + 2 * ((c.known-depth.result - l.known) * n))
          c.total_known_positions_on.ensures.reads (omega arith);
    }

pub total_positions_level_on-requires-clause-sized : goal.total_positions_level_on-requires-clause-sized
total_positions_level_on-requires-clause-sized g c = subst (λ (s : Lists). HasSizes s) (sym c.loop-depth.invariant.reads.same) c.requires.sized

pub total_positions_level_on-requires-clause-room : goal.total_positions_level_on-requires-clause-room
total_positions_level_on-requires-clause-room g c =
    subst (λ (s : Lists). c.args.self.now.width * c.args.self.now.len ≤ length (bits_in s)) (sym c.loop-depth.invariant.reads.same) c.requires.room

pub total_positions_level_on-requires-clause-each : goal.total_positions_level_on-requires-clause-each
total_positions_level_on-requires-clause-each g c = λ j less near fit.
    let P = λ (m : Lists).
    AreBothOnTheWay c.args.self.now m c.loop-depth.depth (get_or c.args.numbers.now j 0) 0 (get_or c.args.ends.now j 0) (get_or c.loop-depth.firsts j 0)
    (get_or c.loop-depth.lasts j 0) in
    subst P (sym c.loop-depth.invariant.reads.same) (c.loop-depth.invariant.each j less near fit)

pub loop-depth-preserved : goal.loop-depth-preserved
loop-depth-preserved g c =
    let T = g.T.TableSource in
    let l = c.args.self.now in
    let i = c.loop-depth.invariant in
    let d = c.loop-depth.depth in
    let n = length c.args.numbers.now in
    record {
      from = omega (arith, i.from);
      few = omega (arith, c.loop-depth-test.true, c.width-depth-end.ensures.width);
      firsts_len = c.total_positions_level_on.ensures.firsts;
      lasts_len = c.total_positions_level_on.ensures.lasts;
      each = λ j less near fit.
          let P = λ (m : Lists).
          AreBothOnTheWay l m (d + 1) (get_or c.args.numbers.now j 0) 0 (get_or c.args.ends.now j 0) (get_or c.total_positions_level_on.new.firsts j 0)
          (get_or c.total_positions_level_on.new.lasts j 0) in
          subst P i.reads.same (c.total_positions_level_on.ensures.each j less near fit);
      reads = ranks-more l T.lists T.reads c.args.source.now c.loop-depth.source _ (l.known * n + 2 * ((d - l.known) * n)) (2 * n)
          (l.known * n + 2 * ((d + 1 - l.known) * n)) i.reads c.total_positions_level_on.ensures.reads (both-levels-more l.known d n i.from);
    }

pub returns-clause-each : goal.returns-clause-each
returns-clause-each g c = λ j less near fit.
    let T = g.T.TableSource in
    let l = c.args.self.now in
    let i = c.loop-depth.invariant in
    let all : c.loop-depth.depth ≡ l.width = omega (arith, c.loop-depth-test.false, i.few, c.width-depth-end.ensures.width) in
    let P : ℕ → Type 0 = λ d. AreBothOnTheWay l (T.lists c.args.source.now) d (get_or c.args.numbers.now j 0) 0 (get_or c.args.ends.now j 0)
    (get_or c.loop-depth.firsts j 0) (get_or c.loop-depth.lasts j 0) in
    subst P all (i.each j less near fit)

pub returns-clause-reads : goal.returns-clause-reads
returns-clause-reads g c =
    let T = g.T.TableSource in
    let l = c.args.self.now in
    let i = c.loop-depth.invariant in
    let n = length c.args.numbers.now in
    let all : c.loop-depth.depth ≡ l.width = omega (arith, c.loop-depth-test.false, i.few, c.width-depth-end.ensures.width) in
    let P : ℕ → Type 0 = λ d. OnlyRanks l T.lists T.reads c.args.source.now c.loop-depth.source (l.known * n + 2 * ((d - l.known) * n)) in
    ranks-fewer l T.lists T.reads c.args.source.now c.loop-depth.source _ ((2 * l.width - l.known) * n) (subst P all i.reads)
    (both-levels l.known l.width n (omega (arith, c.known-depth.ensures.known, c.known-depth.ensures.most)))

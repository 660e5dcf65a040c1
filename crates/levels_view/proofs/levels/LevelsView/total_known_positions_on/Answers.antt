-- The ends go down the known levels, after which the numbers start where the table says.
use Rattle.std.proofs.Common.{◌≡◌, ℕ, ◌+◌, ◌*◌, ◌≤◌, get_or, length, subst, sym, ◌∙◌, arith}
use Rattle.bitm_tables.specs.Tables.{bits_in, HasSizes, Lists}
use Rattle.matrix_levels.specs.Matrix.{OnlyRanks, numbers_in}
use Rattle.levels_view.specs.Walk.{IsPositionOnTheWay}
use Rattle.matrix_levels.proofs.lemmas.ReadsLemmas.{ranks-fewer, ranks-more, ranks-none}
use Rattle.matrix_levels.proofs.lemmas.WalkLemmas.{level_position-first}
use Rattle.levels_view.proofs.levels.LevelsView.total_known_positions_on.Goals as goal

pub loop-depth-init : goal.loop-depth-init
loop-depth-init g c =
    let T = g.T.TableSource in
    let l = c.args.self.now in
    let s = c.args.source.now in
    let n = length c.args.numbers.now in
    record {
      few = omega arith;
      lasts_len = c.begin_places.ensures.lasts;
      each = λ j less near.
          let is = c.begin_places.ensures.ends j less near in
          record {
            inside = λ _. omega (arith, is, near);
            position = λ h. is ∙ level_position-first (numbers_in l (T.lists s)) l.width (get_or c.args.numbers.now j 0) (get_or c.args.ends.now j 0);
          };
      reads = ranks-fewer l T.lists T.reads s s 0 (0 * n) (ranks-none l T.lists T.reads s) (omega arith);
    }

pub total_lasts_level_on-requires-clause-sized : goal.total_lasts_level_on-requires-clause-sized
total_lasts_level_on-requires-clause-sized g c = subst (λ (s : Lists). HasSizes s) (sym c.loop-depth.invariant.reads.same) c.requires.sized

pub total_lasts_level_on-requires-clause-room : goal.total_lasts_level_on-requires-clause-room
total_lasts_level_on-requires-clause-room g c =
    subst (λ (s : Lists). c.args.self.now.width * c.args.self.now.len ≤ length (bits_in s)) (sym c.loop-depth.invariant.reads.same) c.requires.room

pub total_lasts_level_on-requires-clause-each : goal.total_lasts_level_on-requires-clause-each
total_lasts_level_on-requires-clause-each g c = λ j less near.
    let T = g.T.TableSource in
    let P = λ (m : Lists).
    IsPositionOnTheWay c.args.self.now m c.loop-depth.depth (get_or c.args.numbers.now j 0) (get_or c.args.ends.now j 0) (get_or c.loop-depth.lasts j 0) in
    subst P (sym c.loop-depth.invariant.reads.same) (c.loop-depth.invariant.each j less near)

pub loop-depth-preserved : goal.loop-depth-preserved
loop-depth-preserved g c =
    let T = g.T.TableSource in
    let l = c.args.self.now in
    let i = c.loop-depth.invariant in
    let d = c.loop-depth.depth in
    let n = length c.args.numbers.now in
    record {
      few = omega (arith, c.loop-depth-test.true, c.known-depth-end.ensures.known);
      lasts_len = c.total_lasts_level_on.ensures.lasts;
      each = λ j less near.
          let P = λ (m : Lists).
          IsPositionOnTheWay l m (d + 1) (get_or c.args.numbers.now j 0) (get_or c.args.ends.now j 0) (get_or c.total_lasts_level_on.new.lasts j 0) in
          subst P i.reads.same (c.total_lasts_level_on.ensures.each j less near);
      reads = ranks-more l T.lists T.reads c.args.source.now c.loop-depth.source _ (d * n) n ((d + 1) * n) i.reads c.total_lasts_level_on.ensures.reads (omega arith);
    }

pub returns-clause-each : goal.returns-clause-each
returns-clause-each g c = λ j less near fit.
    let T = g.T.TableSource in
    let l = c.args.self.now in
    let lists = T.lists c.args.source.now in
    let i = c.loop-depth.invariant in
    let all : c.loop-depth.depth ≡ l.known = omega (arith, c.loop-depth-test.false, i.few, c.known-depth-end.ensures.known) in
    let first = c.begin_places.ensures.starts j less lists fit in
    let P : ℕ → Type 0 = λ d. IsPositionOnTheWay l lists d (get_or c.args.numbers.now j 0) (get_or c.args.ends.now j 0) (get_or c.loop-depth.lasts j 0) in
    let last = subst P all (i.each j less near) in
    record { first_in = first.inside; last_in = last.inside; first = first.position; last = last.position }

pub returns-clause-reads : goal.returns-clause-reads
returns-clause-reads g c =
    let T = g.T.TableSource in
    let l = c.args.self.now in
    let i = c.loop-depth.invariant in
    let all : c.loop-depth.depth ≡ l.known = omega (arith, c.loop-depth-test.false, i.few, c.known-depth-end.ensures.known) in
    let P : ℕ → Type 0 = λ d. OnlyRanks l T.lists T.reads c.args.source.now c.loop-depth.source (d * length c.args.numbers.now) in
    subst P all i.reads

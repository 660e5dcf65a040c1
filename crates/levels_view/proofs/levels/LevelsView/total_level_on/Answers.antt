-- Each item moves one level on, while the others stay.
use Rattle.std.proofs.Common.{◌≡◌, ℕ, ◌+◌, ◌*◌, ◌<◌, ◌≤◌, get_or, length, subst, sym, ◌∙◌, arith}
use Rattle.std.proofs.lemmas.List.{length-set}
use Rattle.bitm_tables.specs.Tables.{bits_in, HasSizes, Lists}
use Rattle.matrix_levels.specs.Matrix.{OnlyRanks}
use Rattle.levels_view.specs.Walk.{IsOnTheWay}
use Rattle.matrix_levels.proofs.lemmas.ManyLemmas.{done-more, open-less}
use Rattle.matrix_levels.proofs.lemmas.ReadsLemmas.{ranks-more, ranks-none}
use Rattle.levels_view.proofs.levels.LevelsView.total_level_on.Goals as goal

pub loop-k-init : goal.loop-k-init
loop-k-init g c = record {
  positions_len = c.requires.positions;
  numbers_len = c.requires.numbers;
  done = λ j less. absurd (omega (arith, less));
  rest = λ j _ less. c.requires.each j less;
  reads = ranks-none c.args.self.now g.T.TableSource.lists g.T.TableSource.reads c.args.source.now;
}

pub total_moved_on-position-requires-clause-sized : goal.total_moved_on-position-requires-clause-sized
total_moved_on-position-requires-clause-sized g c = subst (λ (s : Lists). HasSizes s) (sym c.loop-k.invariant.reads.same) c.requires.sized

pub total_moved_on-position-requires-clause-room : goal.total_moved_on-position-requires-clause-room
total_moved_on-position-requires-clause-room g c =
    subst (λ (s : Lists). c.args.self.now.width * c.args.self.now.len ≤ length (bits_in s)) (sym c.loop-k.invariant.reads.same) c.requires.room

pub total_moved_on-position-requires-clause-small : goal.total_moved_on-position-requires-clause-small
total_moved_on-position-requires-clause-small g c =
    (c.loop-k.invariant.rest c.loop-k.k (omega arith) (omega (arith, c.loop-k-test.true, c.loop-k.invariant.positions_len))).small

pub loop-k-preserved : goal.loop-k-preserved
loop-k-preserved g c =
    let T = g.T.TableSource in
    let l = c.args.self.now in
    let lists = T.lists c.args.source.now in
    let i = c.loop-k.invariant in
    let k = c.loop-k.k in
    let less : k < length c.args.indices.now = omega (arith, c.loop-k-test.true, i.positions_len) in
    let moved : IsOnTheWay l lists (c.args.depth + 1) (get_or c.args.indices.now k 0) c.total_moved_on-position.result.0 c.total_moved_on-position.result.1 =
    subst (λ (s : Lists). IsOnTheWay l s (c.args.depth + 1) (get_or c.args.indices.now k 0) c.total_moved_on-position.result.0 c.total_moved_on-position.result.1) i.reads.same
    (c.total_moved_on-position.ensures.moved (get_or c.args.indices.now k 0)
    (subst (λ (s : Lists). IsOnTheWay l s c.args.depth (get_or c.args.indices.now k 0) (get_or c.loop-k.positions k 0) (get_or c.loop-k.numbers k 0)) (sym i.reads.same) (i.rest k (omega arith) less))) in
    let P : ℕ → ℕ → ℕ → ℕ → Type 0 = λ e j p n. IsOnTheWay l lists e (get_or c.args.indices.now j 0) p n in
    let within : k < length c.loop-k.positions = omega (arith, less, i.positions_len) in
    let room : k < length c.loop-k.numbers = omega (arith, less, i.numbers_len) in
    record {
      positions_len = length-set c.loop-k.positions k _ ∙ i.positions_len;
      numbers_len = length-set c.loop-k.numbers k _ ∙ i.numbers_len;
      done = done-more (P (c.args.depth + 1)) c.loop-k.positions c.loop-k.numbers k _ _ within room i.done moved;
      rest = open-less (P c.args.depth) c.loop-k.positions c.loop-k.numbers k _ _ within room (length c.args.indices.now) i.rest;
      reads = ranks-more l T.lists T.reads c.args.source.now c.loop-k.source _ k 1 (k + 1) i.reads c.total_moved_on-position.ensures.reads
          (omega arith);
    }

pub returns-clause-each : goal.returns-clause-each
returns-clause-each g c = λ k less. c.loop-k.invariant.done k (omega (arith, less, c.loop-k-test.false, c.loop-k.invariant.positions_len))

pub returns-clause-reads : goal.returns-clause-reads
returns-clause-reads g c =
    let T = g.T.TableSource in
    let i = c.loop-k.invariant in
    let all : c.loop-k.k ≡ length c.args.indices.now = omega (arith, c.loop-k-test.false, c.loop-k.auto.k-end, i.positions_len) in
    subst (λ n. OnlyRanks c.args.self.now T.lists T.reads c.args.source.now c.loop-k.source n) all i.reads

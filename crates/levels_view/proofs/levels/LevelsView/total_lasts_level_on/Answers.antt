-- Each number moves one level on, while the others stay.
use Rattle.std.proofs.Common.{◌≡◌, ℕ, ◌+◌, ◌*◌, ◌<◌, ◌≤◌, get_or, length, subst, sym, ◌∙◌, arith}
use Rattle.std.proofs.lemmas.List.{length-set}
use Rattle.bitm_tables.specs.Tables.{bits_in, HasSizes, Lists}
use Rattle.matrix_levels.specs.Matrix.{OnlyRanks}
use Rattle.levels_view.specs.Walk.{IsPositionOnTheWay}
use Rattle.matrix_levels.proofs.lemmas.ManyLemmas.{done-more, open-less}
use Rattle.matrix_levels.proofs.lemmas.ReadsLemmas.{ranks-more, ranks-none}
use Rattle.levels_view.proofs.levels.LevelsView.total_lasts_level_on.Goals as goal

pub loop-k-init : goal.loop-k-init
loop-k-init g c = record {
  lasts_len = c.requires.lasts;
  done = λ j less. absurd (omega (arith, less));
  rest = λ j _ less. c.requires.each j less;
  reads = ranks-none c.args.self.now g.T.TableSource.lists g.T.TableSource.reads c.args.source.now;
}

pub total_position_moved_on-requires-clause-sized : goal.total_position_moved_on-requires-clause-sized
total_position_moved_on-requires-clause-sized g c = subst (λ (s : Lists). HasSizes s) (sym c.loop-k.invariant.reads.same) c.requires.sized

pub total_position_moved_on-requires-clause-room : goal.total_position_moved_on-requires-clause-room
total_position_moved_on-requires-clause-room g c =
    subst (λ (s : Lists). c.args.self.now.width * c.args.self.now.len ≤ length (bits_in s)) (sym c.loop-k.invariant.reads.same) c.requires.room

pub loop-k-preserved : goal.loop-k-preserved
loop-k-preserved g c =
    let T = g.T.TableSource in
    let l = c.args.self.now in
    let lists = T.lists c.args.source.now in
    let i = c.loop-k.invariant in
    let k = c.loop-k.k in
    let lasts = c.loop-k.lasts in
    let x = get_or c.args.numbers.now k 0 in
    let end = get_or c.args.ends.now k 0 in
    let less : k < length c.args.numbers.now = omega (arith, c.loop-k-test.true, i.lasts_len) in
    let within : k < length lasts = omega (arith, less, i.lasts_len) in
    let P : ℕ → ℕ → ℕ → ℕ → Type 0 = λ e j p q. get_or c.args.ends.now j 0 ≤ l.len
    → IsPositionOnTheWay l lists e (get_or c.args.numbers.now j 0) (get_or c.args.ends.now j 0) p in
    let moved : P (c.args.depth + 1) k c.total_position_moved_on.result 0 = λ near.
    subst (λ (s : Lists). IsPositionOnTheWay l s (c.args.depth + 1) x end c.total_position_moved_on.result) i.reads.same
    (c.total_position_moved_on.ensures.moved end
    (subst (λ (s : Lists). IsPositionOnTheWay l s c.args.depth x end (get_or lasts k 0)) (sym i.reads.same) (i.rest k (omega arith) less near))) in
    record {
      lasts_len = length-set lasts k _ ∙ i.lasts_len;
      done = done-more (P (c.args.depth + 1)) lasts lasts k _ 0 within within i.done moved;
      rest = open-less (P c.args.depth) lasts lasts k _ 0 within within (length c.args.numbers.now) i.rest;
      reads = ranks-more l T.lists T.reads c.args.source.now c.loop-k.source _ k 1 (k + 1) i.reads c.total_position_moved_on.ensures.reads (omega arith);
    }

pub returns-clause-each : goal.returns-clause-each
returns-clause-each g c = λ k less near. c.loop-k.invariant.done k (omega (arith, less, c.loop-k-test.false)) near

pub returns-clause-reads : goal.returns-clause-reads
returns-clause-reads g c =
    let T = g.T.TableSource in
    let all : c.loop-k.k ≡ length c.args.numbers.now = omega (arith, c.loop-k-test.false, c.loop-k.auto.k-end) in
    subst (OnlyRanks c.args.self.now T.lists T.reads c.args.source.now c.loop-k.source) all c.loop-k.invariant.reads

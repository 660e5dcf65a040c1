-- Each number moves one level on, while the others stay.
use Rattle.std.proofs.Common.{◌≡◌, ℕ, ◌+◌, ◌*◌, ◌^◌, ◌<◌, ◌≤◌, get_or, length, subst, sym, ◌∙◌, arith}
use Rattle.std.proofs.lemmas.List.{length-set}
use Rattle.bitm_tables.specs.Tables.{bits_in, HasSizes, Lists}
use Rattle.matrix_levels.specs.Matrix.{OnlyRanks}
use Rattle.levels_view.specs.Walk.{AreBothOnTheWay}
use Rattle.matrix_levels.proofs.lemmas.ManyLemmas.{done-more, open-less}
use Rattle.matrix_levels.proofs.lemmas.ReadsLemmas.{ranks-more, ranks-none}
use Rattle.levels_view.proofs.levels.LevelsView.total_positions_level_on.Goals as goal

pub loop-k-init : goal.loop-k-init
loop-k-init g c = record {
  firsts_len = c.requires.firsts;
  lasts_len = c.requires.lasts;
  done = λ j less. absurd (omega (arith, less));
  rest = λ j _ less. c.requires.each j less;
  reads = ranks-none c.args.self.now g.T.TableSource.lists g.T.TableSource.reads c.args.source.now;
}

pub total_both_moved_on-first-requires-clause-sized : goal.total_both_moved_on-first-requires-clause-sized
total_both_moved_on-first-requires-clause-sized g c = subst (λ (s : Lists). HasSizes s) (sym c.loop-k.invariant.reads.same) c.requires.sized

pub total_both_moved_on-first-requires-clause-room : goal.total_both_moved_on-first-requires-clause-room
total_both_moved_on-first-requires-clause-room g c =
    subst (λ (s : Lists). c.args.self.now.width * c.args.self.now.len ≤ length (bits_in s)) (sym c.loop-k.invariant.reads.same) c.requires.room

pub loop-k-preserved : goal.loop-k-preserved
loop-k-preserved g c =
    let T = g.T.TableSource in
    let l = c.args.self.now in
    let lists = T.lists c.args.source.now in
    let i = c.loop-k.invariant in
    let k = c.loop-k.k in
    let less : k < length c.args.numbers.now = omega (arith, c.loop-k-test.true, i.firsts_len) in
    let P : ℕ → ℕ → ℕ → ℕ → Type 0 = λ e j p q. get_or c.args.ends.now j 0 ≤ l.len → get_or c.args.numbers.now j 0 < 2 ^ l.width
    → AreBothOnTheWay l lists e (get_or c.args.numbers.now j 0) 0 (get_or c.args.ends.now j 0) p q in
    let moved : P (c.args.depth + 1) k c.total_both_moved_on-first.result.0 c.total_both_moved_on-first.result.1 = λ near fit.
    subst (λ (s : Lists). AreBothOnTheWay l s (c.args.depth + 1) (get_or c.args.numbers.now k 0) 0 (get_or c.args.ends.now k 0) c.total_both_moved_on-first.result.0 c.total_both_moved_on-first.result.1) i.reads.same
    (c.total_both_moved_on-first.ensures.moved 0 (get_or c.args.ends.now k 0)
    (subst (λ (s : Lists). AreBothOnTheWay l s c.args.depth (get_or c.args.numbers.now k 0) 0 (get_or c.args.ends.now k 0) (get_or c.loop-k.firsts k 0) (get_or c.loop-k.lasts k 0)) (sym i.reads.same) (i.rest k (omega arith) less near fit))) in
    let within : k < length c.loop-k.firsts = omega (arith, less, i.firsts_len) in
    let room : k < length c.loop-k.lasts = omega (arith, less, i.lasts_len) in
    record {
      firsts_len = length-set c.loop-k.firsts k _ ∙ i.firsts_len;
      lasts_len = length-set c.loop-k.lasts k _ ∙ i.lasts_len;
      done = done-more (P (c.args.depth + 1)) c.loop-k.firsts c.loop-k.lasts k _ _ within room i.done moved;
      rest = open-less (P c.args.depth) c.loop-k.firsts c.loop-k.lasts k _ _ within room (length c.args.numbers.now) i.rest;
      reads = ranks-more l T.lists T.reads c.args.source.now c.loop-k.source _ (2 * k) 2 (2 * (k + 1)) i.reads
          c.total_both_moved_on-first.ensures.reads (omega arith);
    }

pub returns-clause-each : goal.returns-clause-each
returns-clause-each g c = λ k less near fit. c.loop-k.invariant.done k (omega (arith, less, c.loop-k-test.false)) near fit

pub returns-clause-reads : goal.returns-clause-reads
returns-clause-reads g c =
    let T = g.T.TableSource in
    let i = c.loop-k.invariant in
    let all : c.loop-k.k ≡ length c.args.numbers.now = omega (arith, c.loop-k-test.false, c.loop-k.auto.k-end) in
    subst (λ n. OnlyRanks c.args.self.now T.lists T.reads c.args.source.now c.loop-k.source (2 * n)) all i.reads

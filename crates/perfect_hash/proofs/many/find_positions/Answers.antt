-- All wait at first; what was found shows the positions once none waits, or after the last level.
use Rattle.std.proofs.Common.{inl, inr, length, refl, arith}
use Rattle.perfect_hash.specs.Levels.{fall_in}
use Rattle.perfect_hash.proofs.lemmas.ManyLemmas.{all_none, last_is_claimed, looked_up-first, reads_fewer}
use Rattle.perfect_hash.proofs.many.find_positions.Goals as goal

pub loop-level-init : goal.loop-level-init
loop-level-init g c =
    let i = c.loop-k.invariant in
    record {
      long = omega (arith, c.none_half.auto.positions, c.none_half-2.auto.positions, c.requires.same_length);
      begins = omega arith;
      fewer = omega arith;
      inside = omega arith;
      reads = record {
        at_most = record {
          upper = omega arith;
          lower = omega arith;
          words = omega arith;
          upper_kept = omega arith;
          lower_kept = omega arith;
          words_kept = omega arith;
        };
        same = refl;
      };
      each = looked_up-first (fall_in (g.P.Placing.fall c.args.placing.now) c.args.sizes.now) (g.Q.Query.bits c.args.query.now (g.T.TableSource.lists c.args.source.now)) c.args.sizes.now c.args.hashes.now c.none_half-2.new.positions c.loop-k.waiting
          i.room
          (λ k less.
          all_none c.none_half.new.positions c.none_half-2.new.positions (length c.args.positions.now) (length c.none_half.new.positions) (omega (arith, c.none_half.auto.positions))
          c.none_half.ensures.none c.none_half-2.ensures.none c.none_half-2.ensures.kept k (omega (arith, less, c.requires.same_length)))
          (λ k less. i.own k (omega (arith, less, c.loop-k-test.false)));
    }

pub returns-then-count-eq0 : goal.returns-then-count-eq0
returns-then-count-eq0 g c = record {
  claimed = last_is_claimed (fall_in (g.P.Placing.fall c.args.placing.now) c.args.sizes.now) (g.Q.Query.bits c.args.query.now (g.T.TableSource.lists c.args.source.now))
      c.args.sizes.now c.loop-level.level c.loop-level.begin c.args.hashes.now c.loop-level.positions c.loop-level.waiting c.loop-level.count
      c.loop-level.invariant.each (inr c.if-count-eq0.true);
  reads = reads_fewer (length c.args.hashes.now) (length c.args.sizes.now) c.loop-level.level g.T.TableSource.lists g.T.TableSource.reads c.args.source.now c.loop-level.source
      c.loop-level.invariant.inside c.loop-level.invariant.reads;
}

pub returns : goal.returns
returns g c = record {
  claimed = last_is_claimed (fall_in (g.P.Placing.fall c.args.placing.now) c.args.sizes.now) (g.Q.Query.bits c.args.query.now (g.T.TableSource.lists c.args.source.now))
      c.args.sizes.now c.loop-level.level c.loop-level.begin c.args.hashes.now c.loop-level.positions c.loop-level.waiting c.loop-level.count
      c.loop-level.invariant.each (inl c.loop-level-test.false);
  reads = reads_fewer (length c.args.hashes.now) (length c.args.sizes.now) c.loop-level.level g.T.TableSource.lists g.T.TableSource.reads c.args.source.now c.loop-level.source
      c.loop-level.invariant.inside c.loop-level.invariant.reads;
}

-- The one that was looked up goes on, or was found.
use Rattle.std.proofs.Common.{ℕ, ◌+◌, ◌∙◌, slice_index, slice_set, subst, sym, arith}
use Rattle.std.proofs.lemmas.List.{length-set}
use Rattle.bitm_tables.specs.Tables.{Lists}
use Rattle.perfect_hash.specs.Levels.{fall_in}
use Rattle.perfect_hash.specs.Many.{IsLookedUp}
use Rattle.perfect_hash.proofs.lemmas.ManyLemmas.{Midway, Midway-found, Midway-on}
use Rattle.perfect_hash.proofs.many.look_at_level.Goals as goal
use Rattle.perfect_hash.proofs.many.look_at_level.Goals.{then-position, else-position}

pub loop-i-preserved : goal.loop-i-preserved
loop-i-preserved g c =
    let fall = fall_in (g.P.Placing.fall c.args.placing.now) c.args.sizes.now in
    let b = g.Q.Query.bits c.args.query.now (g.T.TableSource.lists c.args.source.now) in
    let sizes = c.args.sizes.now in
    let next = c.args.begin + slice_index sizes c.args.level in
    let hashes = c.args.hashes.now in
    let positions = c.loop-i.positions in
    let waiting = c.loop-i.waiting in
    let i = c.loop-i.i in
    let position = c.look-position.result in
    let before = c.loop-i.invariant.reads in
    let one = c.look-position.ensures.reads in
    let looked =
    subst
    (λ (l : Lists).
    IsLookedUp (fall (slice_index hashes (slice_index waiting i))) (g.Q.Query.bits c.args.query.now l) sizes (c.args.level + 1) next position)
    before.same c.look-position.ensures.looked in
    let P : ℕ → Type 0 = λ kept.
    Midway fall b sizes c.args.level c.args.begin next hashes (slice_set positions (slice_index waiting i) position)
    (slice_set waiting c.loop-i.kept (slice_index waiting i)) kept (i + 1) c.args.count in
    record {
      long = length-set positions (slice_index waiting i) position ∙ c.loop-i.invariant.long;
      reads = record {
        at_most = record {
          upper = omega (arith, before.at_most.upper, one.at_most.upper);
          lower = omega (arith, before.at_most.lower, one.at_most.lower);
          words = omega (arith, before.at_most.words, one.at_most.words);
          upper_kept = omega (arith, before.at_most.upper_kept, one.at_most.upper_kept);
          lower_kept = omega (arith, before.at_most.lower_kept, one.at_most.lower_kept);
          words_kept = omega (arith, before.at_most.words_kept, one.at_most.words_kept);
        };
        same = one.same ∙ before.same;
      };
      midway =
          elim c.if-position.branch [
            | then-position w ↦
                subst P (sym w.kept-is)
                (Midway-on fall b sizes c.args.level c.args.begin next hashes positions waiting c.loop-i.kept i c.args.count position
                c.loop-i.invariant.midway c.loop-i-test.true c.loop-i.invariant.long looked w.if-position.true)
            | else-position w ↦
                subst P (sym w.kept-is)
                (Midway-found fall b sizes c.args.level c.args.begin next hashes positions waiting c.loop-i.kept i c.args.count position
                c.loop-i.invariant.midway c.loop-i-test.true c.loop-i.invariant.long looked w.if-position.false)
          ];
    }

-- Each turn writes the least number from a number on, and passes no other.
use Rattle.std.proofs.Common.{◌≢◌, ◌+◌, ◌≤◌, map, length, set, refl, ◌∙◌, arith}
use Rattle.std.proofs.lemmas.List.{length-set, get_or-set_other}
use Rattle.postings.proofs.JoiningLemmas.{joining_none, joined_ended, joined_none, joined_full, still_in_some, turn_joined}
use Rattle.postings.proofs.SharingLemmas.{keeps_through}
use Rattle.postings.proofs.joining.total_union.Goals as goal

pub loop-count-init : goal.loop-count-init
loop-count-init g c =
    record {
      joining = λ r. joining_none (map g.C.TotalCursor.left c.args.lists.now) c.args.from c.args.out.now;
      right = λ r. r;
      asked = λ j. omega arith;
      rest = (refl, λ j past. refl);
      room = omega arith;
      sound = refl;
      same = refl;
    }

pub returns-in-Absent-clause-joined : goal.returns-in-Absent-clause-joined
returns-in-Absent-clause-joined g c =
    let i = c.loop-count.invariant in
    λ r. joined_ended (map g.C.TotalCursor.left c.args.lists.now) (map g.C.TotalCursor.left c.loop-count.lists) c.args.from c.loop-count.count c.loop-count.low (length c.args.out.now) c.loop-count.out (i.joining r) i.room (c.in-Absent.ensures.least (i.right r))

pub returns-in-Absent-clause-left : goal.returns-in-Absent-clause-left
returns-in-Absent-clause-left g c =
    let i = c.loop-count.invariant in
    λ r.
    still_in_some (map g.C.TotalCursor.left c.args.lists.now) (map g.C.TotalCursor.left c.loop-count.lists) c.args.from c.loop-count.count c.loop-count.low (length c.args.out.now) c.loop-count.out (i.joining r) i.room (map g.C.TotalCursor.left c.least_from.new.lists) (keeps_through (map g.C.TotalCursor.left c.args.lists.now) (map g.C.TotalCursor.left c.loop-count.lists) (map g.C.TotalCursor.left c.least_from.new.lists) c.loop-count.low (i.joining r).keeps (c.least_from.ensures.keeps (i.right r)))

pub returns-in-Absent-clause-sound : goal.returns-in-Absent-clause-sound
returns-in-Absent-clause-sound g c =
    let i = c.loop-count.invariant in
    c.in-Absent.ensures.sound ∙ i.sound

pub returns-in-Absent-clause-same : goal.returns-in-Absent-clause-same
returns-in-Absent-clause-same g c =
    let i = c.loop-count.invariant in
    c.least_from.ensures.same ∙ i.same

pub returns-in-Absent-clause-right : goal.returns-in-Absent-clause-right
returns-in-Absent-clause-right g c =
    let i = c.loop-count.invariant in
    λ r. c.least_from.ensures.right (i.right r)

pub returns-in-Absent-clause-asked : goal.returns-in-Absent-clause-asked
returns-in-Absent-clause-asked g c =
    let i = c.loop-count.invariant in
    λ j. omega (arith, i.asked j, c.least_from.ensures.asked j)

pub returns-in-Wrong-clause-joined : goal.returns-in-Wrong-clause-joined
returns-in-Wrong-clause-joined g c =
    let i = c.loop-count.invariant in
    λ r. absurd (c.in-Wrong.ensures.least (i.right r))

pub returns-in-Wrong-clause-left : goal.returns-in-Wrong-clause-left
returns-in-Wrong-clause-left g c =
    let i = c.loop-count.invariant in
    λ r. absurd (c.in-Wrong.ensures.least (i.right r))

pub returns-in-Wrong-clause-same : goal.returns-in-Wrong-clause-same
returns-in-Wrong-clause-same g c =
    let i = c.loop-count.invariant in
    c.least_from.ensures.same ∙ i.same

pub returns-in-Wrong-clause-right : goal.returns-in-Wrong-clause-right
returns-in-Wrong-clause-right g c =
    let i = c.loop-count.invariant in
    λ r. c.least_from.ensures.right (i.right r)

pub returns-in-Wrong-clause-asked : goal.returns-in-Wrong-clause-asked
returns-in-Wrong-clause-asked g c =
    let i = c.loop-count.invariant in
    λ j. omega (arith, i.asked j, c.least_from.ensures.asked j)

pub returns-then-v-clause-joined : goal.returns-then-v-clause-joined
returns-then-v-clause-joined g c =
    let i = c.loop-count.invariant in
    λ r.
    let room : c.loop-count.count + 1 ≤ length c.args.out.now = omega (arith, c.loop-count-test.true, c.loop-count.auto.out) in
    joined_none (map g.C.TotalCursor.left c.args.lists.now) (map g.C.TotalCursor.left c.least_from.new.lists) c.args.from (c.loop-count.count + 1) (c.in-Found.v + 1) (length c.args.out.now) (set c.loop-count.out c.loop-count.count c.in-Found.v) (turn_joined (map g.C.TotalCursor.left c.args.lists.now) (map g.C.TotalCursor.left c.loop-count.lists) (map g.C.TotalCursor.left c.least_from.new.lists) c.args.from c.loop-count.count c.loop-count.low c.in-Found.v c.loop-count.out (i.joining r) c.loop-count-test.true (c.in-Found.ensures.least (i.right r)) (c.least_from.ensures.keeps (i.right r))) room (λ x l s some. omega (arith, l, s, c.if-v.true))

pub returns-then-v-clause-left : goal.returns-then-v-clause-left
returns-then-v-clause-left g c =
    let i = c.loop-count.invariant in
    λ r.
    let room : c.loop-count.count + 1 ≤ length c.args.out.now = omega (arith, c.loop-count-test.true, c.loop-count.auto.out) in
    let after = turn_joined (map g.C.TotalCursor.left c.args.lists.now) (map g.C.TotalCursor.left c.loop-count.lists) (map g.C.TotalCursor.left c.least_from.new.lists) c.args.from c.loop-count.count c.loop-count.low c.in-Found.v c.loop-count.out (i.joining r) c.loop-count-test.true (c.in-Found.ensures.least (i.right r)) (c.least_from.ensures.keeps (i.right r)) in
    still_in_some (map g.C.TotalCursor.left c.args.lists.now) (map g.C.TotalCursor.left c.least_from.new.lists) c.args.from (c.loop-count.count + 1) (c.in-Found.v + 1) (length c.args.out.now) (set c.loop-count.out c.loop-count.count c.in-Found.v) after room (map g.C.TotalCursor.left c.least_from.new.lists) after.keeps

pub returns-then-v-clause-sound : goal.returns-then-v-clause-sound
returns-then-v-clause-sound g c =
    let i = c.loop-count.invariant in
    c.in-Found.ensures.sound ∙ i.sound

pub returns-then-v-clause-same : goal.returns-then-v-clause-same
returns-then-v-clause-same g c =
    let i = c.loop-count.invariant in
    c.least_from.ensures.same ∙ i.same

pub returns-then-v-clause-right : goal.returns-then-v-clause-right
returns-then-v-clause-right g c =
    let i = c.loop-count.invariant in
    λ r. c.least_from.ensures.right (i.right r)

pub returns-then-v-clause-asked : goal.returns-then-v-clause-asked
returns-then-v-clause-asked g c =
    let i = c.loop-count.invariant in
    λ j. omega (arith, i.asked j, c.least_from.ensures.asked j)

pub loop-count-preserved : goal.loop-count-preserved
loop-count-preserved g c =
    let i = c.loop-count.invariant in
    let room : c.loop-count.count + 1 ≤ length c.args.out.now = omega (arith, c.loop-count-test.true, c.loop-count.auto.out) in
    record {
      joining = λ r. turn_joined (map g.C.TotalCursor.left c.args.lists.now) (map g.C.TotalCursor.left c.loop-count.lists) (map g.C.TotalCursor.left c.least_from.new.lists) c.args.from c.loop-count.count c.loop-count.low c.in-Found.v c.loop-count.out (i.joining r) c.loop-count-test.true (c.in-Found.ensures.least (i.right r)) (c.least_from.ensures.keeps (i.right r));
      right = λ r. c.least_from.ensures.right (i.right r);
      asked = λ j. omega (arith, i.asked j, c.least_from.ensures.asked j);
      rest = (
        length-set c.loop-count.out c.loop-count.count c.in-Found.v ∙ i.rest.0,
        λ j past.
            let other : j ≢ c.loop-count.count = λ e. omega (arith, e, past) in
            get_or-set_other c.loop-count.out c.loop-count.count j c.in-Found.v 0 other ∙ i.rest.1 j (omega (arith, past)),
      );
      room = room;
      sound = c.in-Found.ensures.sound ∙ i.sound;
      same = c.least_from.ensures.same ∙ i.same;
    }

pub returns-clause-joined : goal.returns-clause-joined
returns-clause-joined g c =
    let i = c.loop-count.invariant in
    λ r. joined_full (map g.C.TotalCursor.left c.args.lists.now) (map g.C.TotalCursor.left c.loop-count.lists) c.args.from c.loop-count.count c.loop-count.low (length c.args.out.now) c.loop-count.out (i.joining r) i.room (omega (arith, c.loop-count-test.false, c.loop-count.auto.out))

pub returns-clause-left : goal.returns-clause-left
returns-clause-left g c =
    let i = c.loop-count.invariant in
    λ r. still_in_some (map g.C.TotalCursor.left c.args.lists.now) (map g.C.TotalCursor.left c.loop-count.lists) c.args.from c.loop-count.count c.loop-count.low (length c.args.out.now) c.loop-count.out (i.joining r) i.room (map g.C.TotalCursor.left c.loop-count.lists) (i.joining r).keeps

pub returns-clause-asked : goal.returns-clause-asked
returns-clause-asked g c =
    let i = c.loop-count.invariant in
    λ j. omega (arith, i.asked j)

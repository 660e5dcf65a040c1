-- Each turn passes the numbers of the first list up to the next that may be shared.
use Rattle.std.proofs.Common.{◌≡◌, ◌≢◌, ◌+◌, ◌<◌, ◌≤◌, All, map, length, set, refl, ◌∙◌, arith, get_or}
use Rattle.std.proofs.lemmas.List.{length-set, get_or-set_other}
use Rattle.std.proofs.Math.Seq.{map-set_same}
use Rattle.std.proofs.lemmas.List.Elements.{All-set, All-get_or}
use Rattle.postings.proofs.MergeLemmas.{first_asked, first_shared, first_left, others_asked, others_ended, none_left, turned_next, turned_all}
use Rattle.postings.proofs.MeetingLemmas.{still_in_all, shared_none, shared_full}
use Rattle.postings.proofs.TurnLemmas.{sharing_none}
use Rattle.postings.proofs.sharing.total_intersect.Goals as goal
use Rattle.postings.proofs.sharing.total_intersect.Goals.{After-total_next_geq, After-ask_others}

pub loop-count-init : goal.loop-count-init
loop-count-init g c =
    record {
      sharing = λ r. sharing_none (map g.C.TotalCursor.left c.args.lists.now) (map g.C.TotalCursor.calls c.args.lists.now) c.args.from c.args.out.now;
      right = λ r. r;
      kept = (refl, λ j past. refl);
      room = omega arith;
      sound = refl;
      same = refl;
    }

inside : (g : _) (c : After-total_next_geq g) → 0 < length c.loop-count.lists
inside g c = omega (arith, c.requires, c.loop-count.auto.lists)

-- the first list is right where all were, and stays so
was_right : (g : _) (c : After-total_next_geq g) → All g.C.TotalCursor.right c.args.lists.now → g.C.TotalCursor.right (get_or c.loop-count.lists 0 c.index-lists-0.result)
was_right g c r = All-get_or g.C.TotalCursor.right c.loop-count.lists 0 c.index-lists-0.result (inside g c) (c.loop-count.invariant.right r)

stays : (g : _) (c : After-total_next_geq g) → All g.C.TotalCursor.right c.args.lists.now → All g.C.TotalCursor.right (set c.loop-count.lists 0 c.total_next_geq.new.self)
stays g c r = All-set g.C.TotalCursor.right c.loop-count.lists 0 c.total_next_geq.new.self (c.total_next_geq.ensures.stays (was_right g c r)) (c.loop-count.invariant.right r)

-- the list that is asked keeps what no call changes
same_on : (g : _) (c : After-total_next_geq g) → map g.C.TotalCursor.kept (set c.loop-count.lists 0 c.total_next_geq.new.self) ≡ map g.C.TotalCursor.kept c.args.lists.now
same_on g c = map-set_same g.C.TotalCursor.kept c.loop-count.lists 0 c.total_next_geq.new.self c.index-lists-0.result c.total_next_geq.ensures.same ∙ c.loop-count.invariant.same

-- and counts no more answers of Wrong where it gave another
sound_on : (g : _) (c : After-total_next_geq g) → g.C.TotalCursor.wrong c.total_next_geq.new.self ≡ g.C.TotalCursor.wrong (get_or c.loop-count.lists 0 c.index-lists-0.result)
    → map g.C.TotalCursor.wrong (set c.loop-count.lists 0 c.total_next_geq.new.self) ≡ map g.C.TotalCursor.wrong c.args.lists.now
sound_on g c e = map-set_same g.C.TotalCursor.wrong c.loop-count.lists 0 c.total_next_geq.new.self c.index-lists-0.result e ∙ c.loop-count.invariant.sound

pub returns-in-Absent-clause-shared : goal.returns-in-Absent-clause-shared
returns-in-Absent-clause-shared g c =
    let w = (goal.at.returns-in-Absent-clause-shared g c).After-total_next_geq in
    λ r. first_shared g.C.TotalCursor.left g.C.TotalCursor.calls c.args.lists.now c.loop-count.lists c.args.from c.loop-count.count c.loop-count.low (length c.args.out.now) c.loop-count.out c.index-lists-0.result c.total_next_geq.new.self (c.loop-count.invariant.sharing r) c.loop-count.invariant.room (inside g w) c.loop-count.auto.lists c.total_next_geq.ensures.counted (c.in-Absent.ensures.next (was_right g w r))

pub returns-in-Absent-clause-left : goal.returns-in-Absent-clause-left
returns-in-Absent-clause-left g c =
    let w = (goal.at.returns-in-Absent-clause-left g c).After-total_next_geq in
    λ r. first_left g.C.TotalCursor.left g.C.TotalCursor.calls c.args.lists.now c.loop-count.lists c.args.from c.loop-count.count c.loop-count.low (length c.args.out.now) c.loop-count.out c.index-lists-0.result c.total_next_geq.new.self (c.loop-count.invariant.sharing r) c.loop-count.invariant.room (inside g w) c.loop-count.auto.lists c.total_next_geq.ensures.counted (c.in-Absent.ensures.next (was_right g w r))

pub returns-in-Absent-clause-asked : goal.returns-in-Absent-clause-asked
returns-in-Absent-clause-asked g c =
    let w = (goal.at.returns-in-Absent-clause-asked g c).After-total_next_geq in
    λ r. first_asked g.C.TotalCursor.left g.C.TotalCursor.calls c.args.lists.now c.loop-count.lists c.args.from c.loop-count.count c.loop-count.low (length c.args.out.now) c.loop-count.out c.index-lists-0.result c.total_next_geq.new.self (c.loop-count.invariant.sharing r) c.loop-count.invariant.room (inside g w) c.loop-count.auto.lists c.total_next_geq.ensures.counted

pub returns-in-Absent-clause-sound : goal.returns-in-Absent-clause-sound
returns-in-Absent-clause-sound g c =
    let w = (goal.at.returns-in-Absent-clause-sound g c).After-total_next_geq in
    sound_on g w c.in-Absent.ensures.sound

pub returns-in-Absent-clause-same : goal.returns-in-Absent-clause-same
returns-in-Absent-clause-same g c =
    let w = (goal.at.returns-in-Absent-clause-same g c).After-total_next_geq in
    same_on g w

pub returns-in-Absent-clause-right : goal.returns-in-Absent-clause-right
returns-in-Absent-clause-right g c =
    let w = (goal.at.returns-in-Absent-clause-right g c).After-total_next_geq in
    stays g w

pub returns-in-Wrong-clause-shared : goal.returns-in-Wrong-clause-shared
returns-in-Wrong-clause-shared g c =
    let w = (goal.at.returns-in-Wrong-clause-shared g c).After-total_next_geq in
    λ r. absurd (c.in-Wrong.ensures.next (was_right g w r))

pub returns-in-Wrong-clause-left : goal.returns-in-Wrong-clause-left
returns-in-Wrong-clause-left g c =
    let w = (goal.at.returns-in-Wrong-clause-left g c).After-total_next_geq in
    λ r. absurd (c.in-Wrong.ensures.next (was_right g w r))

pub returns-in-Wrong-clause-asked : goal.returns-in-Wrong-clause-asked
returns-in-Wrong-clause-asked g c =
    let w = (goal.at.returns-in-Wrong-clause-asked g c).After-total_next_geq in
    λ r. first_asked g.C.TotalCursor.left g.C.TotalCursor.calls c.args.lists.now c.loop-count.lists c.args.from c.loop-count.count c.loop-count.low (length c.args.out.now) c.loop-count.out c.index-lists-0.result c.total_next_geq.new.self (c.loop-count.invariant.sharing r) c.loop-count.invariant.room (inside g w) c.loop-count.auto.lists c.total_next_geq.ensures.counted

pub returns-in-Wrong-clause-same : goal.returns-in-Wrong-clause-same
returns-in-Wrong-clause-same g c =
    let w = (goal.at.returns-in-Wrong-clause-same g c).After-total_next_geq in
    same_on g w

pub returns-in-Wrong-clause-right : goal.returns-in-Wrong-clause-right
returns-in-Wrong-clause-right g c =
    let w = (goal.at.returns-in-Wrong-clause-right g c).After-total_next_geq in
    stays g w

pub returns-in-Ended-clause-shared : goal.returns-in-Ended-clause-shared
returns-in-Ended-clause-shared g c =
    let w = (goal.at.returns-in-Ended-clause-shared g c).After-total_next_geq in
    λ r.
    let e = (c.in-Ended.ensures.asked (stays g w r)) in
    others_ended g.C.TotalCursor.left g.C.TotalCursor.calls c.args.lists.now c.loop-count.lists c.args.from c.loop-count.count c.loop-count.low (length c.args.out.now) c.loop-count.out c.index-lists-0.result c.total_next_geq.new.self (c.loop-count.invariant.sharing r) c.loop-count.invariant.room (inside g w) c.loop-count.auto.lists c.total_next_geq.ensures.counted c.in-Found.v (c.in-Found.ensures.next (was_right g w r)) c.ask_others.new.lists _ e e.agreed

pub returns-in-Ended-clause-left : goal.returns-in-Ended-clause-left
returns-in-Ended-clause-left g c =
    let w = (goal.at.returns-in-Ended-clause-left g c).After-total_next_geq in
    λ r.
    let e = (c.in-Ended.ensures.asked (stays g w r)) in
    none_left g.C.TotalCursor.left g.C.TotalCursor.calls c.args.lists.now c.loop-count.lists c.args.from c.loop-count.count c.loop-count.low (length c.args.out.now) c.loop-count.out c.index-lists-0.result c.total_next_geq.new.self (c.loop-count.invariant.sharing r) c.loop-count.invariant.room (inside g w) c.loop-count.auto.lists c.total_next_geq.ensures.counted c.in-Found.v (c.in-Found.ensures.next (was_right g w r)) c.ask_others.new.lists _ e e.agreed

pub returns-in-Ended-clause-asked : goal.returns-in-Ended-clause-asked
returns-in-Ended-clause-asked g c =
    let w = (goal.at.returns-in-Ended-clause-asked g c).After-total_next_geq in
    λ r. others_asked g.C.TotalCursor.left g.C.TotalCursor.calls c.args.lists.now c.loop-count.lists c.args.from c.loop-count.count c.loop-count.low (length c.args.out.now) c.loop-count.out c.index-lists-0.result c.total_next_geq.new.self (c.loop-count.invariant.sharing r) c.loop-count.invariant.room (inside g w) c.loop-count.auto.lists c.total_next_geq.ensures.counted c.in-Found.v (c.in-Found.ensures.next (was_right g w r)) c.ask_others.new.lists _ (c.ask_others.ensures.asked (stays g w r))

pub returns-in-Ended-clause-sound : goal.returns-in-Ended-clause-sound
returns-in-Ended-clause-sound g c =
    let w = (goal.at.returns-in-Ended-clause-sound g c).After-total_next_geq in
    c.in-Ended.ensures.sound ∙ sound_on g w c.in-Found.ensures.sound

pub returns-in-Ended-clause-same : goal.returns-in-Ended-clause-same
returns-in-Ended-clause-same g c =
    let w = (goal.at.returns-in-Ended-clause-same g c).After-total_next_geq in
    c.ask_others.ensures.same ∙ same_on g w

pub returns-in-Ended-clause-right : goal.returns-in-Ended-clause-right
returns-in-Ended-clause-right g c =
    let w = (goal.at.returns-in-Ended-clause-right g c).After-total_next_geq in
    λ r. c.ask_others.ensures.right (stays g w r)

pub returns-in-Unknown-clause-shared : goal.returns-in-Unknown-clause-shared
returns-in-Unknown-clause-shared g c =
    let w = (goal.at.returns-in-Unknown-clause-shared g c).After-total_next_geq in
    λ r. absurd ((c.in-Unknown.ensures.asked (stays g w r)).agreed)

pub returns-in-Unknown-clause-left : goal.returns-in-Unknown-clause-left
returns-in-Unknown-clause-left g c =
    let w = (goal.at.returns-in-Unknown-clause-left g c).After-total_next_geq in
    λ r. absurd ((c.in-Unknown.ensures.asked (stays g w r)).agreed)

pub returns-in-Unknown-clause-asked : goal.returns-in-Unknown-clause-asked
returns-in-Unknown-clause-asked g c =
    let w = (goal.at.returns-in-Unknown-clause-asked g c).After-total_next_geq in
    λ r. absurd ((c.in-Unknown.ensures.asked (stays g w r)).agreed)

pub returns-in-Unknown-clause-same : goal.returns-in-Unknown-clause-same
returns-in-Unknown-clause-same g c =
    let w = (goal.at.returns-in-Unknown-clause-same g c).After-total_next_geq in
    c.ask_others.ensures.same ∙ same_on g w

pub returns-in-Unknown-clause-right : goal.returns-in-Unknown-clause-right
returns-in-Unknown-clause-right g c =
    let w = (goal.at.returns-in-Unknown-clause-right g c).After-total_next_geq in
    λ r. c.ask_others.ensures.right (stays g w r)

pub loop-count-preserved-in-Next : goal.loop-count-preserved-in-Next
loop-count-preserved-in-Next g c =
    let w = (goal.at.loop-count-preserved-in-Next g c).After-total_next_geq in
    let i = c.loop-count.invariant in
    record {
      sharing = λ r.
          let e = (c.in-Next.ensures.asked (stays g w r)) in
          turned_next g.C.TotalCursor.left g.C.TotalCursor.calls c.args.lists.now c.loop-count.lists c.args.from c.loop-count.count c.loop-count.low (length c.args.out.now) c.loop-count.out c.index-lists-0.result c.total_next_geq.new.self (c.loop-count.invariant.sharing r) c.loop-count.invariant.room (inside g w) c.loop-count.auto.lists c.total_next_geq.ensures.counted c.in-Found.v (c.in-Found.ensures.next (was_right g w r)) c.ask_others.new.lists _ e c.in-Next.x e.agreed.0 e.agreed.1;
      right = λ r. c.ask_others.ensures.right (stays g w r);
      kept = i.kept;
      room = i.room;
      sound = c.in-Next.ensures.sound ∙ sound_on g w c.in-Found.ensures.sound;
      same = c.ask_others.ensures.same ∙ same_on g w;
    }

pub returns-then-v-clause-shared : goal.returns-then-v-clause-shared
returns-then-v-clause-shared g c =
    let w = (goal.at.returns-then-v-clause-shared g c).After-total_next_geq in
    λ r.
    let e = (c.in-All.ensures.asked (stays g w r)) in
    let room : c.loop-count.count + 1 ≤ length c.args.out.now = omega (arith, c.loop-count-test.true, c.loop-count.auto.out) in
    shared_none (map g.C.TotalCursor.left c.args.lists.now) (map g.C.TotalCursor.left c.ask_others.new.lists) c.args.from (c.loop-count.count + 1) (c.in-Found.v + 1) (set c.loop-count.out c.loop-count.count c.in-Found.v) (turned_all g.C.TotalCursor.left g.C.TotalCursor.calls c.args.lists.now c.loop-count.lists c.args.from c.loop-count.count c.loop-count.low (length c.args.out.now) c.loop-count.out c.index-lists-0.result c.total_next_geq.new.self (c.loop-count.invariant.sharing r) c.loop-count.invariant.room (inside g w) c.loop-count.auto.lists c.total_next_geq.ensures.counted c.in-Found.v (c.in-Found.ensures.next (was_right g w r)) c.ask_others.new.lists _ e c.loop-count-test.true e.agreed).meeting (length c.args.out.now) room (λ x l s all. omega (arith, l, s, c.if-v.true))

pub returns-then-v-clause-left : goal.returns-then-v-clause-left
returns-then-v-clause-left g c =
    let w = (goal.at.returns-then-v-clause-left g c).After-total_next_geq in
    λ r.
    let e = (c.in-All.ensures.asked (stays g w r)) in
    let after = turned_all g.C.TotalCursor.left g.C.TotalCursor.calls c.args.lists.now c.loop-count.lists c.args.from c.loop-count.count c.loop-count.low (length c.args.out.now) c.loop-count.out c.index-lists-0.result c.total_next_geq.new.self (c.loop-count.invariant.sharing r) c.loop-count.invariant.room (inside g w) c.loop-count.auto.lists c.total_next_geq.ensures.counted c.in-Found.v (c.in-Found.ensures.next (was_right g w r)) c.ask_others.new.lists _ e c.loop-count-test.true e.agreed in
    still_in_all (map g.C.TotalCursor.left c.args.lists.now) (map g.C.TotalCursor.left c.ask_others.new.lists) c.args.from (c.loop-count.count + 1) (c.in-Found.v + 1) (set c.loop-count.out c.loop-count.count c.in-Found.v) after.meeting (map g.C.TotalCursor.left c.ask_others.new.lists) after.meeting.keeps

pub returns-then-v-clause-asked : goal.returns-then-v-clause-asked
returns-then-v-clause-asked g c =
    let w = (goal.at.returns-then-v-clause-asked g c).After-total_next_geq in
    λ r. others_asked g.C.TotalCursor.left g.C.TotalCursor.calls c.args.lists.now c.loop-count.lists c.args.from c.loop-count.count c.loop-count.low (length c.args.out.now) c.loop-count.out c.index-lists-0.result c.total_next_geq.new.self (c.loop-count.invariant.sharing r) c.loop-count.invariant.room (inside g w) c.loop-count.auto.lists c.total_next_geq.ensures.counted c.in-Found.v (c.in-Found.ensures.next (was_right g w r)) c.ask_others.new.lists _ (c.ask_others.ensures.asked (stays g w r))

pub returns-then-v-clause-sound : goal.returns-then-v-clause-sound
returns-then-v-clause-sound g c =
    let w = (goal.at.returns-then-v-clause-sound g c).After-total_next_geq in
    c.in-All.ensures.sound ∙ sound_on g w c.in-Found.ensures.sound

pub returns-then-v-clause-same : goal.returns-then-v-clause-same
returns-then-v-clause-same g c =
    let w = (goal.at.returns-then-v-clause-same g c).After-total_next_geq in
    c.ask_others.ensures.same ∙ same_on g w

pub returns-then-v-clause-right : goal.returns-then-v-clause-right
returns-then-v-clause-right g c =
    let w = (goal.at.returns-then-v-clause-right g c).After-total_next_geq in
    λ r. c.ask_others.ensures.right (stays g w r)

pub loop-count-preserved : goal.loop-count-preserved
loop-count-preserved g c =
    let w = (goal.at.loop-count-preserved g c).After-total_next_geq in
    let i = c.loop-count.invariant in
    let room : c.loop-count.count + 1 ≤ length c.args.out.now = omega (arith, c.loop-count-test.true, c.loop-count.auto.out) in
    record {
      sharing = λ r.
          let e = (c.in-All.ensures.asked (stays g w r)) in
          turned_all g.C.TotalCursor.left g.C.TotalCursor.calls c.args.lists.now c.loop-count.lists c.args.from c.loop-count.count c.loop-count.low (length c.args.out.now) c.loop-count.out c.index-lists-0.result c.total_next_geq.new.self (c.loop-count.invariant.sharing r) c.loop-count.invariant.room (inside g w) c.loop-count.auto.lists c.total_next_geq.ensures.counted c.in-Found.v (c.in-Found.ensures.next (was_right g w r)) c.ask_others.new.lists _ e c.loop-count-test.true e.agreed;
      right = λ r. c.ask_others.ensures.right (stays g w r);
      kept = (
        length-set c.loop-count.out c.loop-count.count c.in-Found.v ∙ i.kept.0,
        λ j past.
            let other : j ≢ c.loop-count.count = λ e. omega (arith, e, past) in
            get_or-set_other c.loop-count.out c.loop-count.count j c.in-Found.v 0 other ∙ i.kept.1 j (omega (arith, past)),
      );
      room = room;
      sound = c.in-All.ensures.sound ∙ sound_on g w c.in-Found.ensures.sound;
      same = c.ask_others.ensures.same ∙ same_on g w;
    }

pub returns-clause-shared : goal.returns-clause-shared
returns-clause-shared g c = λ r.
    let i = c.loop-count.invariant in
    shared_full (map g.C.TotalCursor.left c.args.lists.now) (map g.C.TotalCursor.left c.loop-count.lists) c.args.from c.loop-count.count c.loop-count.low c.loop-count.out (i.sharing r).meeting (length c.args.out.now) i.room
    (omega (arith, c.loop-count-test.false, c.loop-count.auto.out))

pub returns-clause-left : goal.returns-clause-left
returns-clause-left g c = λ r.
    let i = c.loop-count.invariant in
    still_in_all (map g.C.TotalCursor.left c.args.lists.now) (map g.C.TotalCursor.left c.loop-count.lists) c.args.from c.loop-count.count c.loop-count.low c.loop-count.out (i.sharing r).meeting (map g.C.TotalCursor.left c.loop-count.lists) (i.sharing r).meeting.keeps

pub returns-clause-asked : goal.returns-clause-asked
returns-clause-asked g c = λ r.
    let s = c.loop-count.invariant.sharing r in
    λ j. omega (arith, s.at_most j, s.passed)

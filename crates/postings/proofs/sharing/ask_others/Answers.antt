-- A list that has no such number, or passed it, shows that not all have it.
use Rattle.std.proofs.Common.{◌≡◌, ◌<◌, All, map, length, refl, ◌∙◌, arith, get_or, set}
use Rattle.std.proofs.lemmas.List.{length-map}
use Rattle.std.proofs.Math.Seq.{map-set_same}
use Rattle.std.proofs.lemmas.List.Elements.{All-set, All-get_or}
use Rattle.postings.proofs.SharingLemmas.{keeps_all}
use Rattle.postings.proofs.AskLemmas.{ask_ended, ask_passed, ask_agreed}
use Rattle.postings.proofs.sharing.ask_others.Goals as goal
use Rattle.postings.proofs.sharing.ask_others.Goals.{After-total_next_geq}

pub loop-i-init : goal.loop-i-init
loop-i-init g c =
    record {
      asking = λ r. record {
        agreed = λ j from less. absurd (omega (arith, from, less));
        keeps = keeps_all (map g.C.TotalCursor.left c.args.lists.now) c.args.v;
        at_most = λ j. omega arith;
        fresh = λ j past. refl;
        first = refl;
        same = refl;
      };
      right = λ r. r;
      sound = refl;
      same = refl;
    }

inside : (g : _) (c : After-total_next_geq g) → c.loop-i.i < length c.loop-i.lists
inside g c = omega (arith, c.loop-i-test.true, c.loop-i.auto.lists)

-- the list that is asked is right where all were, and stays so
was_right : (g : _) (c : After-total_next_geq g) → All g.C.TotalCursor.right c.args.lists.now → g.C.TotalCursor.right (get_or c.loop-i.lists c.loop-i.i c.index-lists-i.result)
was_right g c r = All-get_or g.C.TotalCursor.right c.loop-i.lists c.loop-i.i c.index-lists-i.result (inside g c) (c.loop-i.invariant.right r)

stays : (g : _) (c : After-total_next_geq g) → All g.C.TotalCursor.right c.args.lists.now → All g.C.TotalCursor.right (set c.loop-i.lists c.loop-i.i c.total_next_geq.new.self)
stays g c r = All-set g.C.TotalCursor.right c.loop-i.lists c.loop-i.i c.total_next_geq.new.self (c.total_next_geq.ensures.stays (was_right g c r)) (c.loop-i.invariant.right r)

-- the list that is asked keeps what no call changes
same_on : (g : _) (c : After-total_next_geq g) → map g.C.TotalCursor.kept (set c.loop-i.lists c.loop-i.i c.total_next_geq.new.self) ≡ map g.C.TotalCursor.kept c.args.lists.now
same_on g c = map-set_same g.C.TotalCursor.kept c.loop-i.lists c.loop-i.i c.total_next_geq.new.self c.index-lists-i.result c.total_next_geq.ensures.same ∙ c.loop-i.invariant.same

-- and counts no more answers of Wrong where it gave another
sound_on : (g : _) (c : After-total_next_geq g) → g.C.TotalCursor.wrong c.total_next_geq.new.self ≡ g.C.TotalCursor.wrong (get_or c.loop-i.lists c.loop-i.i c.index-lists-i.result)
    → map g.C.TotalCursor.wrong (set c.loop-i.lists c.loop-i.i c.total_next_geq.new.self) ≡ map g.C.TotalCursor.wrong c.args.lists.now
sound_on g c e = map-set_same g.C.TotalCursor.wrong c.loop-i.lists c.loop-i.i c.total_next_geq.new.self c.index-lists-i.result e ∙ c.loop-i.invariant.sound

pub returns-in-Absent-clause-asked : goal.returns-in-Absent-clause-asked
returns-in-Absent-clause-asked g c =
    let w = (goal.at.returns-in-Absent-clause-asked g c).After-total_next_geq in
    λ r. ask_ended g.C.TotalCursor.left g.C.TotalCursor.calls c.args.lists.now c.loop-i.lists c.args.v c.loop-i.i c.index-lists-i.result c.total_next_geq.new.self (omega (arith, c.loop-i.auto.i)) (inside g w) c.loop-i.auto.lists (c.loop-i.invariant.asking r) c.total_next_geq.ensures.counted (c.in-Absent.ensures.next (was_right g w r))

pub returns-in-Absent-clause-sound : goal.returns-in-Absent-clause-sound
returns-in-Absent-clause-sound g c = sound_on g (goal.at.returns-in-Absent-clause-sound g c).After-total_next_geq c.in-Absent.ensures.sound

pub returns-in-Absent-clause-same : goal.returns-in-Absent-clause-same
returns-in-Absent-clause-same g c = same_on g (goal.at.returns-in-Absent-clause-same g c).After-total_next_geq

pub returns-in-Absent-clause-right : goal.returns-in-Absent-clause-right
returns-in-Absent-clause-right g c =
    let w = (goal.at.returns-in-Absent-clause-right g c).After-total_next_geq in
    stays g w

pub returns-in-Wrong-clause-asked : goal.returns-in-Wrong-clause-asked
returns-in-Wrong-clause-asked g c =
    let w = (goal.at.returns-in-Wrong-clause-asked g c).After-total_next_geq in
    λ r. absurd (c.in-Wrong.ensures.next (was_right g w r))

pub returns-in-Wrong-clause-same : goal.returns-in-Wrong-clause-same
returns-in-Wrong-clause-same g c = same_on g (goal.at.returns-in-Wrong-clause-same g c).After-total_next_geq

pub returns-in-Wrong-clause-right : goal.returns-in-Wrong-clause-right
returns-in-Wrong-clause-right g c =
    let w = (goal.at.returns-in-Wrong-clause-right g c).After-total_next_geq in
    stays g w

pub returns-then-x-v-clause-asked : goal.returns-then-x-v-clause-asked
returns-then-x-v-clause-asked g c =
    let w = (goal.at.returns-then-x-v-clause-asked g c).After-total_next_geq in
    λ r. ask_passed g.C.TotalCursor.left g.C.TotalCursor.calls c.args.lists.now c.loop-i.lists c.args.v c.loop-i.i c.index-lists-i.result c.total_next_geq.new.self (omega (arith, c.loop-i.auto.i)) (inside g w) c.loop-i.auto.lists (c.loop-i.invariant.asking r) c.total_next_geq.ensures.counted c.in-Found.x c.if-x-v.true (c.in-Found.ensures.next (was_right g w r))

pub returns-then-x-v-clause-sound : goal.returns-then-x-v-clause-sound
returns-then-x-v-clause-sound g c = sound_on g (goal.at.returns-then-x-v-clause-sound g c).After-total_next_geq c.in-Found.ensures.sound

pub returns-then-x-v-clause-same : goal.returns-then-x-v-clause-same
returns-then-x-v-clause-same g c = same_on g (goal.at.returns-then-x-v-clause-same g c).After-total_next_geq

pub returns-then-x-v-clause-right : goal.returns-then-x-v-clause-right
returns-then-x-v-clause-right g c =
    let w = (goal.at.returns-then-x-v-clause-right g c).After-total_next_geq in
    stays g w

pub loop-i-preserved : goal.loop-i-preserved
loop-i-preserved g c =
    let w = (goal.at.loop-i-preserved g c).After-total_next_geq in
    record {
      asking = λ r. ask_agreed g.C.TotalCursor.left g.C.TotalCursor.calls c.args.lists.now c.loop-i.lists c.args.v c.loop-i.i c.index-lists-i.result c.total_next_geq.new.self (omega (arith, c.loop-i.auto.i)) (inside g w) c.loop-i.auto.lists (c.loop-i.invariant.asking r) c.total_next_geq.ensures.counted c.in-Found.x c.if-x-v.false (c.in-Found.ensures.next (was_right g w r));
      right = stays g w;
      sound = sound_on g w c.in-Found.ensures.sound;
      same = same_on g w;
    }

pub returns-clause-asked : goal.returns-clause-asked
returns-clause-asked g c = λ r.
    let i = c.loop-i.invariant.asking r in
    record {
      agreed = λ j from less. i.agreed j from (omega (arith, less, c.loop-i-test.false, c.loop-i.auto.lists, length-map c.args.lists.now g.C.TotalCursor.left));
      keeps = i.keeps;
      at_most = i.at_most;
      same = i.same;
      first = i.first;
    }

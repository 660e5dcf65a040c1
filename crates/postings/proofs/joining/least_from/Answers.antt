-- A list that was asked has its least number from v on at its cursor.
use Rattle.std.proofs.Common.{List, Option, sym, ◌≡◌, ◌≢◌, ℕ, ◌+◌, ◌<◌, All, Some, None, map, length, refl, subst, ◌∙◌, arith, get_or, set}
use Rattle.std.proofs.lemmas.List.{length-map}
use Rattle.std.proofs.Math.Seq.{map-set_same}
use Rattle.std.proofs.lemmas.List.Elements.{All-set, All-get_or}
use Rattle.postings.specs.Joined.{IsLeastFrom}
use Rattle.postings.proofs.LeastLemmas.{least_none, least_with, lesser_none}
use Rattle.postings.proofs.SharingLemmas.{keeps_all, keeps_through}
use Rattle.postings.proofs.StepLemmas.{step_next, step_keeps, step_calls_other, step_asked}
use Rattle.postings.proofs.joining.least_from.Goals as goal
use Rattle.postings.proofs.joining.least_from.Goals.{in-Found, in-Absent, After-total_next_geq}

pub loop-i-init : goal.loop-i-init
loop-i-init g c =
    record {
      within = omega arith;
      least = λ r. least_none (map g.C.TotalCursor.left c.args.lists.now) c.args.v;
      keeps = λ r. keeps_all (map g.C.TotalCursor.left c.args.lists.now) c.args.v;
      right = λ r. r;
      asked = λ j. omega arith;
      fresh = λ j past. refl;
      sound = refl;
      same = refl;
    }

inside : (g : _) (c : After-total_next_geq g) → c.loop-i.i < length c.loop-i.lists
inside g c = omega (arith, c.loop-i-test.true, c.loop-i.auto.lists)

-- the list that is asked is right where all were, and stays so
was_right : (g : _) (c : After-total_next_geq g) → All g.C.TotalCursor.right c.args.lists.now → g.C.TotalCursor.right (get_or c.loop-i.lists c.loop-i.i c.index-lists-i.result)
was_right g c r = All-get_or g.C.TotalCursor.right c.loop-i.lists c.loop-i.i c.index-lists-i.result (inside g c) (c.loop-i.invariant.right r)

stays : (g : _) (c : After-total_next_geq g) → All g.C.TotalCursor.right c.args.lists.now → All g.C.TotalCursor.right (set c.loop-i.lists c.loop-i.i c.total_next_geq.new.self)
stays g c r = All-set g.C.TotalCursor.right c.loop-i.lists c.loop-i.i c.total_next_geq.new.self (c.total_next_geq.ensures.stays (was_right g c r)) (c.loop-i.invariant.right r)

-- the list that is asked keeps what no call changes
same_on : (g : _) (c : After-total_next_geq g) → map g.C.TotalCursor.kept (set c.loop-i.lists c.loop-i.i c.total_next_geq.new.self) ≡ map g.C.TotalCursor.kept c.args.lists.now
same_on g c = map-set_same g.C.TotalCursor.kept c.loop-i.lists c.loop-i.i c.total_next_geq.new.self c.index-lists-i.result c.total_next_geq.ensures.same ∙ c.loop-i.invariant.same

-- and counts no more answers of Wrong where it gave another
sound_on : (g : _) (c : After-total_next_geq g) → g.C.TotalCursor.wrong c.total_next_geq.new.self ≡ g.C.TotalCursor.wrong (get_or c.loop-i.lists c.loop-i.i c.index-lists-i.result)
    → map g.C.TotalCursor.wrong (set c.loop-i.lists c.loop-i.i c.total_next_geq.new.self) ≡ map g.C.TotalCursor.wrong c.args.lists.now
sound_on g c e = map-set_same g.C.TotalCursor.wrong c.loop-i.lists c.loop-i.i c.total_next_geq.new.self c.index-lists-i.result e ∙ c.loop-i.invariant.sound

pub loop-i-preserved : goal.loop-i-preserved
loop-i-preserved g c =
    let w = (goal.at.loop-i-preserved g c).After-total_next_geq in
    let L = g.C.TotalCursor.left in
    let was = c.loop-i.invariant in
    let after : List g.row.C.Denot = set c.loop-i.lists c.loop-i.i c.total_next_geq.new.self in
    record {
      within = omega (arith, c.loop-i-test.true);
      least = λ r.
          let F : Option ℕ → Type 0 = IsLeastFrom (map L c.args.lists.now) (c.loop-i.i + 1) c.args.v in
          elim c.match-total_next_geq.branch [
            | in-Found b ↦ subst F (sym b.least-is)
                (least_with (map L c.args.lists.now) (map L c.loop-i.lists) c.loop-i.i c.args.v c.loop-i.least (Some b.in-Found.x) (Some b.lesser.result) (L c.total_next_geq.new.self) (was.keeps r) (was.least r)
                (step_next g.C.TotalCursor.left c.loop-i.lists c.loop-i.i c.index-lists-i.result c.total_next_geq.new.self (inside g w) c.args.v (Some b.in-Found.x) (b.in-Found.ensures.next (was_right g w r))) b.lesser.ensures)
            | in-Absent b ↦ subst F (sym b.least-is)
                (least_with (map L c.args.lists.now) (map L c.loop-i.lists) c.loop-i.i c.args.v c.loop-i.least None c.loop-i.least (L c.total_next_geq.new.self) (was.keeps r) (was.least r)
                (step_next g.C.TotalCursor.left c.loop-i.lists c.loop-i.i c.index-lists-i.result c.total_next_geq.new.self (inside g w) c.args.v None (b.in-Absent.ensures.next (was_right g w r))) (lesser_none c.loop-i.least))
          ];
      keeps = λ r. keeps_through (map L c.args.lists.now) (map L c.loop-i.lists) (map L after) c.args.v (was.keeps r)
          (elim c.match-total_next_geq.branch [
            | in-Found b ↦ step_keeps g.C.TotalCursor.left c.loop-i.lists c.loop-i.i c.index-lists-i.result c.total_next_geq.new.self (inside g w) c.args.v (Some b.in-Found.x) (b.in-Found.ensures.next (was_right g w r))
            | in-Absent b ↦ step_keeps g.C.TotalCursor.left c.loop-i.lists c.loop-i.i c.index-lists-i.result c.total_next_geq.new.self (inside g w) c.args.v None (b.in-Absent.ensures.next (was_right g w r))
          ]);
      right = stays g w;
      asked = step_asked g.C.TotalCursor.calls c.loop-i.lists c.loop-i.i c.index-lists-i.result c.total_next_geq.new.self (inside g w) c.total_next_geq.ensures.counted (map g.C.TotalCursor.calls c.args.lists.now) 1 was.asked (omega (arith, was.fresh c.loop-i.i (omega arith)));
      fresh = λ j past.
          let other : j ≢ c.loop-i.i = λ e. omega (arith, e, past) in
          step_calls_other g.C.TotalCursor.calls c.loop-i.lists c.loop-i.i c.index-lists-i.result c.total_next_geq.new.self (inside g w) c.total_next_geq.ensures.counted j other ∙ was.fresh j (omega (arith, past));
      sound = sound_on g w (elim c.match-total_next_geq.branch [
        | in-Found b ↦ b.in-Found.ensures.sound
        | in-Absent b ↦ b.in-Absent.ensures.sound
      ]);
      same = same_on g w;
    }

pub returns-in-Wrong-clause-least : goal.returns-in-Wrong-clause-least
returns-in-Wrong-clause-least g c =
    let w = (goal.at.returns-in-Wrong-clause-least g c).After-total_next_geq in
    λ r. absurd (c.in-Wrong.ensures.next (was_right g w r))

pub returns-in-Wrong-clause-keeps : goal.returns-in-Wrong-clause-keeps
returns-in-Wrong-clause-keeps g c =
    let w = (goal.at.returns-in-Wrong-clause-keeps g c).After-total_next_geq in
    λ r. absurd (c.in-Wrong.ensures.next (was_right g w r))

pub returns-in-Wrong-clause-asked : goal.returns-in-Wrong-clause-asked
returns-in-Wrong-clause-asked g c =
    let w = (goal.at.returns-in-Wrong-clause-asked g c).After-total_next_geq in
    step_asked g.C.TotalCursor.calls c.loop-i.lists c.loop-i.i c.index-lists-i.result c.total_next_geq.new.self (inside g w) c.total_next_geq.ensures.counted (map g.C.TotalCursor.calls c.args.lists.now) 1 c.loop-i.invariant.asked (omega (arith, c.loop-i.invariant.fresh c.loop-i.i (omega arith)))

pub returns-in-Wrong-clause-same : goal.returns-in-Wrong-clause-same
returns-in-Wrong-clause-same g c = same_on g (goal.at.returns-in-Wrong-clause-same g c).After-total_next_geq

pub returns-in-Wrong-clause-right : goal.returns-in-Wrong-clause-right
returns-in-Wrong-clause-right g c =
    let w = (goal.at.returns-in-Wrong-clause-right g c).After-total_next_geq in
    stays g w

pub returns-in-Some-clause-least : goal.returns-in-Some-clause-least
returns-in-Some-clause-least g c = λ r.
    let xss = map g.C.TotalCursor.left c.args.lists.now in
    let all : c.loop-i.i ≡ length xss = omega (arith, c.loop-i-test.false, c.loop-i.invariant.within, c.loop-i.auto.lists, length-map c.args.lists.now g.C.TotalCursor.left) in
    subst (λ (n : ℕ). IsLeastFrom xss n c.args.v (Some c.in-Some.x)) all (subst (λ o. IsLeastFrom xss c.loop-i.i c.args.v o) c.in-Some.is (c.loop-i.invariant.least r))

pub returns-in-None-clause-least : goal.returns-in-None-clause-least
returns-in-None-clause-least g c = λ r.
    let xss = map g.C.TotalCursor.left c.args.lists.now in
    let all : c.loop-i.i ≡ length xss = omega (arith, c.loop-i-test.false, c.loop-i.invariant.within, c.loop-i.auto.lists, length-map c.args.lists.now g.C.TotalCursor.left) in
    subst (λ (n : ℕ). IsLeastFrom xss n c.args.v None) all (subst (λ o. IsLeastFrom xss c.loop-i.i c.args.v o) c.in-None.is (c.loop-i.invariant.least r))

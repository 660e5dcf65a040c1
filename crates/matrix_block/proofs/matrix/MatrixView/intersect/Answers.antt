-- A turn passes the least number of the first range from the bound on, and writes it where the second range has it too.
use Rattle.std.proofs.Common.{◌≡◌, ℕ, ◌+◌, ◌-◌, ◌^◌, ◌<◌, ◌≤◌, [], ◌∷◌, ◌++◌, length, take, set, slice_range, All, Contains, sym, subst, arith}
use Rattle.std.proofs.Math.Nat.{pow-le-pow_right}
use Rattle.std.proofs.lemmas.List.{length-set, take_more_set}
use Rattle.std.proofs.lemmas.List.Elements.{All-drop, All-push, All-same, All-take, All-weaker}
use Rattle.matrix_levels.proofs.lemmas.CountLemmas.{length-range}
use Rattle.matrix_block.specs.Block.{items_in, HoldsMatrix}
use Rattle.matrix_block.proofs.SharedLemmas.{next-absent, next-found, shared-passed, shared-past-first, shared-past-second, shared-taken, shared-turned, turned-along, IsTurned}
use Rattle.matrix_block.proofs.TallyLemmas.{rising-more}
use Rattle.matrix_block.proofs.matrix.MatrixView.intersect.Goals.{then-one-other+else-one, else-one-other}
use Rattle.matrix_block.proofs.matrix.MatrixView.intersect.Goals as goal

pub returns-in-Absent-clause-answer : goal.returns-in-Absent-clause-answer
returns-in-Absent-clause-answer c = λ h.
    let i = c.loop.invariant in
    let items = items_in c.args.self.now in
    let order : c.args.first.start ≤ c.args.first.end = omega (arith, c.if-first.false) in
    let inside : c.args.first.end ≤ length items = omega (arith, c.if-first-len.false, c.len.ensures, h.numbers.count) in (
      order,
      inside,
      omega (arith, c.if-second.false),
      omega (arith, c.if-second-len.false, c.len-else-second.ensures, h.numbers.count),
      shared-past-first _ _ _ c.args.from c.loop.bound _ c.loop.written c.loop.numbers (i.right h)
          (omega (arith, i.numbers.narrow.written.room, i.numbers.narrow.written.len))
          (next-absent items c.args.first.start c.args.first.end c.loop.bound order inside (c.in-Absent.ensures.answer h)),
    )

pub returns-in-Absent-next_value-clause-answer : goal.returns-in-Absent-next_value-clause-answer
returns-in-Absent-next_value-clause-answer c = λ h.
    let i = c.loop.invariant in
    let items = items_in c.args.self.now in
    let order : c.args.second.start ≤ c.args.second.end = omega (arith, c.if-second.false) in
    let inside : c.args.second.end ≤ length items = omega (arith, c.if-second-len.false, c.len-else-second.ensures, h.numbers.count) in
    let one = next-found items c.args.first.start c.args.first.end c.loop.bound c.in-Found.number (c.in-Found.ensures.answer h) in (
      omega (arith, c.if-first.false),
      omega (arith, c.if-first-len.false, c.len.ensures, h.numbers.count),
      order,
      inside,
      shared-past-second _ _ _ c.args.from c.loop.bound _ c.loop.written c.loop.numbers (i.right h) c.in-Found.number
          (omega (arith, i.numbers.narrow.written.room, i.numbers.narrow.written.len)) one.next
          (next-absent items c.args.second.start c.args.second.end c.in-Found.number order inside (c.in-Absent-next_value.ensures.answer h)),
    )

pub returns-then-one-clause-inside : goal.returns-then-one-clause-inside
returns-then-one-clause-inside c =
    let i = c.loop.invariant in
    let x = c.in-Found.number in
    let within = c.in-Found.ensures.inside in (
      omega (arith, c.if-first.false),
      omega (arith, c.if-first-len.false, c.len.ensures),
      omega (arith, c.if-second.false),
      omega (arith, c.if-second-len.false, c.len-else-second.ensures),
      rising-more c.args.self.now.levels.width c.args.from c.loop.written x c.args.numbers.now c.loop.numbers i.numbers
          (omega (arith, c.if-written-numbers.false, i.numbers.narrow.written.len)) (omega (arith, i.from, within.2)) within.3
          (All-weaker (λ y. y < c.loop.bound) (λ y. y < x) (λ y l. omega (arith, l, within.2)) (take c.loop.written c.loop.numbers) i.below),
    )

pub returns-then-one-clause-answer : goal.returns-then-one-clause-answer
returns-then-one-clause-answer c = λ h.
    let i = c.loop.invariant in
    let items = items_in c.args.self.now in
    let w = c.args.self.now.levels.width in
    let x = c.in-Found.number in
    let s = c.args.first.start in
    let e = c.args.first.end in
    let one = next-found items s e c.loop.bound x (c.in-Found.ensures.answer h) in
    let other = next-found items c.args.second.start c.args.second.end x c.in-Found-next_value.number (c.in-Found-next_value.ensures.answer h) in
    let Small : ℕ → Type 0 = λ y. y < 2 ^ w in
    let wide : 2 ^ w ≤ 2 ^ 64 = pow-le-pow_right {n = 2} (omega arith) h.numbers.most in
    let small : All Small (slice_range items s e) = All-take Small (e - s) _ (All-drop Small s items h.numbers.fit) in
    let both = subst (λ (z : ℕ). Contains (slice_range items c.args.second.start c.args.second.end) z) (sym c.if-one-other.true) other.there in
    let room : c.loop.written < length c.loop.numbers = omega (arith, c.if-written-numbers.false) in
    let taken =
    shared-taken _ _ (2 ^ w) c.args.from c.loop.bound _ c.loop.written c.loop.numbers (i.right h) x one.there one.order one.next c.in-Found.ensures.inside.3 both room in (
      omega (arith, c.if-first.false),
      omega (arith, c.if-first-len.false, c.len.ensures, h.numbers.count),
      omega (arith, c.if-second.false),
      omega (arith, c.if-second-len.false, c.len-else-second.ensures, h.numbers.count),
      shared-past-first _ _ (2 ^ w) c.args.from (x + 1) _ (c.loop.written + 1) (set c.loop.numbers c.loop.written x) taken
          (omega (arith, room, length-set c.loop.numbers c.loop.written x))
          (All-weaker Small (λ y. y < x + 1) (λ y l. omega (arith, l, wide, c.if-one.true)) (slice_range items s e) small),
    )

pub loop-preserved : goal.loop-preserved
loop-preserved c =
    let i = c.loop.invariant in
    let items = items_in c.args.self.now in
    let holds : Type 0 = HoldsMatrix c.args.self.now in
    let w = c.args.self.now.levels.width in
    let from = c.args.from in
    let k = c.loop.written in
    let now = c.loop.numbers in
    let bound = c.loop.bound in
    let x = c.in-Found.number in
    let z = c.in-Found-next_value.number in
    let s = c.args.first.start in
    let t = c.args.second.start in
    let xs = slice_range items s c.args.first.end in
    let ys = slice_range items t c.args.second.end in
    let within = c.in-Found.ensures.inside in
    let beyond = c.in-Found-next_value.ensures.inside in
    let room : k < length now = omega (arith, c.if-written-numbers.false) in
    let step : c.loop.counter + 1 - s ≡ (c.loop.counter - s) + 1 = omega (arith, c.loop.auto.counter) in
    let less_x : All (λ y. y < x) (take k now) =
    All-weaker (λ y. y < bound) (λ y. y < x) (λ y l. omega (arith, l, within.2)) (take k now) i.below in
    let turned : IsTurned w from c.args.numbers.now holds xs ys (c.loop.counter + 1 - s) c.if-one-other.bound c.if-one-other.written c.if-one-other.numbers =
    elim c.if-one-other.branch [
      | then-one-other+else-one v ↦
          turned-along w from c.args.numbers.now holds xs ys _ _ (x + 1) _ (k + 1) _ (set now k x) _ step v.bound-is v.written-is v.numbers-is (record {
            from_on = omega (arith, i.from, within.2);
            rising =
                rising-more w from k x c.args.numbers.now now i.numbers (omega (arith, room, i.numbers.narrow.written.len))
                (omega (arith, i.from, within.2)) within.3 less_x;
            below =
                All-same (λ y. y < x + 1) (take (k + 1) (set now k x)) (take k now ++ x ∷ []) (take_more_set now k x room)
                (All-push (λ y. y < x + 1) (take k now) x (All-weaker (λ y. y < x) (λ y. y < x + 1) (λ y l. omega (arith, l)) (take k now) less_x)
                (omega arith));
            right = λ h.
                let one = next-found items s c.args.first.end bound x (c.in-Found.ensures.answer h) in
                let other = next-found items t c.args.second.end x z (c.in-Found-next_value.ensures.answer h) in
                shared-taken xs ys (2 ^ w) from bound _ k now (i.right h) x one.there one.order one.next within.3
                (subst (λ (y : ℕ). Contains ys y) (sym v.if-one-other.true) other.there) room;
          })
      | else-one-other v ↦
          turned-along w from c.args.numbers.now holds xs ys _ _ z _ k _ now _ step v.bound-is v.written-is v.numbers-is (record {
            from_on = omega (arith, i.from, within.2, beyond.2);
            rising = i.numbers;
            below = All-weaker (λ y. y < x) (λ y. y < z) (λ y l. omega (arith, l, beyond.2)) (take k now) less_x;
            right = λ h.
                let one = next-found items s c.args.first.end bound x (c.in-Found.ensures.answer h) in
                let other = next-found items t c.args.second.end x z (c.in-Found-next_value.ensures.answer h) in
                shared-passed xs ys (2 ^ w) from bound _ k now (i.right h) x one.there one.order one.next z
                (omega (arith, beyond.2, v.if-one-other.false)) other.next;
          })
    ] in
    record { from = turned.from_on; numbers = turned.rising; below = turned.below; right = turned.right }

pub returns-clause-answer : goal.returns-clause-answer
returns-clause-answer c = λ h.
    let i = c.loop.invariant in
    let items = items_in c.args.self.now in
    let s = c.args.first.start in
    let e = c.args.first.end in
    let order : s ≤ e = omega (arith, c.if-first.false) in
    let inside : e ≤ length items = omega (arith, c.if-first-len.false, c.len.ensures, h.numbers.count) in (
      order,
      inside,
      omega (arith, c.if-second.false),
      omega (arith, c.if-second-len.false, c.len-else-second.ensures, h.numbers.count),
      shared-turned _ _ _ c.args.from c.loop.bound (c.loop.counter - s) c.loop.written c.loop.numbers (i.right h)
          (omega (arith, i.numbers.narrow.written.room, i.numbers.narrow.written.len))
          (omega (arith, length-range items s e order inside, c.loop-test.false)),
    )

-- Each turn merges two blocks, and reads the next of a sequence whose block was passed.
use Rattle.std.proofs.Common.{◌≡◌, ◌+◌, ◌-◌, ◌^◌, ◌<◌, ◌≤◌, ◌⊎◌, inl, inr, ℕ, IsTrue, List, length, refl, sym, ◌∙◌, arith, ⊎_elim, true≢false}
use Rattle.elias_fano.specs.SequenceParts.{Holds}
use Rattle.postings.specs.Joined.{IsJoining}
use Rattle.postings.specs.Pair.{pair_from, IsBlockOf}
use Rattle.postings.proofs.JoiningLemmas.{joined_full, joining_none}
use Rattle.postings.proofs.PairLemmas.{head_of_block, pair_at, pair_ended, pair_greatest, pair_last, same_block, IsHeadAt}
use Rattle.postings.proofs.pair.total_union_of_two.Goals as goal
use Rattle.postings.proofs.pair.total_union_of_two.Goals.{After-merge-stand}

one_block : (c : After-merge-stand) (xs : List ℕ) → Holds xs c.args.one.now
    → IsBlockOf xs c.loop-out.first.from c.block_of-one_block.result.len c.block_of-one_block.result.numbers.now
one_block c xs h =
    same_block xs c.loop-out.first.numbers c.block_of-one_block.result.numbers.now c.loop-out.first.from c.loop-out.first.len c.block_of-one_block.result.len
    c.block_of-one_block.ensures.len c.block_of-one_block.ensures.numbers (c.loop-out.invariant.one_block xs h)

other_block : (c : After-merge-stand) (ys : List ℕ) → Holds ys c.args.other.now
    → IsBlockOf ys c.loop-out.second.from c.block_of-other_block.result.len c.block_of-other_block.result.numbers.now
other_block c ys k =
    same_block ys c.loop-out.second.numbers c.block_of-other_block.result.numbers.now c.loop-out.second.from c.loop-out.second.len c.block_of-other_block.result.len
    c.block_of-other_block.ensures.len c.block_of-other_block.ensures.numbers (c.loop-out.invariant.other_block ys k)

one_ends : (c : After-merge-stand) (xs : List ℕ) → Holds xs c.args.one.now → IsTrue c.block_of-one_block.result.ends
    → length xs ≡ c.loop-out.first.from + c.block_of-one_block.result.len
one_ends c xs h e = omega (arith, c.block_of-one_block.ensures.ends e, c.block_of-one_block.ensures.len, c.len-in-loop-out.ensures.len, h.are.count)

other_ends : (c : After-merge-stand) (ys : List ℕ) → Holds ys c.args.other.now → IsTrue c.block_of-other_block.result.ends
    → length ys ≡ c.loop-out.second.from + c.block_of-other_block.result.len
other_ends c ys k e = omega (arith, c.block_of-other_block.ensures.ends e, c.block_of-other_block.ensures.len, c.len-in-loop-out-2.ensures.len, k.are.count)

merged : (c : After-merge-stand) (xs ys : List ℕ) → Holds xs c.args.one.now → Holds ys c.args.other.now
    → IsJoining (pair_from xs c.args.one_at ys c.args.other_at) c.args.from c.merge-stand.result.count c.merge-stand.new.out
    (pair_from xs (c.loop-out.first.from + c.merge-stand.result.one) ys (c.loop-out.second.from + c.merge-stand.result.other)) c.merge-stand.result.low
merged c xs ys h k =
    c.merge-stand.ensures.joins (pair_from xs c.args.one_at ys c.args.other_at) xs ys c.loop-out.first.from c.loop-out.second.from c.args.from
    (one_block c xs h) (other_block c ys k) h.are.sequence.rising k.are.sequence.rising (one_ends c xs h) (other_ends c ys k)
    (c.loop-out.invariant.joins xs ys h k)

fits : (c : After-merge-stand) → c.merge-stand.result.count ≤ length c.args.out.now
fits c = omega (arith, c.merge-stand.ensures.count.1, c.loop-out.invariant.rest.0)

pub returns-then-stand-out-clause-joined : goal.returns-then-stand-out-clause-joined
returns-then-stand-out-clause-joined c = λ xs ys h k one other.
    let w = (goal.at.returns-then-stand-out-clause-joined c).After-merge-stand in
    joined_full (pair_from xs c.args.one_at ys c.args.other_at)
    (pair_from xs (c.loop-out.first.from + c.merge-stand.result.one) ys (c.loop-out.second.from + c.merge-stand.result.other)) c.args.from c.merge-stand.result.count
    c.merge-stand.result.low (length c.args.out.now) c.merge-stand.new.out (merged w xs ys h k) (fits w)
    (omega (arith, c.if-stand-out.true, c.merge-stand.auto.out, c.loop-out.invariant.rest.0))

pub loop-out-preserved-in-One : goal.loop-out-preserved-in-One
loop-out-preserved-in-One c =
    let w = (goal.at.loop-out-preserved-in-One c).After-merge-stand in
    let i = c.loop-out.invariant in
    let m = c.merge-stand.ensures in
    let r = c.read_on.ensures in
    let at = c.step_after.ensures.one c.in-One.is in
    record {
      one = omega arith;
      other = omega (arith, m.inside.1, c.block_of-other_block.ensures.len);
      one_room = (omega (arith, r.room.0, i.one_room.0), omega (arith, r.room.0, r.room.1, i.one_room.0));
      other_room = i.other_room;
      one_within = r.within;
      other_within = i.other_within;
      room = fits w;
      rest = (m.rest.0 ∙ i.rest.0, λ j past. m.rest.1 j past ∙ i.rest.1 j (omega (arith, past, m.count.0)));
      one_block = λ xs h. (r.block xs h (omega (arith, i.one_room.0))).1;
      other_block = i.other_block;
      joins = λ xs ys h k. pair_at (pair_from xs c.args.one_at ys c.args.other_at) xs ys (c.loop-out.first.from + c.merge-stand.result.one) (c.read_on.new.read.from + 0)
          (c.loop-out.second.from + c.merge-stand.result.other) (c.loop-out.second.from + c.merge-stand.result.other) c.args.from c.merge-stand.result.count
          c.merge-stand.result.low c.merge-stand.new.out (omega (arith, r.from, at.0, m.inside.0, c.block_of-one_block.ensures.len)) refl (merged w xs ys h k);
    }

pub loop-out-preserved : goal.loop-out-preserved
loop-out-preserved c =
    let w = (goal.at.loop-out-preserved c).After-merge-stand in
    let i = c.loop-out.invariant in
    let m = c.merge-stand.ensures in
    let r = c.read_on-in-Other.ensures in
    let at = c.step_after.ensures.other c.in-Other.is in
    record {
      one = omega (arith, m.inside.0, c.block_of-one_block.ensures.len);
      other = omega arith;
      one_room = i.one_room;
      other_room = (omega (arith, r.room.0, i.other_room.0), omega (arith, r.room.0, r.room.1, i.other_room.0));
      one_within = i.one_within;
      other_within = r.within;
      room = fits w;
      rest = (m.rest.0 ∙ i.rest.0, λ j past. m.rest.1 j past ∙ i.rest.1 j (omega (arith, past, m.count.0)));
      one_block = i.one_block;
      other_block = λ ys k. (r.block ys k (omega (arith, i.other_room.0))).1;
      joins = λ xs ys h k. pair_at (pair_from xs c.args.one_at ys c.args.other_at) xs ys (c.loop-out.first.from + c.merge-stand.result.one)
          (c.loop-out.first.from + c.merge-stand.result.one) (c.loop-out.second.from + c.merge-stand.result.other) (c.read_on-in-Other.new.read.from + 0) c.args.from
          c.merge-stand.result.count c.merge-stand.result.low c.merge-stand.new.out refl
          (omega (arith, r.from, at.0, m.inside.1, c.block_of-other_block.ensures.len)) (merged w xs ys h k);
    }

pub returns-in-Last-clause-joined : goal.returns-in-Last-clause-joined
returns-in-Last-clause-joined c = λ xs ys h k one other.
    let w = (goal.at.returns-in-Last-clause-joined c).After-merge-stand in
    let m = c.merge-stand.ensures in
    let last = c.step_after.ensures.last c.in-Last.is in
    let room : c.merge-stand.result.count < length c.loop-out.out = omega (arith, c.if-stand-out.false, c.merge-stand.auto.out) in
    let stops = m.stops room last.0 last.1 in
    let p = c.loop-out.first.from + c.merge-stand.result.one in
    let q = c.loop-out.second.from + c.merge-stand.result.other in
    let first : IsHeadAt xs p (2 ^ 64 - 1) = head_of_block xs c.block_of-one_block.result.numbers.now c.loop-out.first.from c.block_of-one_block.result.len
    c.merge-stand.result.one (2 ^ 64 - 1) (IsTrue c.block_of-one_block.result.ends) (one_block w xs h) (one_ends w xs h) last.0 (λ l. sym (stops.0 l)) (λ l. refl) in
    let second : IsHeadAt ys q (2 ^ 64 - 1) = head_of_block ys c.block_of-other_block.result.numbers.now c.loop-out.second.from c.block_of-other_block.result.len
    c.merge-stand.result.other (2 ^ 64 - 1) (IsTrue c.block_of-other_block.result.ends) (other_block w ys k) (other_ends w ys k) last.1 (λ l. sym (stops.1 l)) (λ l. refl) in
    let which : (p < length xs) ⊎ (q < length ys) = ⊎_elim
    (λ (l : c.merge-stand.result.one < c.block_of-one_block.result.len). inl (omega (arith, l, (one_block w xs h).within)))
    (λ (l : c.merge-stand.result.other < c.block_of-other_block.result.len). inr (omega (arith, l, (other_block w ys k).within)))
    last.2 in
    pair_last (pair_from xs c.args.one_at ys c.args.other_at) xs ys p q c.args.from c.merge-stand.result.count c.merge-stand.result.low (length c.args.out.now)
    c.merge-stand.new.out (merged w xs ys h k) (omega (arith, room, c.loop-out.invariant.rest.0)) c.if-stand-out.false
    (pair_greatest xs ys p q (2 ^ 64 - 1) (2 ^ 64 - 1) h.are.sequence.rising k.are.sequence.rising first second c.merge-stand.result.low refl refl which (omega arith))

pub returns-in-End-clause-joined : goal.returns-in-End-clause-joined
returns-in-End-clause-joined c = λ xs ys h k one other.
    let w = (goal.at.returns-in-End-clause-joined c).After-merge-stand in
    let end = c.step_after.ensures.end c.in-End.is in
    pair_ended (pair_from xs c.args.one_at ys c.args.other_at) xs ys (c.loop-out.first.from + c.merge-stand.result.one)
    (c.loop-out.second.from + c.merge-stand.result.other) c.args.from c.merge-stand.result.count c.merge-stand.result.low (length c.args.out.now)
    c.merge-stand.new.out (merged w xs ys h k) (fits w)
    (omega (arith, end.0, one_ends w xs h end.1)) (omega (arith, end.2, other_ends w ys k end.3))

pub loop-out-init : goal.loop-out-init
loop-out-init c = record {
  one = omega arith;
  other = omega arith;
  one_room = (refl, omega arith);
  other_room = (refl, omega arith);
  one_within = omega (arith, c.if-one_at-len.false, c.len.ensures.len);
  other_within = omega (arith, c.if-other_at-len.false, c.len-else-one_at-len.ensures.len);
  room = omega arith;
  rest = (refl, λ j past. refl);
  one_block = λ xs h. record { within = omega (arith, h.are.count, c.if-one_at-len.false, c.len.ensures.len); items = λ j l. absurd (omega (arith, l)) };
  other_block = λ ys k. record { within = omega (arith, k.are.count, c.if-other_at-len.false, c.len-else-one_at-len.ensures.len); items = λ j l. absurd (omega (arith, l)) };
  joins = λ xs ys h k. pair_at (pair_from xs c.args.one_at ys c.args.other_at) xs ys c.args.one_at (c.args.one_at + 0) c.args.other_at (c.args.other_at + 0) c.args.from 0
      c.args.from c.args.out.now (omega arith) (omega arith) (joining_none (pair_from xs c.args.one_at ys c.args.other_at) c.args.from c.args.out.now);
}

pub returns-then-not-read_on-clause-joined : goal.returns-then-not-read_on-clause-joined
returns-then-not-read_on-clause-joined c = λ xs ys h k one other.
    absurd (true≢false (sym (c.read_on.ensures.block xs h (omega (arith, c.loop-out.invariant.one_room.0))).0 ∙ c.if-not-read_on.true))

pub returns-then-not-read_on-2-clause-joined : goal.returns-then-not-read_on-2-clause-joined
returns-then-not-read_on-2-clause-joined c = λ xs ys h k one other.
    absurd (true≢false (sym (c.read_on-in-Other.ensures.block ys k (omega (arith, c.loop-out.invariant.other_room.0))).0 ∙ c.if-not-read_on-2.true))

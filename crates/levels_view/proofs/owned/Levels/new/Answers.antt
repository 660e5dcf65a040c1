-- One level more is in both tables.
use Rattle.std.proofs.Common.{◌≡◌, ℕ, ◌+◌, ◌-◌, ◌*◌, ◌≤◌, List, length, true, false, ap, ◌∙◌, arith}
use Rattle.std.proofs.lemmas.List.{length_push}
use Rattle.std.proofs.Math.Nat.{mul-le-mul_right}
use Rattle.bit_lists.specs.Count.{ones_before, zeros_before}
use Rattle.bit_lists.proofs.BitLaws.{counts_grow, ones_and_zeros}
use Rattle.matrix_levels.proofs.lemmas.MakeLemmas.{each-push}
use Rattle.levels_view.proofs.owned.Levels.new.Goals as goal
use Rattle.levels_view.proofs.owned.Levels.new.Goals.{After-rank_pair-before}

-- the zeros of the level are what its ones leave
counted : (g : _) (c : After-rank_pair-before g)
    → (c.rank_pair-before.result.0 ≤ c.rank_pair-before.result.1) × (c.rank_pair-before.result.1 - c.rank_pair-before.result.0 ≤ c.args.len)
    × (zeros_before (g.I.HasBits.bits c.args.index.now) (c.loop-depth.depth * c.args.len) + (c.args.len - (c.rank_pair-before.result.1 - c.rank_pair-before.result.0))
    ≡ zeros_before (g.I.HasBits.bits c.args.index.now) (c.loop-depth.depth * c.args.len + c.args.len))
counted g c =
    let b = g.I.HasBits.bits c.args.index.now in
    let start = c.loop-depth.depth * c.args.len in
    let inside : start + c.args.len ≤ length b =
    omega (arith, c.requires.room, mul-le-mul_right c.args.len (let e : c.loop-depth.depth + 1 ≤ c.args.width = omega (arith, c.loop-depth-test.true) in e)) in
    let before = ones_and_zeros b start (omega (arith, inside)) in
    let through = ones_and_zeros b (start + c.args.len) inside in
    let ones = counts_grow b true start (start + c.args.len) (omega arith) in
    let zeros = counts_grow b false start (start + c.args.len) (omega arith) in
    let from = c.rank_pair-before.ensures.from in
    let to = c.rank_pair-before.ensures.to in (
      omega (arith, from, to, ones),
      omega (arith, from, to, ones, zeros, before, through),
      omega (arith, from, to, ones, zeros, before, through),
    )

pub overflow_sub-through : goal.overflow_sub-through
overflow_sub-through g c = (counted g (goal.at.overflow_sub-through g c).After-rank_pair-before).0

pub overflow_sub-len : goal.overflow_sub-len
overflow_sub-len g c = (counted g (goal.at.overflow_sub-len g c).After-rank_pair-before).1

pub loop-depth-preserved : goal.loop-depth-preserved
loop-depth-preserved g c =
    let b = g.I.HasBits.bits c.args.index.now in
    let i = c.loop-depth.invariant in
    record {
      ones_len = ap (λ (l : List ℕ). length l) c.in_ok-push.ensures.items ∙ length_push c.loop-depth.ones.items _ ∙ ap (λ (n : ℕ). n + 1) i.ones_len;
      zeros_len = ap (λ (l : List ℕ). length l) c.in_ok-push-2.ensures.items ∙ length_push c.loop-depth.zeros.items _ ∙ ap (λ (n : ℕ). n + 1) i.zeros_len;
      ones = each-push (λ d x. x ≡ ones_before b (d * c.args.len)) c.loop-depth.ones.items _ _ c.loop-depth.depth c.in_ok-push.ensures.items i.ones_len i.ones
          c.rank_pair-before.ensures.from;
      zeros = each-push (λ d x. zeros_before b (d * c.args.len) + x ≡ zeros_before b (d * c.args.len + c.args.len)) c.loop-depth.zeros.items _ _
          c.loop-depth.depth c.in_ok-push-2.ensures.items i.zeros_len i.zeros (counted g (goal.at.loop-depth-preserved g c).After-rank_pair-before).2;
    }

-- The number of 0 bits before the 1 bits never falls.
use Rattle.std.proofs.Common.{◌+◌, ◌/◌, ◌-◌, sym, ◌∙◌, subst, arith}
use Rattle.sparse_bits.proofs.lemmas.HalfLemmas.{digit_less}
use Rattle.sparse_bits.proofs.lemmas.LookLemmas.{item_found, one_get, same_len, same_positions, same_searches}
use Rattle.sparse_bits.proofs.lemmas.PositionLemmas.{grow_to}
use Rattle.sparse_bits.proofs.counted.Ones.ones_within.Goals as goal

pub loop-left-preserved-then-saturating_sub-rank : goal.loop-left-preserved-then-saturating_sub-rank
loop-left-preserved-then-saturating_sub-rank g c =
    let m = c.loop-left.low + c.loop-left.left / 2 in
    let read = c.in-Found.ensures.counted in
    record {
      positions = same_positions _ _ read ∙ c.loop-left.invariant.positions;
      len = same_len _ _ read ∙ c.loop-left.invariant.len;
      to = omega (arith, c.loop-left.invariant.to, c.loop-left-test.true);
      few = λ xs h j l.
          let item = c.in-Found.ensures.answer xs (subst (λ p. g.P.Items.holds xs p) (sym c.loop-left.invariant.positions) h.holds) in
          omega (arith, grow_to xs j m h.positions.rising (omega (arith, l)) item.0, item.1, c.saturating_sub.ensures, c.if-saturating_sub-rank.true);
      more = λ xs h j from l. c.loop-left.invariant.more xs h j (omega (arith, from, c.loop-left-test.true)) l;
      searches = same_searches _ _ read ∙ c.loop-left.invariant.searches;
      gets = omega (
        arith,
        one_get _ _ read,
        c.loop-left.invariant.gets,
        digit_less c.loop-left.left (c.loop-left.left - (c.loop-left.left / 2 + 1)) (omega (arith, c.loop-left-test.true)) (omega (arith, c.loop-left-test.true)),
      );
    }

pub loop-left-preserved : goal.loop-left-preserved
loop-left-preserved g c =
    let m = c.loop-left.low + c.loop-left.left / 2 in
    let read = c.in-Found.ensures.counted in
    record {
      positions = same_positions _ _ read ∙ c.loop-left.invariant.positions;
      len = same_len _ _ read ∙ c.loop-left.invariant.len;
      to = omega (arith, c.loop-left.invariant.to);
      few = c.loop-left.invariant.few;
      more = λ xs h j from l.
          let item = c.in-Found.ensures.answer xs (subst (λ p. g.P.Items.holds xs p) (sym c.loop-left.invariant.positions) h.holds) in
          omega (arith, grow_to xs m j h.positions.rising from l, item.1, c.saturating_sub.ensures, c.if-saturating_sub-rank.false);
      searches = same_searches _ _ read ∙ c.loop-left.invariant.searches;
      gets = omega (
        arith,
        one_get _ _ read,
        c.loop-left.invariant.gets,
        digit_less c.loop-left.left (c.loop-left.left / 2) (omega (arith, c.loop-left-test.true)) (omega arith),
      );
    }

pub returns-in_default : goal.returns-in_default
returns-in_default g c =
    let read = c.get.ensures.counted in
    record {
      within = tt;
      parts = λ xs h.
          let held = subst (λ p. g.P.Items.holds xs p) (sym c.loop-left.invariant.positions) h.holds in
          item_found xs (c.loop-left.low + c.loop-left.left / 2) c.get.result
          (omega (arith, c.loop-left.invariant.to, c.loop-left-test.true, c.count-left.ensures.count, c.count-left.ensures.held xs h.holds))
          (c.get.ensures.answer xs held) c.in_default.not-Found;
      queries = record {
        positions = same_positions _ _ read ∙ c.loop-left.invariant.positions;
        len = same_len _ _ read ∙ c.loop-left.invariant.len;
        searches = omega (arith, same_searches _ _ read, c.loop-left.invariant.searches);
        gets = omega (
          arith,
          one_get _ _ read,
          c.loop-left.invariant.gets,
          digit_less c.loop-left.left 0 c.loop-left-test.true (omega arith),
        );
      };
    }

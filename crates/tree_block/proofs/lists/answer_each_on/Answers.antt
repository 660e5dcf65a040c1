-- One more answer, from the position that is reported of its node.
use Rattle.std.proofs.Common.{◌≡◌, ℕ, ◌+◌, ◌*◌, ◌<◌, length, slice_index, sym, ◌∙◌, subst, arith}
use Rattle.std.proofs.lemmas.List.{get_or-set_other}
use Rattle.bit_lists.specs.Bits.{digit_count}
use Rattle.bit_lists.specs.Count.{as_bit}
use Rattle.bit_words.proofs.lemmas.PositionLemmas.{placed_more}
use Rattle.bitm_select.specs.Answers.{IsSelectCode}
use Rattle.bitm_selection.specs.Selection.{by_halves}
use Rattle.bitm_tables.specs.Reads.{ReadsAtMost}
use Rattle.bitm_tables.specs.Tables.{Lists}
use Rattle.tree_block.specs.Codes.{in_lists, IsCodeOf}
use Rattle.tree_block.proofs.lists.answer_each_on.Goals as goal

pub loop-at-preserved : goal.loop-at-preserved
loop-at-preserved g c =
    let T = g.T.TableSource in
    let lists = T.lists c.args.source.now in
    let i = c.loop-at.invariant in
    let at = c.loop-at.at in
    let node = slice_index c.args.nodes.now at in
    let k = slice_index c.args.ks.now at in
    let code = slice_index c.loop-at.out at in
    let same : T.lists c.loop-at.source ≡ lists = i.reads.same in
    let inside : at < length c.args.nodes.now = omega (arith, c.loop-at-test.true, c.loop-at.auto.at-end) in
    let claimed : IsSelectCode (as_bit g.row.BIT) lists node code =
    subst (λ (n : ℕ). IsSelectCode (as_bit g.row.BIT) lists node n) (sym (i.behind at (omega arith))) (c.requires.claimed at inside) in
    let holds : g.Q.Asks.holds node k (in_lists c.args.len lists) c.answer_on.result =
    subst (λ (l : Lists). g.Q.Asks.holds node k (in_lists c.args.len l) c.answer_on.result) same
    (c.answer_on.ensures.holds (subst (λ (l : Lists). IsSelectCode (as_bit g.row.BIT) l node code) (sym same) claimed)) in
    let s = g.Q.Asks.selects in
    let w = g.Q.Asks.words in
    let digits = digit_count (length lists.upper) + 1 in
    let step =
    subst (λ (l : Lists). ReadsAtMost (T.reads c.loop-at.source) (T.reads c.answer_on.new.source) (s * (by_halves l).upper) (s * 23) (s * 8 + w)) same
    c.answer_on.ensures.reads.at_most in
    let before = i.reads.at_most in
    let uppers : s * (at + 1) * digits ≡ s * at * digits + s * digits = omega arith in
    let lowers : s * (at + 1) * 23 ≡ s * at * 23 + s * 23 = omega arith in
    let words : s * (at + 1) * 8 + w * (at + 1) ≡ s * at * 8 + w * at + s * 8 + w = omega arith in
    record {
      each =
          placed_more
          (λ j n. IsCodeOf (g.Q.Asks.holds (slice_index c.args.nodes.now j) (slice_index c.args.ks.now j) (in_lists c.args.len lists)) n)
          c.loop-at.out at c.list_code.result i.each (omega (arith, inside, c.loop-at.auto.out, c.requires.room))
          (record { answer = c.answer_on.result; holds = holds; code = c.list_code.ensures });
      behind = λ j past.
          get_or-set_other c.loop-at.out at j c.list_code.result 0 (λ e. omega (arith, e, past)) ∙ i.behind j (omega (arith, past));
      reads = record {
        at_most = record {
          upper = omega (arith, before.upper, step.upper, uppers);
          lower = omega (arith, before.lower, step.lower, lowers);
          words = omega (arith, before.words, step.words, words);
          upper_kept = omega (arith, before.upper_kept, step.upper_kept);
          lower_kept = omega (arith, before.lower_kept, step.lower_kept);
          words_kept = omega (arith, before.words_kept, step.words_kept);
        };
        same = c.answer_on.ensures.reads.same ∙ same;
      };
    }

-- Each answer is written at its position.
use Rattle.std.proofs.Common.{◌+◌, ◌*◌, ◌^◌, ◌<◌, ◌≤◌, length, slice_index, slice_index_or, ap, sym, ◌∙◌, subst, arith}
use Rattle.std.proofs.lemmas.List.{length-set}
use Rattle.bit_lists.specs.Count.{as_bit, ones_before}
use Rattle.bitm_select.specs.Answers.{IsSelectedFrom, IsSelectCode}
use Rattle.bitm_select.specs.Search.{sought_in, IsWord}
use Rattle.bitm_tables.specs.Tables.{Lists}
use Rattle.bitm_tables.specs.Answers.{IfAbsent}
use Rattle.bitm_select.proofs.lemmas.ManyLemmas.{claimed_record, written}
use Rattle.bitm_select.proofs.many.loaded.finish_each.Goals as goal

pub finish-selected-requires-clause-first : goal.finish-selected-requires-clause-first
finish-selected-requires-clause-first g c =
    (c.requires.loaded.each c.loop-k.k (record { rest = 0; first = 0; word = 0 }) c.loop-k-test.true).fits

pub finish-selected-requires-clause-word : goal.finish-selected-requires-clause-word
finish-selected-requires-clause-word g c h =
    let same = c.loop-k.invariant.same in
    let at = slice_index_or c.args.records.now c.loop-k.k (record { rest = 0; first = 0; word = 0 }) in
    subst (λ (l : Lists). IsWord (sought_in g.row.BIT l.words) at.first at.word) (sym same)
    ((c.requires.loaded.each c.loop-k.k (record { rest = 0; first = 0; word = 0 }) c.loop-k-test.true).word_is
    (omega (arith, h, ap (λ (l : Lists). length l.words) same)))

pub loop-k-preserved : goal.loop-k-preserved
loop-k-preserved g c =
    let i = c.loop-k.invariant in
    let e = c.finish-selected.ensures in
    let lists = g.T.TableSource.lists c.args.source.now in
    let ranks = c.args.ranks.now in
    let positions = c.loop-k.positions in
    let k = c.loop-k.k in
    let at = slice_index_or c.args.records.now k (record { rest = 0; first = 0; word = 0 }) in
    let inside : k < length positions = omega (arith, i.enough, c.loop-k-test.true) in
    let answer =
    subst
    (λ (l : Lists).
    IsSelectedFrom l.words (as_bit g.row.BIT) at.first (ones_before (sought_in g.row.BIT l.words) (64 * at.first) + at.rest)
    c.finish-selected.result)
    i.same e.answer in
    let last =
    subst (λ (l : Lists). IfAbsent c.finish-selected.result (length l.words ≤ at.first + 8)) i.same e.last in
    let fits : slice_index ranks k < 2 ^ 64 = omega (arith, c.type_inv.ranks k) in
    let new : IsSelectCode (as_bit g.row.BIT) lists (slice_index ranks k) c.list_code.result =
    rw c.list_code.ensures
    (claimed_record g.row.BIT lists (slice_index ranks k) at c.requires.sized
    (c.requires.loaded.each k (record { rest = 0; first = 0; word = 0 }) c.loop-k-test.true) c.finish-selected.result c.unless_wrapped.result
    fits c.unless_wrapped.ensures.kept c.unless_wrapped.ensures.wrapped last answer) in
    record {
      enough = omega (arith, i.enough, length-set positions k c.list_code.result);
      answered = written (λ j n. IsSelectCode (as_bit g.row.BIT) lists (slice_index ranks j) n) positions k c.list_code.result inside new i.answered;
      upper = omega (arith, i.upper, e.reads.upper);
      upper_kept = omega (arith, i.upper_kept, e.reads.upper_kept);
      lower = omega (arith, i.lower, e.reads.lower);
      lower_kept = omega (arith, i.lower_kept, e.reads.lower_kept);
      words = omega (arith, i.words, e.reads.words);
      words_kept = omega (arith, i.words_kept, e.reads.words_kept);
      same = e.same ∙ i.same;
    }

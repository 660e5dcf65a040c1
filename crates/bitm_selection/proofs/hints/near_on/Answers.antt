-- A bit that is found has the rank of the hint and of those that were passed.
use Rattle.std.proofs.Common.{◌+◌, ◌*◌, ◌/◌, ◌<◌, ◌≤◌, arith, subst, length, MatchOption}
use Rattle.bit_lists.proofs.lemmas.BitsLemmas.{length-bits_of}
use Rattle.bit_lists.specs.Count.{as_bit, ones_before, Picks}
use Rattle.bitm_select.specs.Search.{sought_in}
use Rattle.bitm_tables.specs.Tables.{bits_in, Lists}
use Rattle.bitm_selection.proofs.HintLemmas.{before_word, has_rank}
use Rattle.bitm_selection.proofs.hints.near_on.Goals as goal

pub returns-clause-answer : goal.returns-clause-answer
returns-clause-answer g c rank picks =
    let T = g.T.TableSource in
    let v = as_bit g.row.BIT in
    let at = c.args.from / 64 in
    let word = c.sought_word-word in
    let inside : at < length (T.lists c.args.source.now).words = omega (arith, c.if-first-len.false, c.words_len-len.ensures) in
    let before = before_word (T.lists c.args.source.now).words v rank c.args.from word.result inside word.ensures.word picks in
    let skipped = c.ones_under-skipped.result in
    has_rank (bits_in (T.lists c.args.source.now)) v _ (rank + c.args.rest) _ c.among.result
    (subst (λ (l : Lists). MatchOption c.among.result
    (ones_before (sought_in g.row.BIT l.words) (64 * (at + c.min.result)) ≤ ones_before (sought_in g.row.BIT l.words) (64 * at) + (skipped + c.args.rest))
    (Picks (bits_in l) v (ones_before (sought_in g.row.BIT l.words) (64 * at) + (skipped + c.args.rest))))
    word.ensures.same c.among.ensures.answer)
    (omega (arith, before, c.ones_under-skipped.ensures.count))

pub returns-clause-outside : goal.returns-clause-outside
returns-clause-outside g c past =
    absurd (omega (arith, past, c.if-first-len.false, c.words_len-len.ensures, length-bits_of (g.T.TableSource.lists c.args.source.now).words))

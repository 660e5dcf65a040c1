-- Where no word follows the eight, none is left.
use Rattle.std.proofs.Common.{◌+◌, ◌*◌, arith}
use Rattle.bit_lists.specs.Count.{ones_before, as_bit}
use Rattle.bitm_select.specs.Search.{sought_in}
use Rattle.bitm_select.proofs.lemmas.SelectedLemmas.{absent}
use Rattle.bitm_select.proofs.search.record.in_record.Goals as goal

pub returns-in-None-among-clause-answer : goal.returns-in-None-among-clause-answer
returns-in-None-among-clause-answer g c =
    let words = (g.T.TableSource.lists c.args.source.now).words in
    let R = ones_before (sought_in g.row.BIT words) (64 * c.args.first) + c.args.rank in
    absent words (as_bit g.row.BIT) c.args.first R c.saturating_sub.result (omega (arith, c.words_len-len.ensures, c.if-first-len.false))
    (omega (arith, c.words_len-len.ensures, c.saturating_sub.ensures)) c.in-None-among.ensures.answer

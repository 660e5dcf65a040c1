-- A bit that is found near its hint is the bit of the rank.
use Rattle.std.proofs.Common.{◌/◌, ◌%◌, arith}
use Rattle.bit_lists.specs.Count.{as_bit}
use Rattle.bitm_tables.specs.Tables.{bits_in}
use Rattle.bitm_selection.proofs.HintLemmas.{found_near}
use Rattle.bitm_selection.proofs.hints.hinted_select_on.Goals as goal

pub returns-in-Some-clause-answer : goal.returns-in-Some-clause-answer
returns-in-Some-clause-answer g c tables hints =
    let lists = g.T.TableSource.lists c.args.source.now in
    let near = c.near_on.ensures in
    found_near lists.words c.args.hints.now (as_bit g.row.BIT) (c.args.rank / 128) c.hint_at.result (c.args.rank % 128) c.args.rank c.in-Some.position
    c.near_on.result hints (omega (arith, c.if-at-hints.false)) (c.hint_at.ensures (as_bit g.row.BIT) (bits_in lists) hints.pairs) near.answer near.outside
    c.in-Some.is (omega arith)

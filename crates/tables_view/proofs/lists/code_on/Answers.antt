-- The code of a selection says what the selection answers.
use Rattle.std.proofs.Common.{ℕ, subst, sym}
use Rattle.bit_lists.specs.Count.{as_bit}
use Rattle.bitm_select.specs.Answers.{IsSelectCode}
use Rattle.bitm_select.proofs.lemmas.SelectedLemmas.{claimed_is}
use Rattle.tables_view.proofs.lists.code_on.Goals as goal

pub returns-clause-claimed : goal.returns-clause-claimed
returns-clause-claimed g c =
    let lists = g.T.TableSource.lists c.args.source.now in
    let answer = c.total_select_on.ensures in
    subst (λ (n : ℕ). IsSelectCode (as_bit g.row.BIT) lists c.args.rank n) (sym c.list_code.ensures)
    (claimed_is (as_bit g.row.BIT) lists c.args.rank c.requires.short c.total_select_on.result answer.bit answer.none answer.answer)

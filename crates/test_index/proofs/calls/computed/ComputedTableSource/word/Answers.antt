use Rattle.std.proofs.Common.{get_or, length, sym, ap, ◌∙◌, arith}
use Rattle.bitm.specs.Reads.{Probed}
use Rattle.test_index.proofs.ComputedLemmas.{word, words_len}
use Rattle.test_index.proofs.calls.computed.ComputedTableSource.word.Goals as goal

pub returns-clause-item : goal.returns-clause-item
returns-clause-item c =
    let n = c.self.inside.len in
    let len = ap (λ (p : Probed). length p.lists.words) c.self.view_is in
    sym (word n c.args._at (omega (arith, c.requires, len, words_len n))) ∙ ap (λ (p : Probed). get_or p.lists.words c.args._at 0) c.self.view_is

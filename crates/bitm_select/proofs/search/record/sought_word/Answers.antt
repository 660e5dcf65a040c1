-- A word of the negated bits is the negated word.
use Rattle.bitm_select.proofs.lemmas.MarkLemmas.{word_ones, word_zeros}
use Rattle.bitm_select.proofs.search.record.sought_word.Goals as goal

pub returns-then-this-eq0-clause-word : goal.returns-then-this-eq0-clause-word
returns-then-this-eq0-clause-word g c =
    word_zeros _ c.args.at c.word-word.result g.row.BIT c.requires c.word-word.type_inv c.word-word.ensures.item c.if-this-eq0.true

pub returns-else-this-eq0-clause-word : goal.returns-else-this-eq0-clause-word
returns-else-this-eq0-clause-word g c =
    word_ones _ c.args.at c.word-word.result g.row.BIT c.requires c.word-word.type_inv c.word-word.ensures.item c.if-this-eq0.false

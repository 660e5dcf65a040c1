-- The first word shares nothing, and each other what it has in common with the one before it.
use Rattle.std.proofs.Common.{sym, ap, ◌∙◌, arith}
use Rattle.tree_block.specs.Words.{shared_of, words_in}
use Rattle.tree_block.proofs.LevelLemmas.{shared_first}
use Rattle.tree_block.proofs.WordLemmas.{shared_is}
use Rattle.tree_block.proofs.words.words.shared_len.Goals as goal

pub returns-then-j-eq0-clause-shared : goal.returns-then-j-eq0-clause-shared
returns-then-j-eq0-clause-shared c =
    let ws = words_in c.args.bytes.now c.args.starts.now in
    sym (ap (shared_of ws) c.if-j-eq0.true ∙ shared_first ws)

pub returns-clause-shared : goal.returns-clause-shared
returns-clause-shared c =
    shared_is c.args.bytes.now c.args.starts.now c.args.j c.common_len.result c.word_at.result.now c.word_at-2.result.now (omega arith)
    c.word_at.ensures.word c.word_at-2.ensures.word c.common_len.ensures.shared

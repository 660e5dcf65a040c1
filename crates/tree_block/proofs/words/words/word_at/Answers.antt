-- The word is inside the bytes.
use Rattle.std.proofs.Common.{◌+◌, length, ap, arith}
use Rattle.tree_block.proofs.WordLemmas.{start_inside, word_len}
use Rattle.tree_block.proofs.words.words.word_at.Goals as goal

pub between-requires-clause-inside : goal.between-requires-clause-inside
between-requires-clause-inside c = start_inside c.args.bytes.now c.args.starts.now c.requires.words (c.args.j + 1) c.requires.inside

pub returns-clause-len : goal.returns-clause-len
returns-clause-len c = omega (arith, ap length c.between.ensures, word_len c.args.bytes.now c.args.starts.now c.requires.words c.args.j c.requires.inside)

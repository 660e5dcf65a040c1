-- At first no word is counted.
use Rattle.std.proofs.Common.{arith}
use Rattle.tree_block.specs.Words.{words_in}
use Rattle.tree_block.proofs.LevelLemmas.{added_none}
use Rattle.tree_block.proofs.words.levels.count_words.Goals as goal

pub loop-j-init : goal.loop-j-init
loop-j-init c = record {
  counts = c.requires.counts;
  total = omega (arith, c.requires.total, added_none (words_in c.args.bytes.now c.args.starts.now));
}

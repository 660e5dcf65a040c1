-- The tables are those of the words by what the source is seen as.
use Rattle.std.proofs.Common.{refl, arith}
use Rattle.test_index.proofs.ComputedLemmas.{words_len}
use Rattle.test_index.proofs.calls.computed.Computed.new.Goals as goal

pub returns-clause-indexed : goal.returns-clause-indexed
returns-clause-indexed c = record {
  tables = record { upper_is = refl; lower_is = refl };
  short = omega (arith, words_len c.args.len, c.requires.few);
}

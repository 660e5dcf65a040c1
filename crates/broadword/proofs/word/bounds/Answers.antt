-- The table is what the law computes.
use Rattle.std.proofs.Common.{arith, zero-add}
use Rattle.std.proofs.lemmas.List.FromFn.{get_or-map-range_with_len}
use Rattle.broadword.proofs.lemmas.SelectLemmas.{bound_word}
use Rattle.broadword.proofs.word.bounds.Goals as goal

pub returns : goal.returns
returns c = get_or-map-range_with_len bound_word 0 64 c.args.r c.args.r 0 (omega (arith, c.requires)) (zero-add c.args.r)

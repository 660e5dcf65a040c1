-- The logarithm of the share is that of its two powers.
use Rattle.std.proofs.Common.{arith}
use Rattle.bitm_strategies.proofs.lemmas.DensityLemmas.{bound_all, optimal_is, bound_is}
use Rattle.bitm_strategies.proofs.optimal.optimal_combined_sampling.Goals as goal

pub returns-then-n-len-clause-bound : goal.returns-then-n-len-clause-bound
returns-then-n-len-clause-bound c h = bound_all c.args.n c.args.len c.args.max_result h

pub returns-clause-value : goal.returns-clause-value
returns-clause-value c =
    let log = c.ilog2.ensures in
    optimal_is c.args.n c.args.len c.args.max_result c.min-rarer.result c.ilog2.result c.max.result
    c.if-n-len.false c.if-rarer-eq0.false c.min-rarer.ensures log.power_le log.next_power_gt (omega arith)

pub returns-clause-bound : goal.returns-clause-bound
returns-clause-bound c h =
    let log = c.ilog2.ensures in
    bound_is c.args.n c.args.len c.args.max_result c.min-rarer.result c.ilog2.result c.max.result
    c.if-n-len.false c.if-rarer-eq0.false c.min-rarer.ensures log.power_le log.next_power_gt (omega arith) h

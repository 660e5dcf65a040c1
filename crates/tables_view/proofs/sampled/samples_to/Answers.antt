-- The start of a part counts the samples before it, and behind the last part are all.
use Rattle.std.proofs.Common.{◌≡◌, ℕ, ◌<◌, List, get_or, length, ap, sym, ◌∙◌, arith}
use Rattle.bitm_strategies.specs.Density.{clamped_log}
use Rattle.bitm_strategies.specs.Samples.{parts, sample_count_before}
use Rattle.bitm_strategies.proofs.lemmas.SampleLemmas.{before_le, length-samples, length-starts, start_at}
use Rattle.tables_view.proofs.sampled.samples_to.Goals as goal

pub returns-in-Some-clause-own : goal.returns-in-Some-clause-own
returns-in-Some-clause-own c b v own inside =
    let d = clamped_log c.args.borrowed.now.log2 in
    let found = c.in-Some.ensures.lookup.3 in
    let here : c.args.part < parts b = omega (arith, found.0, ap length own.starts_are, length-starts b v d) in
    let start = found.1 0 ∙ ap (λ (xs : List ℕ). get_or xs c.args.part 0) own.starts_are ∙ start_at b v d c.args.part here in
    let all = ap length own.samples_are ∙ length-samples b v d (parts b) in
    omega (arith, c.min.ensures, start, all, before_le b v d c.args.part (parts b) inside)

pub returns-in-None-clause-own : goal.returns-in-None-clause-own
returns-in-None-clause-own c b v own inside =
    let d = clamped_log c.args.borrowed.now.log2 in
    let last : c.args.part ≡ parts b =
    omega (arith, c.in-None.ensures.lookup.3, inside, ap length own.starts_are, length-starts b v d) in
    ap length own.samples_are ∙ length-samples b v d (parts b) ∙ ap (sample_count_before b v d) (sym last)

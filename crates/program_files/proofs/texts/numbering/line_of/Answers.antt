use Rattle.std.proofs.Common.{ap, ◌+◌, of_calls, rules}
use Rattle.std.proofs.lemmas.Fn.{always_returns_same}
use Rattle.std.proofs.lemmas.List.Sorted.{IsPartitionedBy-ltb}
use Rattle.std.specs.Prelude.{nat_lt}
use Rattle.program_files.proofs.lemmas.LineLemmas.{count-point}
use Rattle.program_files.proofs.texts.numbering.line_of.Goals as goal

pub returns : goal.returns
returns c =
    let ends = c.args.ends.now in
    let key = always_returns_same _ _ _ (λ a r f k. search (rules, of_calls)) in
    let point = c.partition_point.ensures.partitioned (λ end. nat_lt end c.args.position) key
    (IsPartitionedBy-ltb (λ end. end) ends c.args.position c.requires) in
    ap (λ n. n + 1) (count-point (λ end. nat_lt end c.args.position) ends c.partition_point.result c.partition_point.ensures.bound point)

-- Each byte of the bounds loses the ones before it.
use Rattle.std.proofs.Common.{ℕ, ◌+◌, ◌-◌, ◌*◌, ◌%◌, ◌^◌, ap, get_or, ◌∙◌, arith}
use Rattle.broadword.proofs.lemmas.AtMostLemmas.{no_borrow, byte_left}
use Rattle.broadword.proofs.lemmas.LeBytesLemmas.{sums_at, bytes_are}
use Rattle.broadword.proofs.lemmas.LowBytes.{low_bytes}
use Rattle.broadword.proofs.lemmas.SelectLemmas.{before_small, sums_before, rank_left}
use Rattle.broadword.proofs.word.ranks_left.Goals as goal

pub overflow_sub-result : goal.overflow_sub-result
overflow_sub-result c =
    let sums = sums_at c.args.n c.byte_sums.result c.byte_sums.ensures in
    let less = no_borrow (c.byte_sums.result * 256 % 2 ^ 64) c.args.rank (omega arith) (before_small _ _ sums) c.requires in
    omega (arith, less, c.bounds.ensures)

pub returns : goal.returns
returns c =
    let sums = sums_at c.args.n c.byte_sums.result c.byte_sums.ensures in
    let before = c.byte_sums.result * 256 % 2 ^ 64 in
    bytes_are (rank_left c.args.n c.args.rank) _ (λ k inside.
    ap (λ (b : ℕ). get_or (low_bytes 8 (b - before)) k 0) c.bounds.ensures
    ∙ byte_left before c.args.rank (omega arith) (before_small _ _ sums) c.requires k inside
    ∙ ap (λ s. 128 + c.args.rank - s) (sums_before _ _ sums k inside))

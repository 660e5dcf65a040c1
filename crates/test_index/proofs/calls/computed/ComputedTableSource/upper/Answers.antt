use Rattle.std.proofs.Common.{◌≡◌, ◌*◌, ◌%◌, ◌^◌, get_or, length, sym, ap, ◌∙◌, arith}
use Rattle.bitm.specs.Reads.{Probed}
use Rattle.test_index.proofs.ComputedLemmas.{upper_at, uppers_len}
use Rattle.test_index.proofs.calls.computed.ComputedTableSource.upper.Goals as goal

pub returns-clause-item : goal.returns-clause-item
returns-clause-item c =
    let n = c.self.inside.len in
    let len = ap (λ (p : Probed). length p.lists.upper) c.self.view_is in
    let fits : c.args.at * 2 ^ 26 % 2 ^ 64 ≡ c.args.at * 2 ^ 26 = omega (arith, c.requires, len, uppers_len n, c.self.invariant.0) in
    fits ∙ sym (upper_at n c.args.at (omega (arith, c.requires, len))) ∙ ap (λ (p : Probed). get_or p.lists.upper c.args.at 0) c.self.view_is

-- The 0 bits of the level are what its 1 bits leave.
use Rattle.std.proofs.Common.{◌≡◌, ◌+◌, ◌-◌, ◌*◌, ◌≤◌, ap, true, false, ◌∙◌, arith}
use Rattle.bit_lists.specs.Count.{ones_before, zeros_before}
use Rattle.bitm_tables.specs.Tables.{bits_in, Lists}
use Rattle.bit_lists.proofs.BitLaws.{bits_are_counted, counts_grow, ones_and_zeros}
use Rattle.levels_view.proofs.checking.counts_of.Goals as goal
use Rattle.levels_view.proofs.checking.counts_of.Goals.{After-ones_to-through}

counted : (g : _) (c : After-ones_to-through g)
    → (c.ones_to-before.result ≤ c.ones_to-through.result) × (c.ones_to-through.result - c.ones_to-before.result ≤ c.args.len)
    × (zeros_before (bits_in (g.T.TableSource.lists c.args.source.now)) (c.args.depth * c.args.len)
    + (c.args.len - (c.ones_to-through.result - c.ones_to-before.result))
    ≡ zeros_before (bits_in (g.T.TableSource.lists c.args.source.now)) (c.args.depth * c.args.len + c.args.len))
counted g c =
    let b = bits_in (g.T.TableSource.lists c.args.source.now) in
    let start = c.args.depth * c.args.len in
    let inside = c.requires.inside in
    let before = ones_and_zeros b start (omega (arith, inside)) in
    let through = ones_and_zeros b (start + c.args.len) inside in
    let ones = counts_grow b true start (start + c.args.len) (omega arith) in
    let zeros = counts_grow b false start (start + c.args.len) (omega arith) in
    let from = c.ones_to-before.ensures.ones in
    let to : c.ones_to-through.result ≡ ones_before b (start + c.args.len) =
    c.ones_to-through.ensures.ones ∙ ap (λ (m : Lists). ones_before (bits_in m) (start + c.args.len)) c.ones_to-before.ensures.same in (
      omega (arith, from, to, ones),
      omega (arith, from, to, ones, zeros, before, through),
      omega (arith, from, to, ones, zeros, before, through),
    )

pub overflow_mul-start : goal.overflow_mul-start
overflow_mul-start g c =
    omega (arith, c.requires.inside, c.requires.indexed.short, bits_are_counted (g.T.TableSource.lists c.args.source.now).words)

pub overflow_add-start : goal.overflow_add-start
overflow_add-start g c =
    omega (arith, c.requires.inside, c.requires.indexed.short, bits_are_counted (g.T.TableSource.lists c.args.source.now).words)

pub overflow_sub-result : goal.overflow_sub-result
overflow_sub-result g c = (counted g (goal.at.overflow_sub-result g c).After-ones_to-through).0

pub overflow_sub-result-2 : goal.overflow_sub-result-2
overflow_sub-result-2 g c = (counted g (goal.at.overflow_sub-result-2 g c).After-ones_to-through).1

pub returns-clause-zeros : goal.returns-clause-zeros
returns-clause-zeros g c = (counted g (goal.at.returns-clause-zeros g c).After-ones_to-through).2

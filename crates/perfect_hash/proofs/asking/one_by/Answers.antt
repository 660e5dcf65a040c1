-- A level of right sizes lies within the words.
use Rattle.std.proofs.Common.{◌≡◌, ◌/◌, true, false, length, sym, ap, ◌∙◌, arith}
use Rattle.perfect_hash.proofs.lemmas.GetLemmas.{all_fit, level_fits, sizes_fill}
use Rattle.perfect_hash.proofs.asking.one_by.Goals as goal

false_true : false ≡ true → ⊥
false_true h = cc

pub fits-requires-clause-untested : goal.fits-requires-clause-untested
fits-requires-clause-untested g c untested =
    let b = g.Q.Query.bits c.args.query.now (g.T.TableSource.lists c.args.source.now) in
    let within = level_fits c.args.sizes.now (length b / 64) c.loop-level.level c.loop-level.begin
    (sizes_fill c.args.sizes.now b (c.requires.untested untested)) c.loop-level-test.true c.loop-level.invariant.goes_on.begins in
    let words = ap (λ lists. length (g.Q.Query.bits c.args.query.now lists) / 64) c.loop-level.invariant.same in
    (within.0, omega (arith, within.1, c.words_len.ensures, words))

pub returns-then-not-fits-clause-wrong : goal.returns-then-not-fits-clause-wrong
returns-then-not-fits-clause-wrong g c fit =
    let within = level_fits c.args.sizes.now (length (g.Q.Query.bits c.args.query.now (g.T.TableSource.lists c.args.source.now)) / 64)
    c.loop-level.level c.loop-level.begin fit c.loop-level-test.true c.loop-level.invariant.goes_on.begins in
    let words = ap (λ lists. length (g.Q.Query.bits c.args.query.now lists) / 64) c.loop-level.invariant.same in
    false_true (sym c.if-not-fits.true ∙ c.fits.ensures.1 (within.0, omega (arith, within.1, c.words_len.ensures, words)))

pub returns-then-not-fits-clause-position : goal.returns-then-not-fits-clause-position
returns-then-not-fits-clause-position g c sizes = absurd (returns-then-not-fits-clause-wrong g c (sizes_fill c.args.sizes.now _ sizes))

pub returns-then-not-fits-clause-looked : goal.returns-then-not-fits-clause-looked
returns-then-not-fits-clause-looked g c sizes = absurd (returns-then-not-fits-clause-wrong g c (sizes_fill c.args.sizes.now _ sizes))

pub returns-then-not-fits-clause-counted : goal.returns-then-not-fits-clause-counted
returns-then-not-fits-clause-counted g c sizes = absurd (returns-then-not-fits-clause-wrong g c (sizes_fill c.args.sizes.now _ sizes))

pub returns-clause-fit : goal.returns-clause-fit
returns-clause-fit g c =
    let h = c.loop-level.invariant in
    all_fit c.args.sizes.now (length (g.Q.Query.bits c.args.query.now (g.T.TableSource.lists c.args.source.now)) / 64) c.loop-level.level c.loop-level.begin
    h.some (omega (arith, c.loop-level-test.false)) h.goes_on.begins h.inside

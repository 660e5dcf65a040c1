-- without low digits the number is what stands above them
use Rattle.std.proofs.Common.{sym, ◌∙◌}
use Rattle.elias_fano.proofs.lemmas.ItemLemmas.{joined-none}
use Rattle.elias_fano.proofs.searching.join_digits.Goals as goal

pub returns-then-width-eq0-clause-number : goal.returns-then-width-eq0-clause-number
returns-then-width-eq0-clause-number c = λ _.
    let low = c.args.low.now in
    joined-none c.args.above c.args.at low.width low.words (sym c.width-width.ensures ∙ c.if-width-eq0.true)

-- What is left are the numbers from the position on.
use Rattle.std.proofs.Common.{◌∙◌, ap, arith}
use Rattle.elias_fano.proofs.lemmas.AheadLemmas.{IsAhead-nothing}
use Rattle.elias_fano.proofs.lemmas.CursorLemmas.{IsCursor-whole, items_left-all}
use Rattle.elias_fano.proofs.lemmas.ItemLemmas.{items_of-is, upper-short}
use Rattle.elias_fano.specs.Numbers.{items_left}
use Rattle.elias_fano.proofs.iterating.Numbers.new.Goals as goal

pub from_position-requires : goal.from_position-requires
from_position-requires c = (omega arith, upper-short _ _ _ _ _ c.requires.parts.1)

pub overflow_mul-result : goal.overflow_mul-result
overflow_mul-result c = omega (arith, upper-short _ _ _ _ _ c.requires.parts.1)

pub invariant_of-result : goal.invariant_of-result
invariant_of-result c =
    let a = c.args in
    let h = c.requires.parts.1 in (
      IsCursor-whole c.requires.parts.0 _ _ _ _ _ _ _ _ h c.requires.order (omega arith) c.requires.first c.from_position.ensures,
      record {
        fit = c.numbers_at_once.ensures.fit;
        some = c.numbers_at_once.ensures.some;
        ahead = λ _. IsAhead-nothing c.requires.parts.0 a.len a.width a.low.now a.upper.now a.start a.len _ _ h c.requires.order
            (omega arith) c.nothing.ensures.until c.nothing.ensures.digits;
      },
    )

pub returns : goal.returns
returns c = λ xs h.
    ap (λ ys. items_left ys c.args.start c.args.len) (items_of-is xs c.args.len c.args.width c.args.low.now c.args.upper.now h)
    ∙ items_left-all xs c.args.start c.args.len h.count

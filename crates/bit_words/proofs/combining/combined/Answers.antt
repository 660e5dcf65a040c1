-- Each operation, digit by digit.
use Rattle.std.proofs.Common.{ap, sym, ◌∙◌}
use Rattle.bit_lists.specs.Bits.{digit}
use Rattle.bit_words.proofs.lemmas.CombineLemmas.{digit-and, digit-or, digit-xor, digit-and_not, combined-else}
use Rattle.bit_words.specs.Combined.{combined}
use Rattle.bit_words.proofs.combining.combined.Goals as goal

pub returns-then-this-eq-AND : goal.returns-then-this-eq-AND
returns-then-this-eq-AND g c = λ j low.
    digit-and c.args.a c.args.b j ∙ ap (λ op. combined op (digit c.args.a j) (digit c.args.b j)) (sym c.if-this-eq-AND.true)

pub returns-then-this-eq-OR : goal.returns-then-this-eq-OR
returns-then-this-eq-OR g c = λ j low.
    digit-or c.args.a c.args.b j ∙ ap (λ op. combined op (digit c.args.a j) (digit c.args.b j)) (sym c.if-this-eq-OR.true)

pub returns-then-this-eq-XOR : goal.returns-then-this-eq-XOR
returns-then-this-eq-XOR g c = λ j low.
    digit-xor c.args.a c.args.b j ∙ ap (λ op. combined op (digit c.args.a j) (digit c.args.b j)) (sym c.if-this-eq-XOR.true)

pub returns-else-this-eq-XOR : goal.returns-else-this-eq-XOR
returns-else-this-eq-XOR g c = λ j low.
    digit-and_not c.args.a c.args.b j c.ranges.b.fits low
    ∙ sym (combined-else g.row.OP (digit c.args.a j) (digit c.args.b j) c.if-this-eq-AND.false c.if-this-eq-OR.false c.if-this-eq-XOR.false)

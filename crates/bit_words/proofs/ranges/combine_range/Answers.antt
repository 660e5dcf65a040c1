-- One word more in each turn, and all bits of the range at the end.
use Rattle.std.proofs.Common.{get_or, ap, ◌∙◌, arith}
use Rattle.bit_lists.specs.Bits.{digit}
use Rattle.bit_words.proofs.lemmas.RangeLemmas.{AreRanged-start, AreRanged-next, item_inside, item_beside}
use Rattle.bit_words.specs.Combined.{combined}
use Rattle.bit_words.proofs.ranges.combine_range.Goals as goal

pub loop-k-init : goal.loop-k-init
loop-k-init g c = AreRanged-start g.row.OP c.args.from c.args.to c.args.words.now c.requires.op

pub loop-k-preserved : goal.loop-k-preserved
loop-k-preserved g c =
    AreRanged-next g.row.OP c.args.from c.args.to c.args.words.now c.requires.op c.loop-k.words c.loop-k.k _ c.loop-k.invariant
    (omega (arith, c.loop-k-test.true, c.requires.inside))
    (λ j low. c.combined.ensures j low ∙ ap (combined g.row.OP (digit (get_or c.loop-k.words c.loop-k.k 0) j)) (c.mask_of.ensures j low))

pub returns-clause-inside : goal.returns-clause-inside
returns-clause-inside g c = λ i after before.
    item_inside g.row.OP c.args.from c.args.to c.args.words.now c.requires.op c.loop-k.words c.loop-k.k c.loop-k.invariant
    (omega (arith, c.loop-k-test.false)) i after before c.requires.inside

pub returns-clause-beside : goal.returns-clause-beside
returns-clause-beside g c = λ i out.
    item_beside g.row.OP c.args.from c.args.to c.args.words.now c.requires.op c.loop-k.words c.loop-k.k c.loop-k.invariant
    (omega (arith, c.loop-k-test.false)) i out

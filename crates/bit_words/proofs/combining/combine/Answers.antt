-- One word more in each turn, and all bits at the end.
use Rattle.std.proofs.Common.{refl, arith}
use Rattle.bit_words.proofs.lemmas.CombineLemmas.{AreCombined-next, items_combined}
use Rattle.bit_words.proofs.combining.combine.Goals as goal

pub loop-k-init : goal.loop-k-init
loop-k-init g c = record {
  len = refl;
  done = λ q j before low. absurd (omega (arith, before));
  rest = λ q from. refl;
}

pub loop-k-preserved : goal.loop-k-preserved
loop-k-preserved g c = AreCombined-next g.row.OP c.args.words.now c.args.other.now c.loop-k.words c.loop-k.k _ c.loop-k.invariant
    (omega (arith, c.loop-k-test.true)) c.combined.ensures

pub returns-clause-bits : goal.returns-clause-bits
returns-clause-bits g c = λ i within.
    items_combined g.row.OP c.args.words.now c.args.other.now c.loop-k.words c.loop-k.k i c.loop-k.invariant c.loop-k-test.false c.requires within

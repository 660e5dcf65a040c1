-- The fragments below i are written and the bits after them are still zeros.
use Rattle.std.proofs.Common.{inl}
use Rattle.bitm_bits.proofs.lemmas.RunLemmas.{IsRun, IsRun_none, IsRun_empty, IsRun_more, next_inside, next_zeros}
use Rattle.bitm_bits.proofs.making.init_fragments.Goals as goal

-- at width 0
empty : (c : goal.Then-s-eq0) → IsRun c.args.words.now c.args.word c.args.s c.args.n
empty c = IsRun_empty c.args.words.now _ c.args.word c.args.s c.args.n c.requires.clear c.if-s-eq0.true c.requires.fits

pub returns-then-s-eq0-clause-fragments : goal.returns-then-s-eq0-clause-fragments
returns-then-s-eq0-clause-fragments c = (empty c).fragments

pub returns-then-s-eq0-clause-after : goal.returns-then-s-eq0-clause-after
returns-then-s-eq0-clause-after c = (empty c).zeros

pub loop-i-init : goal.loop-i-init
loop-i-init c = IsRun_none _ _ _ _ c.requires.clear

pub init_fragment-requires-clause-clear : goal.init_fragment-requires-clause-clear
init_fragment-requires-clause-clear c =
    inl (next_zeros c.loop-i.words _ _ _ c.loop-i.invariant
    (next_inside _ _ c.args.n _ _ c.requires.clear c.loop-i.auto.words c.loop-i-test.true))

pub loop-i-preserved : goal.loop-i-preserved
loop-i-preserved c =
    IsRun_more c.loop-i.words _ _ _ _ c.loop-i.invariant c.init_fragment.ensures
    (next_inside _ _ c.args.n _ _ c.requires.clear c.loop-i.auto.words c.loop-i-test.true) c.requires.fits

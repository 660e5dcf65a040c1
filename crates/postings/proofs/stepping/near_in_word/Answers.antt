-- Each number up to the first that is at least the value is less.
use Rattle.std.proofs.Common.{ℕ, List, sym, subst, arith}
use Rattle.elias_fano.specs.Low.{Lows, ReadsFragments}
use Rattle.elias_fano.specs.Parts.{ArePartsOf}
use Rattle.postings.proofs.SpotLemmas.{less_to}
use Rattle.postings.proofs.stepping.near_in_word.Goals as goal

-- the low bits are the same after some were read
parts_stay : (xs : List ℕ) (n k : ℕ) (words : List ℕ) (old new : Lows) → ReadsFragments old new k → ArePartsOf xs n old.width old.words words
    → ArePartsOf xs n new.width new.words words
parts_stay xs n k words old new read parts =
    subst (λ (l : List ℕ). ArePartsOf xs n new.width l words) (sym read.words) (subst (λ (w : ℕ). ArePartsOf xs n w old.words words) (sym read.width) parts)

pub returns-in-Some-clause-near : goal.returns-in-Some-clause-near
returns-in-Some-clause-near c = λ xs parts here.
    let i = c.loop-step.invariant in
    let was = i.spot xs parts here in
    let e = c.in-Some.ensures in
    let is = e.next xs (parts_stay xs c.args.n c.loop-step.step c.args.words.now c.args.low.now c.loop-step.low i.fragments parts) was in (
      is,
      record {
        inside = is.inside;
        at_least = omega (arith, is.number, c.if-next-v.true);
        before = λ j l. less_to xs c.args.v c.loop-step.last.at j parts.sequence.rising was.inside (omega (arith, was.number, i.less)) (omega (arith, l, e.at.0));
      },
    )

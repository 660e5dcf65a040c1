-- The words that are gone through are those of the high bits.
use Rattle.std.proofs.Common.{◌*◌, ◌≤◌, List, ℕ, length, sym, subst, arith}
use Rattle.elias_fano.specs.SequenceParts.{SequenceParts}
use Rattle.elias_fano.specs.Low.{unread, HasFragments}
use Rattle.elias_fano.specs.Parts.{ArePartsOf}
use Rattle.elias_fano_view.proofs.RiseLemmas.{strictly-rise}
use Rattle.elias_fano_view.proofs.sequence.SequenceView.is_strictly_rising.Goals as goal

pub returns : goal.returns
returns c = λ xs h.
    let it = c.self.inside in
    let P : SequenceParts → Type 0 = λ p. ArePartsOf xs p.len p.width p.low p.upper.words in
    let W : List ℕ → Type 0 = λ words. ArePartsOf xs it.len it.width it.low.now words in
    let parts = subst W (sym c.words.ensures.words) (subst P (sym c.self.view_is) h.are) in
    let room : it.len * it.width ≤ 64 * length it.low.now = omega (arith, c.self.invariant.low) in
    let fragments : HasFragments (unread it.low.now it.width) it.len = record { width = c.self.invariant.width; short = c.self.invariant.short; inside = room } in
    strictly-rise xs it.len it.width it.low.now c.words.result.now parts fragments c.rise_among.result c.rise_among.ensures

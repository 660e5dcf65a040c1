-- What was found is what is reported.
use Rattle.std.proofs.Common.{rules, ◌≡◌, ◌↔◌, ℕ, false, IsTrue, List, subst}
use Rattle.std.specs.List.{Contains}
use Rattle.elias_fano.specs.SequenceParts.{SequenceParts, Holds}
use Rattle.elias_fano.specs.Claims.{ClaimsLess}
use Rattle.bitm_c.proofs.NumbersClaimedLemmas.{contained_of}
use Rattle.bitm_c.proofs.numbers.bitm_sequence_contains.Goals as goal

pub returns-in-Some-contains : goal.returns-in-Some-contains
returns-in-Some-contains c =
    contained_of c.args.sequence.now c.in-Some.ensures.0 c.args.value c.args.out.now _ c.in-Some-contains.is'
    (λ e. search rules) (λ e. search rules)
    (subst (λ (l : SequenceParts). (p : ℕ) × ClaimsLess l c.args.value p × (p ≡ l.len → c.in-Some-contains.is' ≡ false)) c.in-Some.ensures.1
    c.in-Some-contains.ensures.claimed)
    (subst (λ (l : SequenceParts). (xs : List ℕ) → Holds xs l → IsTrue c.in-Some-contains.is' ↔ Contains xs c.args.value) c.in-Some.ensures.1
    c.in-Some-contains.ensures.answer)

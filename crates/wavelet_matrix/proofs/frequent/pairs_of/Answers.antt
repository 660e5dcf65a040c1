-- One pair more.
use Rattle.std.proofs.Common.{◌≡◌, ℕ, ◌+◌, ◌<◌, ◌≤◌, List, [], ◌∷◌, ◌++◌, length, take, get_or, sym, ap, ◌∙◌, arith}
use Rattle.std.proofs.lemmas.List.{length-take-le, take_all, take_more}
use Rattle.std.specs.List.{zip}
use Rattle.matrix_levels.proofs.HeapLemmas.{zip-push}
use Rattle.wavelet_matrix.proofs.frequent.pairs_of.Goals as goal

more : (us vs : List ℕ) (i : ℕ) → length vs ≡ length us → i < length us
    → zip (take (i + 1) us) (take (i + 1) vs) ≡ zip (take i us) (take i vs) ++ (get_or us i 0, get_or vs i 0) ∷ []
more us vs i same inside =
    ap (λ l. zip l (take (i + 1) vs)) (take_more us i 0 inside)
    ∙ ap (λ l. zip (take i us ++ get_or us i 0 ∷ []) l) (take_more vs i 0 (omega (arith, inside, same)))
    ∙ zip-push (take i us) (take i vs) (get_or us i 0) (get_or vs i 0)
    (omega (arith, length-take-le i us (omega (arith, inside)), length-take-le i vs (omega (arith, inside, same))))

pub loop-i-preserved : goal.loop-i-preserved
loop-i-preserved c =
    c.in_ok-push.ensures.items ∙ ap (λ l. l ++ (get_or c.args.numbers.now c.loop-i.i 0, get_or c.args.counts.now c.loop-i.i 0) ∷ []) c.loop-i.invariant
    ∙ sym (more c.args.numbers.now c.args.counts.now c.loop-i.i c.requires c.loop-i-test.true)

pub returns : goal.returns
returns c =
    c.loop-i.invariant
    ∙ ap (λ l. zip l (take c.loop-i.i c.args.counts.now)) (take_all c.loop-i.i c.args.numbers.now (omega (arith, c.loop-i-test.false)))
    ∙ ap (λ l. zip c.args.numbers.now l) (take_all c.loop-i.i c.args.counts.now (omega (arith, c.loop-i-test.false, c.requires)))

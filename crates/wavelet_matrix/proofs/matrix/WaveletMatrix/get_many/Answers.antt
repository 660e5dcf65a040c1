-- In a matrix each index of a number is answered, so all are.
use Rattle.std.proofs.Common.{◌<◌, ◌≤◌, List, ℕ, length, slice_index, ap, ◌∙◌, ⊎_elim, arith}
use Rattle.std.proofs.lemmas.Bool.{cases_lt}
use Rattle.wavelet_matrix.proofs.matrix.WaveletMatrix.get_many.Goals as goal

pub returns : goal.returns
returns g c = λ k less.
    let m = c.parts-levels.ensures.matrix in
    let positions = c.args.positions.now in
    let found = c.total_get_list_on-found.result in
    let all : length positions ≤ found =
    ⊎_elim
    (λ (stopped : found < length positions).
    let inside = c.requires.inside found 0 stopped in
    ⊎_elim
    (λ absent. absurd (omega (arith, inside, absent.inside, c.parts-levels.ensures.len)))
    (λ wrong. absurd (wrong.right m))
    (c.total_get_list_on-found.ensures.last stopped))
    (λ reached. reached)
    (cases_lt found (length positions)) in
    let here = (c.total_get_list_on-found.ensures.numbers k (omega (arith, less, all))).right m in
    here.1 ∙ ap (λ (xs : List ℕ). slice_index xs (slice_index positions k)) c.parts-levels.ensures.items

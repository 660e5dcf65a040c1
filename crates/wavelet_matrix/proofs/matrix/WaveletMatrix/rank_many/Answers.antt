-- In a matrix each rank before an index that is not past the end is answered, so all are.
use Rattle.std.proofs.Common.{◌<◌, ◌≤◌, List, ℕ, length, slice_index, subst, ap, ◌∙◌, ⊎_elim, arith}
use Rattle.std.proofs.lemmas.Bool.{cases_lt}
use Rattle.matrix_levels.specs.Numbers.{occurrences_before}
use Rattle.wavelet_matrix.proofs.matrix.WaveletMatrix.rank_many.Goals as goal

pub returns : goal.returns
returns g c = λ k less.
    let m = c.parts-levels.ensures.matrix in
    let numbers = c.args.numbers.now in
    let positions = c.args.positions.now in
    let found = c.total_rank_list_on-found.result in
    let all : length numbers ≤ found =
    ⊎_elim
    (λ (stopped : found < length numbers).
    let inside = c.requires.inside found 0 (omega (arith, stopped, c.requires.numbers)) in
    ⊎_elim
    (λ absent. absurd (omega (arith, inside, absent.inside, c.parts-levels.ensures.len)))
    (λ wrong. absurd (wrong.right m))
    (c.total_rank_list_on-found.ensures.last stopped))
    (λ reached. reached)
    (cases_lt found (length numbers)) in
    let here = (c.total_rank_list_on-found.ensures.ranks k (omega (arith, less, all, c.requires.numbers))).right m in
    here.1 ∙ ap (λ (xs : List ℕ). occurrences_before xs (slice_index numbers k) (slice_index positions k)) c.parts-levels.ensures.items

-- One walk through the known levels, and two from there on.
use Rattle.std.proofs.Common.{◌≡◌, ℕ, Some, ap, sym, subst, ◌∙◌}
use Rattle.std.proofs.lemmas.Option.{none-some, same_Some}
use Rattle.bitm_tables.specs.Tables.{bits_in, Lists}
use Rattle.matrix_levels.specs.Levels.{level_position}
use Rattle.matrix_levels.specs.Matrix.{numbers_in, IsMatrix}
use Rattle.matrix_levels.proofs.lemmas.WalkLemmas.{level_position-first}
use Rattle.levels_view.proofs.levels.LevelsView.total_stretch_on.Goals as goal

pub returns-clause-stretch : goal.returns-clause-stretch
returns-clause-stretch g c = λ h.
    let T = g.T.TableSource in
    let l = c.args.self.now in
    let lists = T.lists c.args.source.now in
    let xs = numbers_in l lists in
    let x = c.args.number in
    let e = c.args.end in
    let from = same_Some _ _ (c.in_ok-start.ensures.start xs (bits_in lists) h.numbers)
    ∙ ap (λ k. level_position xs l.width x k 0) (sym c.known-known.ensures.known) in
    let to = same_Some _ _ (c.in_ok-last.ensures.position e h (level_position-first xs l.width x e)) in
    let P : Lists → Type 0 = λ m. (s t : ℕ) → IsMatrix l m → c.in_ok-start.start ≡ level_position (numbers_in l m) l.width x c.known-known.result s
    → c.in_ok-last.last ≡ level_position (numbers_in l m) l.width x c.known-known.result t
    → c.total_positions_on.result ≡ Some (level_position (numbers_in l m) l.width x c.width.result s, level_position (numbers_in l m) l.width x c.width.result t) in
    subst P c.in_ok-last.ensures.reads.same c.total_positions_on.ensures.positions 0 e h from to
    ∙ ap (λ k. Some (level_position xs l.width x k 0, level_position xs l.width x k e)) c.width.ensures.width

pub returns-in_err-last-clause-stretch : goal.returns-in_err-last-clause-stretch
returns-in_err-last-clause-stretch g c = λ h.
    let l = c.args.self.now in
    let e = c.args.end in
    absurd (none-some _ (c.in_err-last.ensures.position e h (level_position-first (numbers_in l (g.T.TableSource.lists c.args.source.now)) l.width c.args.number e)))

-- The item goes alone through the known levels, and with the first position of its number from there on.
use Rattle.std.proofs.Common.{◌≡◌, ◌+◌, ◌-◌, ◌/◌, ◌^◌, ◌<◌, ◌≤◌, length, ap, subst, sym, ◌∙◌, arith}
use Rattle.std.proofs.lemmas.Option.{none-some, same_Some}
use Rattle.std.specs.Prelude.{slice_index}
use Rattle.bitm_tables.specs.Tables.{Lists}
use Rattle.matrix_levels.specs.Levels.{level_position}
use Rattle.matrix_levels.specs.Matrix.{IsMatrix, numbers_in}
use Rattle.matrix_levels.specs.Numbers.{occurrences_before}
use Rattle.matrix_levels.proofs.lemmas.ManyLemmas.{IsAtLevel, level-first}
use Rattle.levels_view.proofs.PairLemmas.{few-before, rank-between}
use Rattle.levels_view.proofs.levels.LevelsView.total_item_on.Goals as goal
use Rattle.levels_view.proofs.levels.LevelsView.total_item_on.Goals.{After-difference, After-total_ways_on}

-- the item after the known levels
stands : (g : _) (c : After-total_ways_on g) → IsMatrix c.args.self.now (g.T.TableSource.lists c.args.source.now)
    → IsAtLevel (numbers_in c.args.self.now (g.T.TableSource.lists c.args.source.now)) c.args.self.now.width c.args.self.now.known c.args.i
    c.in_ok-number.position c.in_ok-number.number
stands g c h =
    let l = c.args.self.now in
    let m = h.numbers in
    let i = c.args.i in
    let xs = numbers_in l (g.T.TableSource.lists c.args.source.now) in
    let x = slice_index xs i in
    let begin = level-first xs l.width m.fit m.most i (omega (arith, c.requires.inside, m.count)) in
    let way = c.in_ok-number.ensures.answer i h c.requires.inside begin.position begin.digits in
    record {
      position = way.1 ∙ ap (λ k. level_position xs l.width x k i) c.known.ensures.known;
      digits = way.0 ∙ ap (λ k. x / 2 ^ (l.width - k)) c.known.ensures.known;
    }

-- as many of its number before it as between the two positions
between : (g : _) (c : After-difference g) → IsMatrix c.args.self.now (g.T.TableSource.lists c.args.source.now)
    → IsAtLevel (numbers_in c.args.self.now (g.T.TableSource.lists c.args.source.now)) c.args.self.now.width c.args.self.now.known c.args.i
    c.in_ok-number.position c.in_ok-number.number
    → (let xs = numbers_in c.args.self.now (g.T.TableSource.lists c.args.source.now) in let x = slice_index xs c.args.i in
    (c.in_ok-found.found ≡ x) × (c.in_ok-found.first + occurrences_before xs x c.args.i ≡ c.in_ok-found.at) × (occurrences_before xs x c.args.i ≤ c.args.i))
between g c h at =
    let l = c.args.self.now in
    let m = h.numbers in
    let i = c.args.i in
    let xs = numbers_in l (g.T.TableSource.lists c.args.source.now) in
    let x = slice_index xs i in
    let within : i < length xs = omega (arith, c.requires.inside, m.count) in
    let order : i ≤ length xs = omega (arith, within) in
    let P : Lists → Type 0 = λ s. let ys = numbers_in l s in IsMatrix l s
    → c.in_ok-number.position ≡ level_position ys l.width (slice_index ys i) l.known i → c.in_ok-number.number ≡ slice_index ys i / 2 ^ (l.width - l.known)
    → (c.in_ok-found.found ≡ slice_index ys i) × (c.in_ok-found.first ≡ level_position ys l.width (slice_index ys i) l.width 0)
    × (c.in_ok-found.at ≡ level_position ys l.width (slice_index ys i) l.width i) in
    let ways = subst P c.in_ok-number.ensures.reads.same (λ s. c.in_ok-found.ensures.answer i s c.requires.inside) h at.position at.digits in (
      ways.0,
      rank-between xs l.width x i c.in_ok-found.first c.in_ok-found.at m.fit (m.fit i 0 within) order ways.1 ways.2,
      few-before xs x i order,
    )

pub returns-clause-answer : goal.returns-clause-answer
returns-clause-answer g c = λ h.
    let xs = numbers_in c.args.self.now (g.T.TableSource.lists c.args.source.now) in
    let i = c.args.i in
    let both = between g (goal.at.returns-clause-answer g c).After-difference h (stands g (goal.at.returns-clause-answer g c).After-total_ways_on h) in (
      omega (arith, c.requires.inside, h.numbers.count),
      both.0,
      same_Some _ _ (c.in_ok-rank.ensures.answer (occurrences_before xs (slice_index xs i) i) both.1 both.2) ∙ ap (λ y. occurrences_before xs y i) (sym both.0),
    )

pub returns-in_err-number-clause-answer : goal.returns-in_err-number-clause-answer
returns-in_err-number-clause-answer g c = λ h.
    let l = c.args.self.now in
    let m = h.numbers in
    let begin = level-first (numbers_in l (g.T.TableSource.lists c.args.source.now)) l.width m.fit m.most c.args.i (omega (arith, c.requires.inside, m.count)) in
    absurd (c.in_err-number.ensures.answer c.args.i h c.requires.inside begin.position begin.digits)

pub returns-in_err-found-clause-answer : goal.returns-in_err-found-clause-answer
returns-in_err-found-clause-answer g c = λ h.
    let l = c.args.self.now in
    let i = c.args.i in
    let at = stands g (goal.at.returns-in_err-found-clause-answer g c).After-total_ways_on h in
    let P : Lists → Type 0 = λ s. let ys = numbers_in l s in IsMatrix l s
    → c.in_ok-number.position ≡ level_position ys l.width (slice_index ys i) l.known i → c.in_ok-number.number ≡ slice_index ys i / 2 ^ (l.width - l.known) → ⊥ in
    absurd (subst P c.in_ok-number.ensures.reads.same (λ s. c.in_err-found.ensures.answer i s c.requires.inside) h at.position at.digits)

pub returns-in_err-rank-clause-answer : goal.returns-in_err-rank-clause-answer
returns-in_err-rank-clause-answer g c = λ h.
    let xs = numbers_in c.args.self.now (g.T.TableSource.lists c.args.source.now) in
    let i = c.args.i in
    let both = between g (goal.at.returns-in_err-rank-clause-answer g c).After-difference h (stands g (goal.at.returns-in_err-rank-clause-answer g c).After-total_ways_on h) in
    absurd (none-some _ (c.in_err-rank.ensures.answer (occurrences_before xs (slice_index xs i) i) both.1 both.2))

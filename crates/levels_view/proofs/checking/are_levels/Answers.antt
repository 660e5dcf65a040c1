-- Counts, quarters and starts are those of the words exactly where these hold a matrix.
use Rattle.std.proofs.Common.{subst, sym, ◌∙◌, rules}
use Rattle.bitm_tables.specs.Tables.{bits_in, Lists}
use Rattle.levels_view.specs.Check.{AreCounts, HasQuarters, HasStarts}
use Rattle.levels_view.proofs.CheckLemmas.{counted, matrix-of}
use Rattle.levels_view.proofs.checking.are_levels.Goals as goal

pub returns-then-not-are_counts : goal.returns-then-not-are_counts
returns-then-not-are_counts g c =
    let l = c.args.levels.now in
    let lists = g.T.TableSource.lists c.args.source.now in (
      search rules,
      λ h. c.if-not-are_counts.ensures.answer.1 (counted l lists c.len-len.ensures.levels c.requires.room h),
    )

pub returns-then-not-has_quarters : goal.returns-then-not-has_quarters
returns-then-not-has_quarters g c =
    let l = c.args.levels.now in (
      search rules,
      λ h. c.if-not-has_quarters.ensures.answer.1
          (subst (λ (s : Lists). HasQuarters l (bits_in s)) (sym c.are_counts.ensures.same) h.numbers.quarters_are),
    )

pub returns : goal.returns
returns g c =
    let l = c.args.levels.now in
    let lists = g.T.TableSource.lists c.args.source.now in
    let same = c.are_counts.ensures.same in
    let both = c.has_quarters.ensures.same ∙ same in
    let counts : AreCounts l (bits_in lists) = c.are_counts.ensures.answer.0 c.if-not-are_counts.false in
    let quarters : HasQuarters l (bits_in lists) =
    subst (λ (s : Lists). HasQuarters l (bits_in s)) same (c.has_quarters.ensures.answer.0 c.if-not-has_quarters.false) in
    let P : Lists → Type 0 = λ s. HasStarts l (bits_in s) in (
      λ t. matrix-of l lists c.len-len.ensures.levels c.requires.room c.requires.indexed counts quarters (subst P both (c.has_starts.ensures.0 t)),
      λ h. c.has_starts.ensures.1 (subst P (sym both) h.numbers.starts_are),
    )

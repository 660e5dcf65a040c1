-- The table of starts is that of the matrix.
use Rattle.std.proofs.Common.{ℕ, ◌^◌, ◌<◌, subst, sym, ◌∙◌}
use Rattle.std.proofs.lemmas.Bool.{true≢false}
use Rattle.std.proofs.lemmas.Option.{none-some, same_Some}
use Rattle.bitm_tables.specs.Tables.{bits_in}
use Rattle.matrix_levels.specs.Matrix.{numbers_in}
use Rattle.levels_view.proofs.levels.LevelsView.known_position.Goals as goal

-- a number with more bits has no position
pub returns-then-not-fits : goal.returns-then-not-fits
returns-then-not-fits c = λ lists narrow.
    let P : ℕ → Type 0 = λ k. c.args.number < 2 ^ k in
    absurd (true≢false (sym (c.fits.ensures.1 (subst P (sym c.width.ensures.width) narrow)) ∙ c.if-not-fits.true))

pub returns-in-Some : goal.returns-in-Some
returns-in-Some c = λ lists narrow. record {
  inside = λ _. c.in-Some.ensures.inside;
  position = λ h. same_Some _ _ (c.in-Some.ensures.start (numbers_in c.args.self.now lists) (bits_in lists) h.numbers);
}

pub returns-in-None : goal.returns-in-None
returns-in-None c = λ lists narrow. record {
  inside = λ h. absurd (none-some _ (c.in-None.ensures.start (numbers_in c.args.self.now lists) (bits_in lists) h.numbers));
  position = λ h. absurd (none-some _ (c.in-None.ensures.start (numbers_in c.args.self.now lists) (bits_in lists) h.numbers));
}

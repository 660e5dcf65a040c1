use Rattle.std.proofs.Common.{◌∙◌, ◌<◌, ◌∷◌, List, ℕ, Option, Bor, ap, length, sym, rules}
use Rattle.std.specs.Str.Lines.{lines}
use Rattle.program_base.specs.Text.{split_left}
use Rattle.program_base.proofs.lemmas.LineLemmas.{line-last, line-more}
use Rattle.program_base.proofs.text.lines.first_line.Goals as goal

pub returns-in-Some-clause-line : goal.returns-in-Some-clause-line
returns-in-Some-clause-line c =
    let part = c.first_part.result.0.now in
    let rest = c.in-Some.rest.now in
    line-more c.args.text.now part rest
    (c.first_part.ensures.parts ∙ ap (λ (r : Option (Bor (List ℕ))). part ∷ split_left 10 r) c.in-Some.is)
    ∙ ap (λ l. l ∷ lines rest) (sym c.without_return.ensures)

pub returns-in-None-clause-line : goal.returns-in-None-clause-line
returns-in-None-clause-line c =
    let part = c.first_part.result.0.now in
    let some : 0 < length c.args.text.now = search rules in
    line-last c.args.text.now part some
    (c.first_part.ensures.parts ∙ ap (λ (r : Option (Bor (List ℕ))). part ∷ split_left 10 r) c.in-None.is)

-- The known bits of a number are an index of the table.
use Rattle.std.proofs.Common.{◌≡◌, ◌-◌, ◌/◌, ◌^◌, sym, ap, ◌∙◌, arith}
use Rattle.matrix_levels.proofs.lemmas.StartLemmas.{begin-inside}
use Rattle.levels_view.proofs.levels.LevelsView.start_of.Goals as goal
use Rattle.levels_view.proofs.levels.LevelsView.start_of.Goals.{After-without_lowest}

begin : (c : After-without_lowest) → c.without_lowest.result ≡ c.args.number / 2 ^ (c.args.self.now.width - c.args.self.now.known)
begin c =
    c.without_lowest.ensures
    ∙ ap (λ k. c.args.number / 2 ^ (k - c.known.result)) c.width.ensures.width
    ∙ ap (λ k. c.args.number / 2 ^ (c.args.self.now.width - k)) c.known.ensures.known

pub start_at-requires : goal.start_at-requires
start_at-requires c =
    let l = c.args.self.now in
    record {
      begin = omega (
        arith,
        begin (goal.at.start_at-requires c).After-without_lowest,
        begin-inside c.args.number l.width l.known (omega (arith, c.known.ensures.known, c.known.ensures.most)) c.requires.fit,
      );
    }

pub returns-clause-start : goal.returns-clause-start
returns-clause-start c = λ xs b h.
    c.start_at.ensures.start xs b c.args.number h c.requires.fit (sym (begin (goal.at.returns-clause-start c).After-without_lowest))

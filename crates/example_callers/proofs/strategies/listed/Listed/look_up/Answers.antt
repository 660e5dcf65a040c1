-- The list has the item of the positions at the rank.
use Rattle.std.proofs.Common.{◌≡◌, ℕ, List, arith, subst, ◌∙◌}
use Rattle.std.proofs.lemmas.Grind.{common_steps}
use Rattle.std.proofs.lemmas.Option.{gets}
use Rattle.std.specs.List.{slice_get}
use Rattle.std.specs.Option.{option_map}
use Rattle.example_callers.proofs.lemmas.ListLemmas.{IsSelect-item}
use Rattle.example_callers.proofs.strategies.listed.Listed.look_up.Goals as goal

pub returns : goal.returns
returns c b v is =
    let IsItemOf : List ℕ → Type 0 = λ l. option_map (λ (x : ℕ). x) c.copied.result ≡ slice_get l c.args.rank in
    let found : IsItemOf c.self.inside.positions.items = grind (arith, common_steps, gets) in
    IsSelect-item b v c.args.rank c.copied.result (subst IsItemOf (c.self.view_is ∙ is) found)

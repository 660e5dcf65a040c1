-- The hints of either kind stand in their part.
use Rattle.std.proofs.Common.{◌≡◌, ◌+◌, false, length, min, subst, arith}
use Rattle.bitm_tables.specs.Tables.{Lists}
use Rattle.bitm_selection.specs.Hints.{hint_words, AreHints}
use Rattle.bitm_selection.proofs.HintLemmas.{lead_joined}
use Rattle.bitm_selection.proofs.hints.write_hints_within.Goals as goal

pub returns-clause-lead : goal.returns-clause-lead
returns-clause-lead g c =
    let T = g.T.TableSource in
    let split = c.split_at_mut-of_ones.ensures in
    let of_ones = c.fill_hints in
    let of_zeros = c.fill_hints-2 in
    let room : length of_ones.new.hints ≡ min (hint_words c.args.ones) (length of_ones.new.hints + length of_zeros.new.hints) =
    omega (arith, of_ones.ensures.len, of_zeros.ensures.len, split.front_len, split.back_len, c.min-at.ensures, c.hint_words.ensures) in
    lead_joined c.args.ones of_ones.new.hints of_zeros.new.hints (T.lists c.args.source.now).words room of_ones.ensures.hints
    (subst (λ (l : Lists). AreHints false l.words of_zeros.new.hints) of_ones.ensures.same of_zeros.ensures.hints)

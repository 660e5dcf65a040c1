-- What is found is the number.
use Rattle.std.proofs.Common.{◌≤◌, ◌^◌, ◌-◌, length, ◌∙◌, arith}
use Rattle.bit_lists.proofs.lemmas.CountLemmas.{ones_before-add-zeros_before}
use Rattle.bit_lists.specs.Count.{ones_of}
use Rattle.bitm_tables.specs.Tables.{bits_in}
use Rattle.perfect_hash.proofs.lemmas.GetLemmas.{numbered_found}
use Rattle.perfect_hash.proofs.asking.number_by_on.Goals as goal

pub returns-clause-value : goal.returns-clause-value
returns-clause-value g c =
    let b = bits_in (g.T.TableSource.lists c.args.source.now) in
    let few : ones_of b ≤ 2 ^ 64 - 1 = omega (arith, ones_before-add-zeros_before b (length b) (omega arith), c.requires.sizes.short) in
    c.found.ensures ∙ numbered_found _ _ (c.total_number_by_on.ensures.number c.requires.indexed.tables c.requires.sizes few)

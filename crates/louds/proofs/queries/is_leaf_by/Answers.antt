-- The bit after the zero before a node's ones is a zero where it has none.
use Rattle.std.proofs.Common.{◌+◌, not, ap, ◌∙◌}
use Rattle.std.proofs.lemmas.Option.{same_Some}
use Rattle.bit_lists.specs.Bits.{item}
use Rattle.bitm_tables.specs.Tables.{bits_in}
use Rattle.louds.proofs.lemmas.HeldLemmas.{bit_after_zero}
use Rattle.louds.proofs.queries.is_leaf_by.Goals as goal

pub returns-in-Some-bit_on-clause-answer : goal.returns-in-Some-bit_on-clause-answer
returns-in-Some-bit_on-clause-answer g c = λ h f.
    ap not c.in-Some-bit_on.ensures.answer.1
    ∙ ap (λ lists. not (item (bits_in lists) (c.in-Some.start + 1))) c.zero_by.ensures.reads.same
    ∙ ap (λ z. not (item (bits_in (g.T.TableSource.lists c.args.source.now)) (z + 1))) (same_Some _ _ (c.in-Some.ensures.position h f))
    ∙ bit_after_zero _ _ _ h.held c.args.node c.if-node-len.false

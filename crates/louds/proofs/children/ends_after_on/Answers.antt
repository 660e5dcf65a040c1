-- The bit after the zero before a node's ones is a zero where it has none.
use Rattle.std.proofs.Common.{◌+◌, not, ap, ◌∙◌, arith}
use Rattle.bit_lists.specs.Bits.{item}
use Rattle.bitm_tables.specs.Tables.{bits_in}
use Rattle.louds.proofs.lemmas.HeldLemmas.{after_zero_inside, bit_after_zero}
use Rattle.louds.proofs.children.ends_after_on.Goals as goal

pub unreachable-requires : goal.unreachable-requires
unreachable-requires g c =
    omega (
      arith,
      c.in-None.ensures.answer,
      c.requires.start,
      after_zero_inside _ _ _ c.requires.tree.held c.args.node c.requires.node,
    )

pub returns-clause-leaf : goal.returns-clause-leaf
returns-clause-leaf g c =
    ap not c.in-Some.ensures.answer.1
    ∙ ap (λ z. not (item (bits_in (g.T.TableSource.lists c.args.source.now)) (z + 1))) c.requires.start
    ∙ bit_after_zero _ _ _ c.requires.tree.held c.args.node c.requires.node

-- The sections of a sequence are few and short.
use Rattle.std.proofs.Common.{◌≡◌, length, ap, sym, subst, ◌∙◌, List, arith, rules}
use Rattle.bitm_block.specs.Layout.{AreShort}
use Rattle.bitm_block.specs.declared.layout.Section.{Section}
use Rattle.sequence_block.specs.Block.{sections_of, sequence_sections}
use Rattle.sequence_block.proofs.BlockLemmas.{are_short}
use Rattle.sequence_block.proofs.building.seal_sequence.Goals as goal

pub unreachable-requires : goal.unreachable-requires
unreachable-requires c =
    let xs = c.args.items.now in
    let sections : c.as_slice.result.now ≡ sections_of xs =
    c.as_slice.ensures ∙ (c.sequence_sections-sections.ensures ∙ ap (λ u. sequence_sections (length xs) u) c.largest_of.ensures) in
    let short : AreShort c.as_slice.result.now =
    subst (λ (ss : List Section). AreShort ss) (sym sections) (are_short xs c.requires.short c.requires.rising (λ k. omega (arith, c.type_inv.items k))) in
    search rules

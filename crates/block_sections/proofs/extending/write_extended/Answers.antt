-- What is sealed has the sections of the block, and one more.
use Rattle.std.proofs.Common.{◌≡◌, ◌+◌, List, length, take, ap, subst, ◌∙◌, arith}
use Rattle.std.proofs.lemmas.List.{length-replicate}
use Rattle.bitm_block.specs.Header.{count_in, head_in}
use Rattle.bitm_block.specs.Written.{IsSealed}
use Rattle.bitm_block.specs.declared.head.Head.{Head}
use Rattle.bitm_block.specs.declared.layout.Section.{Section}
use Rattle.block_sections.specs.Extended.{extended_sections}
use Rattle.block_sections.proofs.ExtendLemmas.{extended, few_in, len_with}
use Rattle.block_sections.proofs.extending.write_extended.Goals as goal

pub list_sections-requires : goal.list_sections-requires
list_sections-requires c =
    let can = c.requires.fits.can in
    omega (arith, few_in c.args.block.now c.args.added.now can.is_block can.short, ap length c.as_mut_slice.ensures.value, length-replicate {A = Section} 16 c.args.added.now)

pub slice_bounds-sections-end : goal.slice_bounds-sections-end
slice_bounds-sections-end c =
    let b = c.args.block.now in
    let s = c.args.added.now in
    let list : take (c.sections.result + 1) c.as_slice.result.now ≡ extended_sections b s =
    ap (λ k. take (k + 1) c.as_slice.result.now) c.sections.ensures.count
    ∙ ap (take (count_in b + 1)) c.as_slice.ensures
    ∙ c.list_sections.ensures.list in
    omega (arith, ap length list, len_with b s c.requires.fits.can.is_block, c.sections.ensures.count)

pub returns : goal.returns
returns c =
    let b = c.args.block.now in
    let s = c.args.added.now in
    let old = c.copy_parts.new.to in
    let new = c.seal_sized.new.block in
    let list : take (c.sections.result + 1) c.as_slice.result.now ≡ extended_sections b s =
    ap (λ k. take (k + 1) c.as_slice.result.now) c.sections.ensures.count
    ∙ ap (take (count_in b + 1)) c.as_slice.ensures
    ∙ c.list_sections.ensures.list in
    let sealed : IsSealed (head_in b) (extended_sections b s) old new =
    subst (λ (h : Head). IsSealed h (extended_sections b s) old new) c.head.ensures
    (subst (λ (ss : List Section). IsSealed c.head.result ss old new) list c.seal_sized.ensures.sealed) in
    extended b s c.requires.fits.can.is_block c.args.words.now old c.copy_parts.ensures.stands c.requires.fits.long new sealed

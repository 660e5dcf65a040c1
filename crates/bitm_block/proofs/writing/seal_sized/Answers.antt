-- The header, the directory and the body are those of the block, which is one.
use Rattle.std.proofs.Common.{◌∙◌, ap, drop, subst, sym}
use Rattle.bitm_block.specs.Written.{IsSealed}
use Rattle.bitm_block.proofs.SealedLemmas.{sealed}
use Rattle.bitm_block.proofs.WrittenLemmas.{block_more}
use Rattle.bitm_block.proofs.writing.seal_sized.Goals as goal

pub returns-clause-words : goal.returns-clause-words
returns-clause-words c =
    block_more c.args.head.now c.args.sections.now c.args.block.now c.write_header.new.header c.write_directory.new.directory
    c.write_directory.new.body c.split_at_mut-front.result.1.now _ c.checksum_of.result
    (c.split_at_mut-front.ensures.back ∙ ap (λ k. drop k c.args.block.now) c.head_len.ensures.head)
    c.requires.room c.checksum_of.ensures c.write_directory.ensures.directory c.write_directory.ensures.body c.write_header.ensures

pub returns-clause-sealed : goal.returns-clause-sealed
returns-clause-sealed c =
    let h = c.args.head.now in
    let ss = c.args.sections.now in
    let old = c.args.block.now in
    subst (IsSealed h ss old) (sym (returns-clause-words c)) (sealed h ss old c.requires.short c.requires.room)

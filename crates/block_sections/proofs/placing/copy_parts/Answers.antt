-- The sections and the words stand one after another.
use Rattle.std.proofs.Common.{◌++◌, length, ap, ◌∙◌, arith}
use Rattle.bitm_block.proofs.LayoutLemmas.{words_fit}
use Rattle.bitm_block.specs.Layout.{head_of}
use Rattle.block_sections.specs.Extended.{body_in}
use Rattle.block_sections.proofs.ExtendLemmas.{body_is, body_len, end_with, few_in}
use Rattle.block_sections.proofs.placing.copy_parts.Goals as goal

pub head_len-requires-2 : goal.head_len-requires-2
head_len-requires-2 c =
    let can = c.requires.fits.can in
    omega (arith, few_in c.args.block.now c.args.added.now can.is_block can.short, c.sections-count.ensures.count)

pub split_at_mut-head-requires : goal.split_at_mut-head-requires
split_at_mut-head-requires c =
    let can = c.requires.fits.can in
    omega (arith, end_with c.args.block.now c.args.added.now can.is_block, can.is_block.directory.head, c.requires.room, c.head_len-2.ensures.head, c.sections-count.ensures.count)

pub split_at_mut-kept-requires : goal.split_at_mut-kept-requires
split_at_mut-kept-requires c =
    let b = c.args.block.now in
    let s = c.args.added.now in
    let can = c.requires.fits.can in
    let at = c.head_len.ensures.head ∙ ap head_of c.sections-count.ensures.count in
    let body = ap length (body_is b s can.is_block c.words.result.now c.head_len.result c.words.ensures.words at) in
    omega (arith, body, body_len b s can.is_block, end_with b s can.is_block, c.split_at_mut-head.ensures.back_len, c.requires.room, c.head_len-2.ensures.head, c.sections-count.ensures.count)

pub split_at_mut-part-requires : goal.split_at_mut-part-requires
split_at_mut-part-requires c =
    let b = c.args.block.now in
    let s = c.args.added.now in
    let can = c.requires.fits.can in
    let at = c.head_len.ensures.head ∙ ap head_of c.sections-count.ensures.count in
    let body = ap length (body_is b s can.is_block c.words.result.now c.head_len.result c.words.ensures.words at) in
    omega (arith, body, body_len b s can.is_block, end_with b s can.is_block, c.split_at_mut-head.ensures.back_len, c.split_at_mut-kept.ensures.back_len, c.requires.room, c.requires.fits.long, words_fit s, c.head_len-2.ensures.head, c.sections-count.ensures.count)

pub returns-clause-stands : goal.returns-clause-stands
returns-clause-stands c =
    let b = c.args.block.now in
    let s = c.args.added.now in
    let at = c.head_len.ensures.head ∙ ap head_of c.sections-count.ensures.count in
    let body = body_is b s c.requires.fits.can.is_block c.words.result.now c.head_len.result c.words.ensures.words at in
    let front = c.split_at_mut-head.result.0.now in
    let gap = c.split_at_mut-part.result.1.now in
    record {
      front = front;
      gap = gap;
      head = omega (arith, c.split_at_mut-head.ensures.front_len, c.head_len-2.ensures.head, c.sections-count.ensures.count);
      whole =
          ap (λ l. front ++ (l ++ (c.copy_items-2.new.to ++ gap))) (c.copy_items.ensures ∙ body)
          ∙ ap (λ l. front ++ (body_in b ++ (l ++ gap))) c.copy_items-2.ensures;
    }

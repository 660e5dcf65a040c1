-- The new block is longer by the room of the section and that of its entry.
use Rattle.std.proofs.Common.{◌≡◌, length, ap, subst, arith}
use Rattle.bitm_block.specs.Header.{IsBlock}
use Rattle.block_sections.proofs.ExtendLemmas.{end_with, few_in, short_with, small_in}
use Rattle.block_sections.proofs.extending.size_with.Goals as goal
use Rattle.block_sections.proofs.extending.size_with.Goals.{then-count-ge-MOST_SECTIONS-via-then-count-ge-MOST_SECTIONS, then-count-ge-MOST_SECTIONS-via-else-count-ge-MOST_SECTIONS+then-added}

pub returns-then-count-ge-MOST_SECTIONS : goal.returns-then-count-ge-MOST_SECTIONS
returns-then-count-ge-MOST_SECTIONS c short =
    let b = c.args.block.now in
    let s = c.args.added.now in
    let is : IsBlock b = subst IsBlock c.words-words.ensures.words c.words-words.ensures.block in
    let few = few_in b s is short in
    let small = small_in b s is short in
    elim c.then-count-ge-MOST_SECTIONS.branch [ then-count-ge-MOST_SECTIONS-via-then-count-ge-MOST_SECTIONS w ↦ omega (arith, few) | then-count-ge-MOST_SECTIONS-via-else-count-ge-MOST_SECTIONS+then-added w ↦ omega (arith, small) ]

pub returns-then-len : goal.returns-then-len
returns-then-len c =
    let b = c.args.block.now in
    let s = c.args.added.now in
    let is : IsBlock b = subst IsBlock c.words-words.ensures.words c.words-words.ensures.block in
    let long : length c.words-words.result.now ≡ length b = ap length c.words-words.ensures.words in
    let size = end_with b s is in
    let head = is.directory.head in (
      short_with b s is (omega (arith, c.if-count-ge-MOST_SECTIONS.false)) (omega (arith, c.if-added.false)) (omega (arith, c.if-len.true, size, long, head)),
      omega (arith, size, long, head),
    )

pub returns-else-len : goal.returns-else-len
returns-else-len c short =
    let b = c.args.block.now in
    let s = c.args.added.now in
    let is : IsBlock b = subst IsBlock c.words-words.ensures.words c.words-words.ensures.block in
    let long : length c.words-words.result.now ≡ length b = ap length c.words-words.ensures.words in
    let size = end_with b s is in
    let head = is.directory.head in
    omega (arith, c.if-len.false, size, long, head, short.total)

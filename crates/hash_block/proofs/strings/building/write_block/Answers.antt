-- What was sealed has the sections that were written.
use Rattle.std.proofs.Common.{ap, ◌∙◌, length, subst}
use Rattle.bitm_block.specs.Written.{IsSealed}
use Rattle.bitm_tables.specs.Tables.{Lists}
use Rattle.hash_block.specs.StringsBlock.{sections_of, string_head}
use Rattle.hash_block.proofs.StringsBlockLemmas.{block_is}
use Rattle.hash_block.proofs.strings.building.write_block.Goals as goal

pub returns-clause-block : goal.returns-clause-block
returns-clause-block c = λ _.
    let hash = c.args.hash.now in
    let n = length c.args.ends.now in
    let bytes = length c.args.bytes.now in
    let words = ap length (c.words.ensures.words ∙ ap (λ (l : Lists). l.words) c.tables.ensures) in
    let sections =
    ap (λ w. sections_of w (length c.sizes.result.now) n bytes) words
    ∙ ap (λ s. sections_of (length hash.lists.words) s n bytes) (ap length c.sizes.ensures.sizes) in
    block_is hash c.args.bytes.now c.args.ends.now c.write_parts.new.block c.seal_strings.new.block c.requires.few
    (c.write_parts.ensures.numbers.0 c.if-not-write_parts.false)
    (subst (λ ss. IsSealed (string_head n) ss c.write_parts.new.block c.seal_strings.new.block) sections c.seal_strings.ensures)
    (c.write_parts.ensures.stands c.if-not-write_parts.false)

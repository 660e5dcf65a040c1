-- The fourth section of a block with seeds has another role than that of a hash without.
use Rattle.std.proofs.Common.{◌≡◌, ℕ, ◌<◌, List, subst, arith}
use Rattle.bitm_block.specs.Header.{section_entry}
use Rattle.hash_block.specs.SeededBlock.{HasSeededSections}
use Rattle.hash_block.proofs.seeded.opening.open.Goals as goal

pub returns-clause-apart : goal.returns-clause-apart
returns-clause-apart c some hash =
    let block = c.args.block.now in
    let own = subst (λ (b : List ℕ). HasSeededSections b) c.in-Ok.ensures.words (c.has_seeded.ensures.0 c.if-not-has_seeded.false) in
    let seeds : (section_entry block 3).role ≡ 15 = own.roles_are 3 (omega arith) in
    let sizes : (section_entry block 3).role ≡ 4 = hash.sections.roles_are 3 (omega arith) in
    omega (arith, seeds, sizes)

-- The optional section of hints.
use Rattle.std.proofs.Common.{◌≡◌, ℕ, ◌<◌, List, arith}
use Rattle.std.proofs.lemmas.Grind.{common_steps}
use Rattle.bitm_block.specs.Header.{count_in, section_entry, section_in}
use Rattle.bitm_selection.specs.Hints.{hints_len}
use Rattle.block_tables.specs.Hints.{hints_in, hints_with}

-- a section of that role and count is taken
pub hints_with_are : (block : List ℕ) (i len : ℕ) → i < count_in block → (section_entry block i).role ≡ 22
    → (section_entry block i).count ≡ len → hints_with block i len ≡ section_in block i
hints_with_are block i len inside role count = grind (arith, common_steps)

pub hints_are : (block : List ℕ) (i ones words : ℕ) → i < count_in block → (section_entry block i).role ≡ 22
    → (section_entry block i).count ≡ hints_len ones words → hints_in block i ones words ≡ section_in block i
hints_are block i ones words = hints_with_are block i (hints_len ones words)

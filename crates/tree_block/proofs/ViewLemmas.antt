-- What a view answers from its own words, tables and hints.
use Rattle.std.proofs.Common.{◌≡◌, ℕ, true, false, List, subst}
use Rattle.bitm_selection.specs.Hints.{AreHints, Lead}
use Rattle.bitm_tables.specs.Tables.{Lists}
use Rattle.louds.specs.Counted.{degrees_in, IsLouds}
use Rattle.tree_block.specs.Block.{HoldsIn, TreeParts}

-- what is answered where the source is a tree in which the hints find bits, is answered where the view holds a tree
pub answered : (P : List ℕ → Type 0) (n : ℕ) (lists : Lists) (parts : TreeParts) (ones zeros : List ℕ) → n ≡ parts.len → lists ≡ parts.lists
    → (IsLouds n lists → AreHints true lists.words ones × AreHints false lists.words zeros → P (degrees_in n lists))
    → (Lead parts.len parts.hints parts.lists.words → AreHints true parts.lists.words ones × AreHints false parts.lists.words zeros)
    → HoldsIn parts → P (degrees_in parts.len parts.lists)
answered P n lists parts ones zeros len same answer lead h =
    let Q : ℕ → Lists → Type 0 = λ k l. IsLouds k l → AreHints true l.words ones × AreHints false l.words zeros → P (degrees_in k l) in
    subst (λ (l : Lists). Q parts.len l) same (subst (λ (k : ℕ). Q k lists) len answer) h.louds (lead h.lead)

-- Levels without a table of starts are those of their other tables.
use Rattle.std.proofs.Common.{◌≡◌, ℕ, ◌^◌, ◌==◌, Bool, List, [], ◌∷◌, length, slice_index, sym, ap, ◌∙◌, arith}
use Rattle.levels_view.specs.Levels.{levels_with, tables_of}
use Rattle.matrix_block.specs.Block.{parts_of, with_hints, HasLengths, IsPlain, MatrixParts}
use Rattle.matrix_levels.specs.Matrix.{LevelTables}

none-known : (s : List ℕ) → length s ≡ 1 → slice_index s 0 ≡ 0 → s ≡ 0 ∷ []
none-known [] len first = absurd (omega (arith, len))
none-known (x ∷ []) len first = ap (λ (n : ℕ). n ∷ []) first
none-known (x ∷ y ∷ s) len first = absurd (omega (arith, len))

pub plain_levels : (l : LevelTables) → length l.starts ≡ 2 ^ l.known → IsPlain l → levels_with l.len l.width l.ones l.zeros l.quarters ≡ l
plain_levels l starts_len plain =
    let at : ℕ → List ℕ → Bool → LevelTables = λ known starts compact. tables_of l.len l.width l.ones l.zeros known starts compact l.quarters in
    ap (λ k. at k (0 ∷ []) (length l.quarters == 0)) (sym plain.known_none)
    ∙ ap (λ s. at l.known s (length l.quarters == 0)) (sym (none-known l.starts (starts_len ∙ ap (λ k. 2 ^ k) plain.known_none) plain.starts_none))
    ∙ ap (at l.known l.starts) (sym plain.compact_is)

-- so the parts of a view are those of its tables and lists
pub plain_parts : (v : MatrixParts) → HasLengths v
    → with_hints v.hints (parts_of (levels_with v.levels.len v.levels.width v.levels.ones v.levels.zeros v.levels.quarters) v.lists.words v.lists.upper v.lists.lower) ≡ v
plain_parts v has =
    ap (λ (l : LevelTables). with_hints v.hints (parts_of l v.lists.words v.lists.upper v.lists.lower))
    (plain_levels v.levels has.levels.starts_len has.plain)

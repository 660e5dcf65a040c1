-- The levels of a matrix are as long as calls over any levels require.
use Rattle.std.proofs.Common.{◌≡◌, ℕ, Option, Some, None, sym, ◌∙◌, subst, arith}
use Rattle.std.proofs.lemmas.Option.{none-some, same_Some}
use Rattle.bitm_tables.specs.Tables.{bits_in, Lists}
use Rattle.bitm_tables.proofs.lemmas.QuarterLemmas.{quarters-enough}
use Rattle.bitm_select.proofs.Callers.{sizes_of}
use Rattle.matrix_levels.specs.Levels.{level_position}
use Rattle.matrix_levels.specs.Matrix.{numbers_in, IsMatrix, LevelTables}
use Rattle.matrix_levels.proofs.lemmas.WalkLemmas.{level_position-first}
use Rattle.levels_view.specs.Laws.{MatricesFit}

pub matrices_fit : MatricesFit
matrices_fit l lists h =
    let n = h.numbers in
    record {
      sized = sizes_of lists h.indexed.tables h.indexed.short;
      room = n.room;
      levels = record {
        numbers = record { some = n.some; most = n.most; short = n.short };
        ones_len = n.ones_len;
        zeros_len = n.zeros_len;
        known_most = n.known_most;
        starts_len = n.starts_len;
        no_quarters = n.no_quarters;
        all_quarters = λ has. omega (arith, quarters-enough (bits_in lists) l.quarters (n.quarters_are has), n.room);
      };
    }

-- where a walk over the same levels found that a number starts
pub found-start : (l m : LevelTables) (lists : Lists) (n d position : ℕ) (r : Option ℕ) → m ≡ l → IsMatrix l lists → r ≡ Some position
    → ((p : ℕ) → IsMatrix m lists → 0 ≡ level_position (numbers_in m lists) m.width n 0 p → r ≡ Some (level_position (numbers_in m lists) m.width n d p))
    → (p : ℕ) → 0 ≡ level_position (numbers_in l lists) l.width n 0 p → position ≡ level_position (numbers_in l lists) l.width n d p
found-start l m lists n d position r same matrix is found p e =
    let P : LevelTables → Type 0 = λ k.
    (IsMatrix k lists → 0 ≡ level_position (numbers_in k lists) k.width n 0 p → r ≡ Some (level_position (numbers_in k lists) k.width n d p)) in
    same_Some _ _ (sym is ∙ subst P same (found p) matrix e)

-- and it found one
pub found-some : (l m : LevelTables) (lists : Lists) (n d : ℕ) (r : Option ℕ) → m ≡ l → IsMatrix l lists → r ≡ None
    → ((p : ℕ) → IsMatrix m lists → 0 ≡ level_position (numbers_in m lists) m.width n 0 p → r ≡ Some (level_position (numbers_in m lists) m.width n d p)) → ⊥
found-some l m lists n d r same matrix is found =
    let P : LevelTables → Type 0 = λ k.
    (IsMatrix k lists → 0 ≡ level_position (numbers_in k lists) k.width n 0 0 → r ≡ Some (level_position (numbers_in k lists) k.width n d 0)) in
    none-some _ (sym is ∙ subst P same (found 0) matrix (level_position-first (numbers_in l lists) l.width n 0))

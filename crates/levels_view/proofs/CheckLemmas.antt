-- Tables of levels that are counted in the words are those of a matrix.
use Rattle.std.proofs.Common.{◌≡◌, ℕ, ◌+◌, ◌-◌, ◌*◌, ◌%◌, ◌^◌, ◌<◌, ◌≤◌, Bool, false, List, [], ◌∷◌, Option, Some, None, length, get_or, refl, sym, ap, ◌∙◌, subst, arith}
use Rattle.std.proofs.lemmas.Nat.{pow-add, pow_pos}
use Rattle.std.proofs.lemmas.Option.{none-some, same_Some}
use Rattle.std.proofs.Math.Nat.{mul-div_cancel, mul-le-mul_right}
use Rattle.bitm_tables.specs.Tables.{bits_in, IsIndexed, Lists}
use Rattle.matrix_levels.specs.Levels.{level_position}
use Rattle.matrix_levels.specs.Matrix.{level_items, numbers_in, IsMatrix, LevelTables}
use Rattle.matrix_levels.proofs.lemmas.MatrixLemmas.{count-whole}
use Rattle.matrix_levels.proofs.lemmas.StartLemmas.{start-of-begin, starts-of-none}
use Rattle.matrix_levels.proofs.lemmas.WalkLemmas.{level_position-first}
use Rattle.levels_view.specs.Levels.{tables_of, HasLevels}
use Rattle.levels_view.specs.Check.{AreCounts, HasQuarters, HasStarts}
use Rattle.matrix_levels.proofs.lemmas.DecodeLemmas.{any-levels, items-fit, items-len}

module _ (l : LevelTables) (lists : Lists) (has : HasLevels l) (room : l.width * l.len ≤ length (bits_in lists)) where
  abbrev b : List Bool
  b = bits_in lists

  pub matrix-of : IsIndexed lists → AreCounts l b → HasQuarters l b → HasStarts l b → IsMatrix l lists
  matrix-of indexed counts quarters starts = record {
    indexed = indexed;
    numbers = record {
      count = sym (items-len b l.width l.len room);
      some = has.numbers.some;
      most = has.numbers.most;
      short = has.numbers.short;
      fit = items-fit b l.width l.len room;
      room = room;
      levels = any-levels b l.width l.len room;
      ones_len = has.ones_len;
      zeros_len = has.zeros_len;
      ones_are = λ d less. (counts d less).ones_are;
      zeros_are = λ d less.
          omega (
            arith,
            (counts d less).zeros_are,
            count-whole (level_items b l.width l.len) l.width l.len b (sym (items-len b l.width l.len room)) room (any-levels b l.width l.len room) false d less,
          );
      known_most = has.known_most;
      starts_len = has.starts_len;
      starts_are = starts;
      quarters_are = quarters;
      no_quarters = has.no_quarters;
    };
  }

  pub counted : IsMatrix l lists → AreCounts l b
  counted h d less =
      let m = h.numbers in
      record {
        ones_are = m.ones_are d less;
        zeros_are = omega (arith, m.zeros_are d less, count-whole (level_items b l.width l.len) l.width l.len b m.count m.room m.levels false d less);
      }

-- these levels without their table of starts
abbrev pub plain : LevelTables → LevelTables
plain l = tables_of l.len l.width l.ones l.zeros 0 (0 ∷ []) l.compact l.quarters

-- they hold the same numbers, and find where a prefix starts
module _ (l m : LevelTables) (s lists : Lists) (same : m ≡ plain l) (kept : s ≡ lists) (has : HasLevels l) (room : l.width * l.len ≤ length (bits_in lists)) (indexed : IsIndexed lists) (counts : AreCounts l (bits_in lists)) (quarters : HasQuarters l (bits_in lists)) where
  abbrev xs : List ℕ
  xs = level_items (bits_in lists) l.width l.len

  plain-matrix : IsMatrix (plain l) lists
  plain-matrix =
      matrix-of (plain l) lists (record {
        numbers = has.numbers;
        ones_len = has.ones_len;
        zeros_len = has.zeros_len;
        known_most = omega arith;
        starts_len = refl;
        no_quarters = has.no_quarters;
        all_quarters = has.all_quarters;
      }) room indexed (λ d less. record { ones_are = (counts d less).ones_are; zeros_are = (counts d less).zeros_are }) quarters
      (starts-of-none xs l.width)

  -- what a walk from the front to level d answers
  abbrev Finds : LevelTables → Lists → ℕ → ℕ → Option ℕ → Type 0
  Finds k t n d r =
      (p : ℕ) → IsMatrix k t → 0 ≡ level_position (numbers_in k t) k.width n 0 p → r ≡ Some (level_position (numbers_in k t) k.width n d p)

  moved : (n d : ℕ) (r : Option ℕ) → Finds m s n d r → Finds (plain l) lists n d r
  moved n d r found = subst (λ t. Finds (plain l) t n d r) kept (subst (λ k. Finds k s n d r) same found)

  pub start-found : (h rest n position d : ℕ) (r : Option ℕ) → d ≡ l.known → h < 2 ^ l.known → rest ≡ (l.width - l.known) % 64 → n ≡ h * 2 ^ rest % 2 ^ 64
      → r ≡ Some position → Finds m s n d r → position ≡ level_position xs l.width (h * 2 ^ (l.width - l.known)) l.known 0
  start-found h rest n position d r known less shift is some found =
      start-of-begin xs xs l.width l.known h rest n position refl has.known_most has.numbers.most less shift is
      (λ p e. same_Some _ _ (sym some ∙ moved n l.known r (subst (λ k. Finds m s n k r) known found) p plain-matrix e))

  pub start-is-found : (n d : ℕ) (r : Option ℕ) → r ≡ None → Finds m s n d r → ⊥
  start-is-found n d r none found =
      none-some _ (sym none ∙ moved n d r found 0 plain-matrix (level_position-first xs l.width n 0))

-- a table of starts is right for each prefix
pub starts-each : (l : LevelTables) (b : List Bool) → l.known ≤ l.width → HasStarts l b → (h : ℕ) → h < 2 ^ l.known
    → get_or l.starts h 0 ≡ level_position (level_items b l.width l.len) l.width (h * 2 ^ (l.width - l.known)) l.known 0
starts-each l b most right h less =
    let r : ℕ = l.width - l.known in
    let e : l.known + r ≡ l.width = omega (arith, most) in
    let fits : h * 2 ^ r < 2 ^ l.width =
    omega (
      arith,
      mul-le-mul_right (2 ^ r) (let next : h + 1 ≤ 2 ^ l.known = omega (arith, less) in next),
      pow_pos r,
      sym (pow-add 2 l.known r) ∙ ap (λ k. 2 ^ k) e,
    ) in
    ap (λ k. get_or l.starts k 0) (sym (mul-div_cancel h (pow_pos r))) ∙ right (h * 2 ^ r) fits

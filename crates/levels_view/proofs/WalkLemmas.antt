-- Items on their way from level to level.
use Rattle.std.proofs.Common.{◌≡◌, ℕ, ◌+◌, ◌-◌, ◌*◌, ◌^◌, ◌<◌, ◌≤◌, inl, inr, ⊎_elim, ap, subst, arith}
use Rattle.std.proofs.lemmas.Bool.{cases_lt}
use Rattle.bitm_tables.specs.Tables.{Lists}
use Rattle.matrix_levels.specs.Matrix.{numbers_in, IsMatrix, LevelTables}
use Rattle.matrix_levels.proofs.lemmas.ManyLemmas.{level-first, level-last}
use Rattle.levels_view.specs.Walk.{IsOnTheWay, IsNumberAndRank}

-- an item begins at its index, with no digits
pub begins : (l : LevelTables) (lists : Lists) (i : ℕ) → IsOnTheWay l lists 0 i i 0
begins l lists i =
    let first = λ (h : IsMatrix l lists) (some : i < l.len). let m = h.numbers in level-first (numbers_in l lists) l.width m.fit m.most i (omega (arith, some, m.count)) in
    record {
      outside = λ past. past;
      small = λ _. omega arith;
      inside = λ _ some. some;
      position = λ h some. (first h some).position;
      digits = λ h some. (first h some).digits;
    }

-- after the last level the digits are the number
pub claimed : (l : LevelTables) (lists : Lists) (i p n d : ℕ) → d ≡ l.width → IsOnTheWay l lists d i p n → IsNumberAndRank l lists i p n
claimed l lists i p n d e w = record {
  found = λ in_p.
      let some : i < l.len = ⊎_elim (λ s. s) (λ past. absurd (omega (arith, w.outside past, in_p))) (cases_lt i l.len) in
      record {
        inside = (some, subst (λ k. n < 2 ^ k) e (w.small in_p));
        right = λ h. let m = h.numbers in (
          omega (arith, some, m.count),
          level-last (numbers_in l lists) l.width m.fit m.most i (omega (arith, some, m.count)) d p n e
              (record { position = w.position h some; digits = w.digits h some }),
        );
      };
  unanswered = λ past.
      ⊎_elim
      (λ some. inr (record { inside = some; right = λ h. omega (arith, w.inside h some, past) }))
      (λ none. inl (record { inside = none; right = λ h. omega (arith, none, h.numbers.count) }))
      (cases_lt i l.len);
}

-- what the levels of both positions read, one level more
pub both-levels-more : (k d n : ℕ) → k ≤ d → k * n + 2 * ((d - k) * n) + 2 * n ≤ k * n + 2 * ((d + 1 - k) * n)
both-levels-more k d n from =
    let one : d + 1 - k ≡ d - k + 1 = omega (arith, from) in
    let e : (d + 1 - k) * n ≡ (d - k + 1) * n = ap (λ m. m * n) one in
    omega (arith, e)

-- and after the last one
pub both-levels : (k w n : ℕ) → k ≤ w → k * n + 2 * ((w - k) * n) ≤ (2 * w - k) * n
both-levels k w n most =
    let all : 2 * w - k ≡ k + 2 * (w - k) = omega (arith, most) in
    let e : (2 * w - k) * n ≡ (k + 2 * (w - k)) * n = ap (λ m. m * n) all in
    omega (arith, e)

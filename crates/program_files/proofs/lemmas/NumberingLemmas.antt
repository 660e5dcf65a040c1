-- Lines that are numbered position by position.
use Rattle.std.proofs.Common.{◌≡◌, ◌⊎◌, ℕ, ◌+◌, ◌<◌, ◌≤◌, cond, List, [], ◌∷◌, ◌++◌, All, length, take, get_or, refl, sym, ap, ◌∙◌, subst, arith, ⊎_elim}
use Rattle.std.proofs.lemmas.Bool.{cases_lt}
use Rattle.std.proofs.lemmas.Bool.Decides.{nat_tests}
use Rattle.std.proofs.lemmas.Grind.{get_or_default_zero}
use Rattle.std.proofs.lemmas.List.{get_or-take, get_or_append_left, get_or_push, length-take-le, length_push, take_more}
use Rattle.std.proofs.lemmas.List.Elements.{All-nil, All-push, Contains-append_left, Contains-push, Contains-push_cases}
use Rattle.std.proofs.lemmas.List.Sums.{sum_by-le-sum_by}
use Rattle.std.specs.List.{Contains}
use Rattle.std.specs.List.Sorted.{IsNonDecreasing}
use Rattle.std.specs.Prelude.{nat_lt}
use Rattle.program_files.specs.Lines.{line_among, AreLinesOf, HasPosition}

-- a later position is in no earlier line
later : (ends : List ℕ) (a b : ℕ) → a ≤ b → line_among ends a ≤ line_among ends b
later ends a b h =
    let one : (x : ℕ) → cond (nat_lt x a) 1 0 ≤ cond (nat_lt x b) 1 0 = λ x. grind (arith, nat_tests) in
    omega (arith, sum_by-le-sum_by (λ x. cond (nat_lt x a) 1 0) (λ x. cond (nat_lt x b) 1 0) ends one)

-- the lines of the positions so far, of which the last is reported, or 0 where there is none
pub record Numbered (all_positions ends : List ℕ) (n last : ℕ) (lines : List ℕ) : Type 0 where
  pub are : AreLinesOf all_positions ends n lines
  pub top : All (λ line. line ≤ last) lines
  pub has : 0 < last → Contains lines last

pub numbered-none : (ends : List ℕ) (n : ℕ) → Numbered [] ends n 0 []
numbered-none ends n = record {
  are = record {
    each = All-nil (HasPosition [] ends n);
    all = λ line has. let (k, inside, is) = has.one in absurd (omega (arith, inside));
    rising = λ k inside. absurd (omega (arith, inside));
  };
  top = All-nil (λ line. line ≤ 0);
  has = λ some. absurd (omega (arith, some));
}

-- a position more
module _ (all_positions ends : List ℕ) (n last : ℕ) (lines : List ℕ) (position : ℕ) (so_far : Numbered all_positions ends n last lines) where
  wider : (line : ℕ) → HasPosition all_positions ends n line → HasPosition (all_positions ++ position ∷ []) ends n line
  wider line has = record {
    position = has.position;
    inside = has.inside;
    one = Contains-append_left all_positions (position ∷ []) has.position has.one;
    line_is = has.line_is;
  }

  earlier : (line : ℕ) (has : HasPosition (all_positions ++ position ∷ []) ends n line) → Contains all_positions has.position ⊎ (position ≡ has.position)
  earlier line has = Contains-push_cases all_positions position has.position has.one

  -- that is in a new line
  pub numbered-more : position < n → last < line_among ends position
      → Numbered (all_positions ++ position ∷ []) ends n (line_among ends position) (lines ++ line_among ends position ∷ [])
  numbered-more inside more =
      let new = line_among ends position in
      record {
        are = record {
          each = All-push (HasPosition (all_positions ++ position ∷ []) ends n) lines new (λ k d h. wider _ (so_far.are.each k d h)) (record {
            position = position;
            inside = inside;
            one = Contains-push all_positions position;
            line_is = refl;
          });
          all = λ line has. ⊎_elim
              (λ old. Contains-append_left lines (new ∷ []) line (so_far.are.all line (record {
                position = has.position;
                inside = has.inside;
                one = old;
                line_is = has.line_is;
              })))
              (λ here. subst (Contains (lines ++ new ∷ [])) (ap (line_among ends) here ∙ sym has.line_is) (Contains-push lines new))
              (earlier line has);
          rising = λ k h. ⊎_elim
              (λ inner. omega (
                arith,
                so_far.are.rising k inner,
                get_or_append_left lines (new ∷ []) 0 k (omega (arith, inner)),
                get_or_append_left lines (new ∷ []) 0 (k + 1) inner,
              ))
              (λ outer. let at : k + 1 ≡ length lines = omega (arith, h, outer, length_push lines new) in
              omega (
                arith,
                so_far.top k 0 (omega (arith, at)),
                more,
                get_or_append_left lines (new ∷ []) 0 k (omega (arith, at)),
                get_or_push lines new 0 (k + 1) (sym at),
              ))
              (cases_lt (k + 1) (length lines));
        };
        top = All-push (λ line. line ≤ new) lines new (λ k d h. omega (arith, so_far.top k d h, more)) (omega arith);
        has = λ _. Contains-push lines new;
      }

  -- or in the last one, or past the end
  pub numbered-same : ((j : ℕ) → j < length all_positions → get_or all_positions j 0 ≤ position) → (position < n → line_among ends position ≤ last)
      → Numbered (all_positions ++ position ∷ []) ends n last lines
  numbered-same after same = record {
    are = record {
      each = λ k d h. wider _ (so_far.are.each k d h);
      all = λ line has. ⊎_elim
          (λ old. so_far.are.all line (record { position = has.position; inside = has.inside; one = old; line_is = has.line_is }))
          (λ here. known line has here)
          (earlier line has);
      rising = so_far.are.rising;
    };
    top = so_far.top;
    has = so_far.has;
  }
    where
      known : (line : ℕ) (has : HasPosition (all_positions ++ position ∷ []) ends n line) → position ≡ has.position → Contains lines line
      known line has here =
          let is : line ≡ line_among ends position = has.line_is ∙ sym (ap (line_among ends) here) in
          let below : line ≤ last = omega (arith, is, same (omega (arith, here, has.inside))) in
          let in_lines = so_far.has (omega (arith, is, below)) in
          let (j, j_in, j_is) = in_lines in
          let first : HasPosition all_positions ends n last = subst (HasPosition all_positions ends n) j_is (so_far.are.each j last j_in) in
          let (i, i_in, i_is) = first.one in
          let order : first.position ≤ position = omega (arith, after i i_in, i_is, get_or_default_zero all_positions i first.position i_in) in
          let equal : last ≡ line = omega (arith, below, is, first.line_is, later ends first.position position order) in
          subst (Contains lines) equal in_lines

-- ---- positions of a list that does not fall

pub step-more : (xs ends : List ℕ) (i n last : ℕ) (lines : List ℕ) → i < length xs → Numbered (take i xs) ends n last lines
    → get_or xs i 0 < n → last < line_among ends (get_or xs i 0)
    → Numbered (take (i + 1) xs) ends n (line_among ends (get_or xs i 0)) (lines ++ line_among ends (get_or xs i 0) ∷ [])
step-more xs ends i n last lines inside so_far small more =
    let position = get_or xs i 0 in
    subst (λ ps. Numbered ps ends n (line_among ends position) (lines ++ line_among ends position ∷ [])) (sym (take_more xs i 0 inside))
    (numbered-more (take i xs) ends n last lines position so_far small more)

pub step-same : (xs ends : List ℕ) (i n last : ℕ) (lines : List ℕ) → IsNonDecreasing xs → i < length xs
    → Numbered (take i xs) ends n last lines → (get_or xs i 0 < n → line_among ends (get_or xs i 0) ≤ last)
    → Numbered (take (i + 1) xs) ends n last lines
step-same xs ends i n last lines up inside so_far same =
    let position = get_or xs i 0 in
    let after : (j : ℕ) → j < length (take i xs) → get_or (take i xs) j 0 ≤ position = λ j h.
    let below : j < i = omega (arith, h, length-take-le i xs (omega (arith, inside))) in
    omega (arith, get_or-take i xs j 0 below, up j i 0 (omega (arith, below)) inside) in
    subst (λ ps. Numbered ps ends n last lines) (sym (take_more xs i 0 inside))
    (numbered-same (take i xs) ends n last lines position so_far after same)

-- The positions of patterns, and the lines of a text by the positions of its line feeds.
use Rattle.std.proofs.Common.{◌≡◌, ℕ, zero, suc, ◌+◌, ◌<◌, ◌≤◌, ◌==◌, ◌&&◌, Bool, true, false, cond, List, [], ◌∷◌, ◌++◌, eqb, All, length, take, drop, get_or, filter, count_by, refl, sym, ap, ◌∙◌, subst, arith, add-one, zero-add, eq-eqb, ⊎_elim}
use Rattle.std.proofs.lemmas.Bool.{cases_Bool, cases_lt, eqb-true, true≢false}
use Rattle.std.proofs.lemmas.Bool.Decides.{nat_tests}
use Rattle.std.proofs.lemmas.List.{ext_get_or, map-append, take_all, take_more}
use Rattle.std.proofs.lemmas.List.Elements.{filter_passes, All-append, All-nil, Contains-append_left, Contains-append_right, Contains-push, Contains-push_cases}
use Rattle.std.proofs.lemmas.List.Filters.{All-dedup}
use Rattle.std.proofs.lemmas.List.Kept.{Contains-dedup_nat}
use Rattle.std.proofs.lemmas.List.FromFn.{get_or-range_with_len, length-range_with_len}
use Rattle.std.proofs.lemmas.List.Sorted.{All-permutation, Contains-permutation, sum_by-IsPermutation}
use Rattle.std.proofs.lemmas.List.Sums.{count_by_more_no, count_by_more_yes, length-filter, sum_by-cons}
use Rattle.std.specs.List.{dedup, range_with_len, Contains}
use Rattle.std.specs.List.Sorted.{IsPartitionPoint, IsPermutation, IsStrictlyIncreasing}
use Rattle.std.specs.Prelude.{nat_lt}
use Rattle.matrix_levels.proofs.lemmas.FilterLemmas.{contains-filter}
use Rattle.text_index.proofs.lemmas.CountLemmas.{count_range, count_same}
use Rattle.text_index.proofs.lemmas.SearchLemmas.{begins_from, begins_to}
use Rattle.text_index.proofs.lemmas.TotalLemmas.{range_more, suffixes-count}
use Rattle.text_index.specs.Text.{begins_with, stands_at}
use Rattle.program_files.specs.Answers.{AreFound, ArePositions}
use Rattle.program_files.specs.Lines.{bytes_in, line_among, line_at, AreFoundOf, AreLinesOf, AreAllPositions, LinesWith, SomeStandsAt}
use denote.Ref.{Bor}

-- as many pass as there are before the point from which on none does
pub count-point : (p : ℕ → Bool) (xs : List ℕ) (i : ℕ) → i ≤ length xs
    → IsPartitionPoint (λ x. p x ≡ true) (λ x. p x ≡ false) xs i → i ≡ count_by p xs
count-point p xs i inside point =
    let only : (r : ℕ) → r < length xs → p (get_or xs r 0) ≡ true → (0 ≤ r) × (r < i) = λ r h yes.
    (omega arith, ⊎_elim (λ below. below) (λ past. absurd (true≢false (sym yes ∙ point.1 r 0 past h))) (cases_lt r i)) in
    let counted = count_range p xs 0 i (omega arith) (λ r _ h. point.0 r 0 (omega arith) h) only (length xs) (omega arith) in
    sym (sym (ap (count_by p) (take_all (length xs) xs (omega arith))) ∙ counted ∙ omega (arith, inside))

-- ---- a count of positions

one-more : (g q : ℕ → Bool) (x : ℕ) (xs : List ℕ) (b : Bool) → count_by q (filter g xs) ≡ count_by (λ y. g y && q y) xs
    → count_by q (cond b (x ∷ filter g xs) (filter g xs)) ≡ cond (b && q x) 1 0 + count_by (λ y. g y && q y) xs
one-more g q x xs true rest = sum_by-cons (λ y. cond (q y) 1 0) x (filter g xs) ∙ ap (λ n. cond (q x) 1 0 + n) rest
one-more g q x xs false rest = rest ∙ sym (zero-add (count_by (λ y. g y && q y) xs))

-- what passes both is counted among what passes one
count-filtered : (g q : ℕ → Bool) (xs : List ℕ) → count_by q (filter g xs) ≡ count_by (λ x. g x && q x) xs
count-filtered g q [] = refl
count-filtered g q (x ∷ xs) = one-more g q x xs (g x) (count-filtered g q xs) ∙ sym (sum_by-cons (λ y. cond (g y && q y) 1 0) x xs)

and-true : (b c : Bool) → c ≡ true → (b && c) ≡ b
and-true true c e = e
and-true false c e = refl

and-false : (b c : Bool) → c ≡ false → (b && c) ≡ false
and-false true c e = e
and-false false c e = refl

lt-true : (a b : ℕ) → a < b → nat_lt a b ≡ true
lt-true a b h = grind (arith, nat_tests)

lt-false : (a b : ℕ) → b ≤ a → nat_lt a b ≡ false
lt-false a b h = grind (arith, nat_tests)

-- of the numbers below n those below k are counted
cut : (g : ℕ → Bool) (k n : ℕ) → k ≤ n
    → count_by (λ x. g x && nat_lt x k) (range_with_len 0 n) ≡ count_by g (range_with_len 0 k)
cut g k zero h = let none : 0 ≡ k = omega arith in ap (λ i. count_by g (range_with_len 0 i)) none
cut g k (suc m) h =
    let f : ℕ → Bool = λ x. g x && nat_lt x k in
    let n = suc m in
    ⊎_elim
    (λ below.
    let none : cond (f m) 1 0 ≡ 0 = ap {B = ℕ} (λ b. cond b 1 0) (and-false (g m) (nat_lt m k) (lt-false m k (omega arith))) in
    ap (λ i. count_by f (range_with_len 0 i)) (sym (add-one m))
    ∙ omega (arith, range_more f m, none)
    ∙ cut g k m (omega arith))
    (λ all.
    let equal : n ≡ k = omega (arith, h, all) in
    count_same f g (range_with_len 0 n)
    (λ i inside.
    let small : i < n = omega (arith, inside, length-range_with_len 0 n) in
    and-true (g (get_or (range_with_len 0 n) i 0)) (nat_lt (get_or (range_with_len 0 n) i 0) k)
    (lt-true (get_or (range_with_len 0 n) i 0) k (omega (arith, get_or-range_with_len 0 n i 0 small, h, small, all))))
    ∙ ap (λ i. count_by g (range_with_len 0 i)) equal)
    (cases_lt k n)

empty : (text : List ℕ) (i : ℕ) → begins_with [] (drop i text) ≡ true
unfolding begins_with
empty text i = refl

feed : (text : List ℕ) (p : ℕ) → stands_at text (10 ∷ []) p ≡ true → (get_or text p 0 == 10) ≡ true
feed text p there = let (within, letter, more) = begins_from 10 [] text p there in eq-eqb (get_or text p 0) 10 letter

-- line feeds are counted as letters of the text's front
feeds : (text : List ℕ) (p : ℕ) → p ≤ length text
    → count_by (stands_at text (10 ∷ [])) (range_with_len 0 p) ≡ count_by (λ letter. letter == 10) (take p text)
feeds text zero h = refl
feeds text (suc p) h =
    let g = stands_at text (10 ∷ []) in
    let q : ℕ → Bool = λ letter. letter == 10 in
    let inside : p < length text = omega arith in
    let rest = feeds text p (omega arith) in
    let goal : count_by g (range_with_len 0 (p + 1)) ≡ count_by q (take (p + 1) text) = ⊎_elim
    (λ yes.
    let stands : g p ≡ true = begins_to 10 [] text p inside (eqb-true (get_or text p 0) 10 yes) (empty text (p + 1)) in
    let one : cond (g p) 1 0 ≡ 1 = ap {B = ℕ} (λ b. cond b 1 0) stands in
    omega (arith, range_more g p, one, rest, count_by_more_yes q text p 0 inside yes))
    (λ no.
    let not_there : g p ≡ false = ⊎_elim
    (λ there. absurd (true≢false (sym (feed text p there) ∙ no)))
    (λ none. none)
    (cases_Bool (g p)) in
    let none : cond (g p) 1 0 ≡ 0 = ap {B = ℕ} (λ b. cond b 1 0) not_there in
    omega (arith, range_more g p, none, rest, count_by_more_no q text p 0 inside no))
    (cases_Bool (q (get_or text p 0))) in
    let P : ℕ → Type 0 = λ i. count_by g (range_with_len 0 i) ≡ count_by q (take i text) in
    subst P (add-one p) goal

-- ---- all positions of a pattern

module _ (text pattern found : List ℕ) (are : AreFound text pattern found) where
  -- they are those in the order of the suffixes at which the pattern stands
  pub found-are : found ≡ filter (stands_at text pattern) are.located.0
  found-are =
      let (order, suffixes, at) = are.located in
      let p = stands_at text pattern in
      let long : length found ≡ length (filter p order) =
      are.all ∙ sym (suffixes-count text order suffixes p) ∙ sym (length-filter p order) in
      ext_get_or 0 found (filter p order) long (λ i h. at i h ∙ ap (λ k. get_or (filter p order) k 0) (zero-add i))

  -- the pattern stands at each
  found-stand : All (λ p. stands_at text pattern p ≡ true) found
  found-stand =
      let P : ℕ → Type 0 = λ p. stands_at text pattern p ≡ true in
      subst (All P) (sym found-are) (filter_passes (stands_at text pattern) are.located.0)

  -- each at which it stands is one
  found-there : (p : ℕ) → p ≤ length text → stands_at text pattern p ≡ true → Contains found p
  found-there p inside stands =
      let (order, suffixes, at) = are.located in
      let (k, k_in, k_is) = suffixes.each p inside in
      subst (λ xs. Contains xs p) (sym found-are) (contains-filter (stands_at text pattern) order k p k_in k_is stands)

-- those below a position are counted as all that are below it and at which the pattern stands
count-there : (text pattern all_positions : List ℕ) (are : ArePositions text pattern all_positions) (p : ℕ) → p ≤ length text
    → count_by (λ x. nat_lt x p) all_positions ≡ count_by (stands_at text pattern) (range_with_len 0 p)
count-there text pattern all_positions are p inside =
    let (order, suffixes, at) = are.are.located in
    let g = stands_at text pattern in
    let q : ℕ → Bool = λ x. nat_lt x p in
    sum_by-IsPermutation (λ x. cond (q x) 1 0) are.found all_positions are.same
    ∙ ap (count_by q) (found-are text pattern are.found are.are)
    ∙ count-filtered g q order
    ∙ suffixes-count text order suffixes (λ x. g x && q x)
    ∙ cut g p (length text + 1) (omega arith)

-- ---- all positions of some patterns

pub all_positions-of-none : (text : List ℕ) → AreFoundOf [] text []
all_positions-of-none text = record {
  each = All-nil (SomeStandsAt [] text);
  all = λ position has. let (k, inside, is) = has.one in absurd (omega (arith, inside));
}

pub all_positions-of-more : (patterns : List (List ℕ)) (text found pattern more : List ℕ) (n : ℕ) → n ≡ length text → AreFoundOf patterns text found
    → AreFound text pattern more → All (λ p. p ≤ n) more → AreFoundOf (patterns ++ pattern ∷ []) text (found ++ more)
all_positions-of-more patterns text found pattern more n long so_far are within = record {
  each = All-append (SomeStandsAt (patterns ++ pattern ∷ []) text) found more
      (λ k d h. let old = so_far.each k d h in record {
        pattern = old.pattern;
        one = Contains-append_left patterns (pattern ∷ []) old.pattern old.one;
        inside = old.inside;
        stands = old.stands;
      })
      (λ k d h. record {
        pattern = pattern;
        one = Contains-push patterns pattern;
        inside = omega (arith, within k d h, long);
        stands = found-stand text pattern more are k d h;
      });
  all = λ position has. ⊎_elim
      (λ old. Contains-append_left found more position
      (so_far.all position (record { pattern = has.pattern; one = old; inside = has.inside; stands = has.stands })))
      (λ here. Contains-append_right found more position (found-there text pattern more are position has.inside
      (subst (λ q. stands_at text q position ≡ true) (sym here) has.stands)))
      (Contains-push_cases patterns pattern has.pattern has.one);
}

-- of some patterns one more
pub bytes-more : (xs : List (Bor (List ℕ))) (i : ℕ) (d : Bor (List ℕ)) → i < length xs
    → bytes_in (take (i + 1) xs) ≡ bytes_in (take i xs) ++ (get_or xs i d).now ∷ []
bytes-more xs i d h = ap bytes_in (take_more xs i d h) ∙ map-append (λ pattern. pattern.now) (take i xs) (get_or xs i d ∷ [])

-- sorted, each once
pub all_positions-sorted : (patterns : List (List ℕ)) (text found sorted made : List ℕ) → AreFoundOf patterns text found → IsPermutation found sorted
    → made ≡ dedup eqb sorted → IsStrictlyIncreasing made → AreAllPositions patterns text made
all_positions-sorted patterns text found sorted made are same is rises = record {
  each = subst (All (SomeStandsAt patterns text)) (sym is)
      (All-dedup eqb (SomeStandsAt patterns text) sorted (All-permutation (SomeStandsAt patterns text) found sorted same are.each));
  all = λ position has. subst (λ xs. Contains xs position) (sym is)
      (Contains-dedup_nat sorted position (Contains-permutation found sorted position same (are.all position has)));
  rising = rises;
}

-- ---- the lines of the text are those among its line feeds

line-is : (text ends : List ℕ) (p : ℕ) → ArePositions text (10 ∷ []) ends → p ≤ length text → line_among ends p ≡ line_at text p
line-is text ends p are inside = ap (λ n. n + 1) (count-there text (10 ∷ []) ends are p inside ∙ feeds text p inside)

pub lines-found : (patterns : List (List ℕ)) (text all_positions ends lines : List ℕ) (n : ℕ) → n ≡ length text → ArePositions text (10 ∷ []) ends
    → AreAllPositions patterns text all_positions → AreLinesOf all_positions ends n lines → LinesWith patterns text lines
lines-found patterns text all_positions ends lines n long feeds_are are of = record {
  each = λ k d h.
      let has = of.each k d h in
      let (j, j_in, j_is) = has.one in
      record {
        position = has.position;
        inside = omega (arith, has.inside, long);
        stands = subst (SomeStandsAt patterns text) j_is (are.each j has.position j_in);
        line_is = has.line_is ∙ line-is text ends has.position feeds_are (omega (arith, has.inside, long));
      };
  all = λ line has. of.all line (record {
    position = has.position;
    inside = omega (arith, has.inside, long);
    one = are.all has.position has.stands;
    line_is = has.line_is ∙ sym (line-is text ends has.position feeds_are (omega (arith, has.inside)));
  });
  rising = of.rising;
}

-- the first line is 1
pub lines-positive : (all_positions ends : List ℕ) (n : ℕ) (lines : List ℕ) → AreLinesOf all_positions ends n lines → All (λ line. 0 < line) lines
lines-positive all_positions ends n lines of = λ k d h. let has = of.each k d h in omega (arith, has.line_is)

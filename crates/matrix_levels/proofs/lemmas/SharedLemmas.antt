-- The numbers that two ranges share, by those that go on with a 0 and those that go on with a 1.
use Rattle.std.proofs.Common.{◌≡◌, ◌⊎◌, ℕ, suc, ◌+◌, ◌-◌, ◌*◌, ◌/◌, ◌^◌, ◌<◌, ◌≤◌, if◌then◌else◌, Bool, true, false, List, [], ◌∷◌, ◌++◌, length, drop, filter, get_or, slice_range, All, Contains, refl, sym, ap, ◌∙◌, subst, arith, add-one, append_assoc, ⊎_elim}
use Rattle.std.specs.List.Sorted.{IsStrictlyIncreasing}
use Rattle.std.proofs.lemmas.Bool.{cases_lt, cases_Bool, eqb-true, eq-eqb, lt-ltb, and_from, not_from_false}
use Rattle.std.proofs.lemmas.List.{get_or_append_left, length-append, take-append-drop, take_at, drop_at}
use Rattle.std.proofs.lemmas.List.Elements.{All-nil, All-cons, All-same, All-take, All-drop, All-append, All-filter, All-weaker, All-contains, All-contains_itself, Contains-get_or, Contains-append_left, Contains-append_right, filter_passes}
use Rattle.std.proofs.Math.Nat.{pow-succ'}
use Rattle.std.proofs.Math.Pow.{shr_mono}
use Rattle.std.proofs.Math.Seq.{get_or-append_right}
use Rattle.bit_lists.specs.Bits.{digit}
use Rattle.matrix_levels.specs.Levels.{has_digit, level, partition_position, ArePositionsAfter, BeginAlike}
use Rattle.matrix_levels.specs.Shared.{AreShared, AddsShared, shared_prefixes}
use Rattle.matrix_levels.proofs.lemmas.ColumnLemmas.{length-level}
use Rattle.matrix_levels.proofs.lemmas.CountLemmas.{length-range}
use Rattle.matrix_levels.proofs.lemmas.FilterLemmas.{contains-filter}
use Rattle.matrix_levels.proofs.lemmas.PartLemmas.{range-moved, moved-grows, moved-le}
use Rattle.matrix_levels.proofs.lemmas.PrefixLemmas.{begins-more, begins-nothing, prefix-all, with_digit}

-- ---- what two lists share

pub shared-nothing : (xs ys : List ℕ) → (length xs ≡ 0) ⊎ (length ys ≡ 0) → AreShared xs ys []
shared-nothing xs ys none = record {
  rising = λ k h. absurd (omega arith);
  first = All-nil (Contains xs);
  second = All-nil (Contains ys);
  all = λ z one two. ⊎_elim (λ e. absurd (omega (arith, e, one.1))) (λ e. absurd (omega (arith, e, two.1))) none;
}

-- all items of both are one number
pub shared-one : (xs ys : List ℕ) (x : ℕ) → 0 < length xs → 0 < length ys → All (λ y. y ≡ x) xs → All (λ y. y ≡ x) ys → AreShared xs ys (x ∷ [])
shared-one xs ys x some others all also = record {
  rising = λ k h. absurd (omega arith);
  first = All-cons (Contains xs) x [] (has xs some all) (All-nil (Contains xs));
  second = All-cons (Contains ys) x [] (has ys others also) (All-nil (Contains ys));
  all = λ z one two. (0, omega arith, sym (All-contains (λ y. y ≡ x) xs z all one));
}
  where
    has : (ws : List ℕ) → 0 < length ws → All (λ y. y ≡ x) ws → Contains ws x
    has ws some all = let P : ℕ → Type 0 = λ y. Contains ws y in subst P (all 0 x some) (Contains-get_or ws 0 x some)

rising-append : (xs ys : List ℕ) → IsStrictlyIncreasing xs → IsStrictlyIncreasing ys → ((x y : ℕ) → Contains xs x → Contains ys y → x < y)
    → IsStrictlyIncreasing (xs ++ ys)
rising-append xs ys one two before k inside =
    ⊎_elim
    (λ l. omega (arith, get_or_append_left xs ys 0 k (omega arith), get_or_append_left xs ys 0 (k + 1) l, one k l))
    (λ g. ⊎_elim
    (λ here. omega (
      arith,
      get_or_append_left xs ys 0 k here,
      get_or-append_right xs ys (k + 1) 0 g,
      before (get_or xs k 0) (get_or ys (k + 1 - length xs) 0) (Contains-get_or xs k 0 here)
          (Contains-get_or ys (k + 1 - length xs) 0 (omega (arith, length-append xs ys, inside))),
    ))
    (λ past. omega (
      arith,
      get_or-append_right xs ys k 0 past,
      get_or-append_right xs ys (k + 1) 0 g,
      next (k - length xs) (k + 1 - length xs) (omega arith) (omega (arith, length-append xs ys, inside)),
    ))
    (cases_lt k (length xs)))
    (cases_lt (k + 1) (length xs))
  where
    next : (i j : ℕ) → j ≡ i + 1 → j < length ys → get_or ys i 0 < get_or ys j 0
    next i j e h = let P : ℕ → Type 0 = λ n. n < length ys → get_or ys i 0 < get_or ys n 0 in subst P (sym e) (two i) h

-- an item that a filter keeps is an item
kept-item : (p : ℕ → Bool) (xs : List ℕ) (x : ℕ) → Contains (filter p xs) x → Contains xs x
kept-item p xs x there = All-contains (Contains xs) (filter p xs) x (All-filter p (Contains xs) xs (All-contains_itself xs)) there

kept-passes : (p : ℕ → Bool) (xs : List ℕ) (x : ℕ) → Contains (filter p xs) x → p x ≡ true
kept-passes p xs x there = All-contains (λ y. p y ≡ true) (filter p xs) x (filter_passes p xs) there

-- two lists of numbers that all begin alike
module _ (b h : ℕ) (xs ys : List ℕ) (same : All (λ x. x / 2 ^ (suc b) ≡ h) xs) where
  goes-on : (v : Bool) (x : ℕ) → Contains (filter (has_digit b v) xs) x → x / 2 ^ b ≡ with_digit h v
  goes-on v x there =
      eqb-true _ _
      (begins-more b h v x
      ∙ and_from _ _ (eq-eqb _ _ (All-contains (λ y. y / 2 ^ (suc b) ≡ h) xs x same (kept-item (has_digit b v) xs x there)))
      (kept-passes (has_digit b v) xs x there))

  -- those that go on with a 0 are less than those that go on with a 1
  goes-before : (x y : ℕ) → Contains (filter (has_digit b false) xs) x → Contains (filter (has_digit b true) xs) y → x < y
  goes-before x y zero_goes one_goes =
      ⊎_elim
      (λ l. l)
      (λ g. absurd (omega (arith, goes-on false x zero_goes, goes-on true y one_goes, shr_mono b g)))
      (cases_lt x y)

  pub shared-both : (zeros ones : List ℕ) → AreShared (filter (has_digit b false) xs) (filter (has_digit b false) ys) zeros
      → AreShared (filter (has_digit b true) xs) (filter (has_digit b true) ys) ones → AreShared xs ys (zeros ++ ones)
  shared-both zeros ones z o = record {
    rising =
        rising-append zeros ones z.rising o.rising
        (λ x y there other. goes-before x y (All-contains (Contains (filter (has_digit b false) xs)) zeros x z.first there)
        (All-contains (Contains (filter (has_digit b true) xs)) ones y o.first other));
    first =
        All-append (Contains xs) zeros ones
        (All-weaker (Contains (filter (has_digit b false) xs)) (Contains xs) (kept-item (has_digit b false) xs) zeros z.first)
        (All-weaker (Contains (filter (has_digit b true) xs)) (Contains xs) (kept-item (has_digit b true) xs) ones o.first);
    second =
        All-append (Contains ys) zeros ones
        (All-weaker (Contains (filter (has_digit b false) ys)) (Contains ys) (kept-item (has_digit b false) ys) zeros z.second)
        (All-weaker (Contains (filter (has_digit b true) ys)) (Contains ys) (kept-item (has_digit b true) ys) ones o.second);
    all = λ x one two.
        ⊎_elim
        (λ e. Contains-append_right zeros ones x
        (o.all x (contains-filter (has_digit b true) xs one.0 x one.1 one.2 e) (contains-filter (has_digit b true) ys two.0 x two.1 two.2 e)))
        (λ e. let off = not_from_false _ e in
        Contains-append_left zeros ones x
        (z.all x (contains-filter (has_digit b false) xs one.0 x one.1 one.2 off) (contains-filter (has_digit b false) ys two.0 x two.1 two.2 off)))
        (cases_Bool (digit x b));
  }

-- ---- what is added to a list

pub adds-nothing : (xs ys old : List ℕ) → (length xs ≡ 0) ⊎ (length ys ≡ 0) → AddsShared xs ys old old
adds-nothing xs ys old none =
    let P : List ℕ → Type 0 = λ zs. AddsShared xs ys old zs in
    subst P (append-none old) (record {
      kept = take_at old [] (length old) refl;
      shared = let Q : List ℕ → Type 0 = AreShared xs ys in subst Q (sym (drop_at old [] (length old) refl)) (shared-nothing xs ys none);
    })
  where
    append-none : (l : List ℕ) → l ++ [] ≡ l
    append-none [] = refl
    append-none (x ∷ l) = ap (λ k. x ∷ k) (append-none l)

pub adds-these : (xs ys old new zs : List ℕ) → new ≡ old ++ zs → AreShared xs ys zs → AddsShared xs ys old new
adds-these xs ys old new zs is shared =
    let P : List ℕ → Type 0 = λ l. AddsShared xs ys old l in
    let Q : List ℕ → Type 0 = AreShared xs ys in
    subst P (sym is) (record {
      kept = take_at old zs (length old) refl;
      shared = subst Q (sym (drop_at old zs (length old) refl)) shared;
    })

added : (xs ys old new : List ℕ) → AddsShared xs ys old new → new ≡ old ++ drop (length old) new
added xs ys old new a = sym (take-append-drop (length old) new) ∙ ap (λ k. k ++ drop (length old) new) a.kept

pub adds-both : (b h : ℕ) (xs ys old mid new : List ℕ) → All (λ x. x / 2 ^ (suc b) ≡ h) xs
    → AddsShared (filter (has_digit b false) xs) (filter (has_digit b false) ys) old mid
    → AddsShared (filter (has_digit b true) xs) (filter (has_digit b true) ys) mid new → AddsShared xs ys old new
adds-both b h xs ys old mid new same z o =
    adds-these xs ys old new (drop (length old) mid ++ drop (length mid) new)
    (added _ _ mid new o ∙ ap (λ k. k ++ drop (length mid) new) (added _ _ old mid z)
    ∙ append_assoc old (drop (length old) mid) (drop (length mid) new))
    (shared-both b h xs ys same _ _ z.shared o.shared)

-- ---- the beginnings that are walked

pub prefixes-some : (xs ys : List ℕ) (b : ℕ) → 0 < length xs → 0 < length ys → shared_prefixes xs ys (suc b)
    ≡ 1 + shared_prefixes (filter (has_digit b false) xs) (filter (has_digit b false) ys) b
    + shared_prefixes (filter (has_digit b true) xs) (filter (has_digit b true) ys) b
unfolding shared_prefixes
prefixes-some xs ys b some others =
    ap (λ t. if t
    then 1 + shared_prefixes (filter (has_digit b false) xs) (filter (has_digit b false) ys) b
    + shared_prefixes (filter (has_digit b true) xs) (filter (has_digit b true) ys) b
    else 0) (and_from _ _ (lt-ltb 0 (length xs) some) (lt-ltb 0 (length ys) others))

-- ---- a range of a level

pub begin-first : (xs : List ℕ) (w s e : ℕ) → All (λ x. x < 2 ^ w) xs → s ≤ e → e ≤ length xs → BeginAlike xs w 0 0 s e
unfolding level
begin-first xs w s e fit order inside =
    let all : w - 0 ≡ w = omega arith in
    let P : ℕ → Type 0 = λ x. x / 2 ^ (w - 0) ≡ 0 in
    record {
      order = order;
      inside = inside;
      begin =
          All-take P (e - s) (drop s xs)
          (All-drop P s xs (All-weaker (λ x. x < 2 ^ w) P (λ x h. ap (λ k. x / 2 ^ k) all ∙ begins-nothing x w h) xs fit));
    }

module _ (xs : List ℕ) (w d h f l : ℕ) (n : BeginAlike xs w d h f l) where
  pub length-of-part : length (slice_range (level xs w d) f l) ≡ l - f
  length-of-part = length-range (level xs w d) f l n.order (omega (arith, n.inside, length-level xs w d))

  -- all are the number after the last level
  pub begin-last : d ≡ w → All (λ x. x ≡ h) (slice_range (level xs w d) f l)
  begin-last e =
      All-weaker (λ x. x / 2 ^ (w - d) ≡ h) (λ x. x ≡ h) (λ x is. sym (prefix-all x w d e) ∙ is) (slice_range (level xs w d) f l) n.begin

  module _ (less : d < w) where
    pub begin-suc : All (λ x. x / 2 ^ (suc (w - 1 - d)) ≡ h) (slice_range (level xs w d) f l)
    begin-suc =
        let same : w - d ≡ suc (w - 1 - d) = omega arith in
        let P : ℕ → Type 0 = λ k. All (λ x. x / 2 ^ k ≡ h) (slice_range (level xs w d) f l) in
        subst P same n.begin

    module _ (v : Bool) (s e : ℕ) (at : ArePositionsAfter (w - 1 - d) v (level xs w d) f l s e) where
      pub part-next : slice_range (level xs w (d + 1)) s e ≡ filter (has_digit (w - 1 - d) v) (slice_range (level xs w d) f l)
      unfolding level
      part-next =
          ap (λ k. slice_range (level xs w k) s e) (add-one d)
          ∙ ap (λ k. slice_range (level xs w (suc d)) k e) at.0
          ∙ ap (λ k. slice_range (level xs w (suc d)) (partition_position (w - 1 - d) v (level xs w d) f) k) at.1
          ∙ range-moved (w - 1 - d) v (level xs w d) f l n.order

      pub begin-next : BeginAlike xs w (d + 1) (with_digit h v) s e
      begin-next =
          let b = w - 1 - d in
          let there : w - (d + 1) ≡ b = omega arith in
          let P : ℕ → Type 0 = λ x. x / 2 ^ (w - (d + 1)) ≡ with_digit h v in
          let kept = filter (has_digit b v) (slice_range (level xs w d) f l) in
          record {
            order = omega (arith, at.0, at.1, moved-grows b v (level xs w d) f l n.order);
            inside = omega (arith, at.1, moved-le b v (level xs w d) l, length-level xs w d);
            begin =
                All-same P _ kept part-next
                (All-weaker (Contains kept) P
                (λ x has. ap (λ k. x / 2 ^ k) there ∙ goes-on b h (slice_range (level xs w d) f l) [] begin-suc v x has) kept
                (All-contains_itself kept));
          }

-- the same by a list and a beginning that are these
pub begin-there : (xs ys : List ℕ) (w d h k f l s e : ℕ) (v : Bool) → BeginAlike xs w d h f l → d < w → ys ≡ xs → k ≡ with_digit h v
    → ArePositionsAfter (w - 1 - d) v (level xs w d) f l s e → BeginAlike ys w (d + 1) k s e
begin-there xs ys w d h k f l s e v n less same is at =
    let P : List ℕ → Type 0 = λ zs. BeginAlike zs w (d + 1) k s e in
    let Q : ℕ → Type 0 = λ m. BeginAlike xs w (d + 1) m s e in
    subst P (sym same) (subst Q (sym is) (begin-next xs w d h f l n less v s e at))

-- one digit more fits
pub more-fits : (h d : ℕ) → h < 2 ^ d → (2 * h < 2 ^ (d + 1)) × (2 * h + 1 < 2 ^ (d + 1))
more-fits h d small =
    let double : 2 ^ (d + 1) ≡ 2 * 2 ^ d = ap (λ n. 2 ^ n) (add-one d) ∙ pow-succ' 2 d in
    (omega arith, omega arith)

-- ---- two ranges of a level, and where their items stand at the next

module _ (xs : List ℕ) (w d h f l p q : ℕ) (n : BeginAlike xs w d h f l) (o : BeginAlike xs w d h p q) (less : d < w)
    (f0 l0 p0 q0 f1 l1 p1 q1 : ℕ)
    (zeros : ArePositionsAfter (w - 1 - d) false (level xs w d) f l f0 l0) (others0 : ArePositionsAfter (w - 1 - d) false (level xs w d) p q p0 q0)
    (ones : ArePositionsAfter (w - 1 - d) true (level xs w d) f l f1 l1) (others1 : ArePositionsAfter (w - 1 - d) true (level xs w d) p q p1 q1) where
  -- what both add is what the two ranges share
  pub walk-adds : (old mid new : List ℕ)
      → AddsShared (slice_range (level xs w (d + 1)) f0 l0) (slice_range (level xs w (d + 1)) p0 q0) old mid
      → AddsShared (slice_range (level xs w (d + 1)) f1 l1) (slice_range (level xs w (d + 1)) p1 q1) mid new
      → AddsShared (slice_range (level xs w d) f l) (slice_range (level xs w d) p q) old new
  walk-adds old mid new first next =
      let Z : List ℕ → Type 0 = λ a. AddsShared a (slice_range (level xs w (d + 1)) p0 q0) old mid in
      let Y : List ℕ → Type 0 = λ b. AddsShared (filter (has_digit (w - 1 - d) false) (slice_range (level xs w d) f l)) b old mid in
      let O : List ℕ → Type 0 = λ a. AddsShared a (slice_range (level xs w (d + 1)) p1 q1) mid new in
      let N : List ℕ → Type 0 = λ b. AddsShared (filter (has_digit (w - 1 - d) true) (slice_range (level xs w d) f l)) b mid new in
      adds-both (w - 1 - d) h (slice_range (level xs w d) f l) (slice_range (level xs w d) p q) old mid new
      (begin-suc xs w d h f l n less)
      (subst Y (part-next xs w d h p q o less false p0 q0 others0) (subst Z (part-next xs w d h f l n less false f0 l0 zeros) first))
      (subst N (part-next xs w d h p q o less true p1 q1 others1) (subst O (part-next xs w d h f l n less true f1 l1 ones) next))

  -- the beginnings that are walked are one, and those of both halves
  pub walk-prefixes : f < l → p < q
      → shared_prefixes (slice_range (level xs w d) f l) (slice_range (level xs w d) p q) (w - d)
      ≡ 1 + shared_prefixes (slice_range (level xs w (d + 1)) f0 l0) (slice_range (level xs w (d + 1)) p0 q0) (w - (d + 1))
      + shared_prefixes (slice_range (level xs w (d + 1)) f1 l1) (slice_range (level xs w (d + 1)) p1 q1) (w - (d + 1))
  walk-prefixes some others =
      let b = w - 1 - d in
      let here : w - d ≡ suc b = omega arith in
      let there : b ≡ w - (d + 1) = omega arith in
      let xs0 = slice_range (level xs w d) f l in
      let ys0 = slice_range (level xs w d) p q in
      ap (shared_prefixes xs0 ys0) here
      ∙ prefixes-some xs0 ys0 b (omega (arith, length-of-part xs w d h f l n, some)) (omega (arith, length-of-part xs w d h p q o, others))
      ∙ ap (λ k. 1 + shared_prefixes (filter (has_digit b false) xs0) (filter (has_digit b false) ys0) k
      + shared_prefixes (filter (has_digit b true) xs0) (filter (has_digit b true) ys0) k) there
      ∙ sym (ap (λ k. 1 + k + shared_prefixes (slice_range (level xs w (d + 1)) f1 l1) (slice_range (level xs w (d + 1)) p1 q1) (w - (d + 1)))
      (half false f0 l0 p0 q0 zeros others0)
      ∙ ap (λ k. 1 + shared_prefixes (filter (has_digit b false) xs0) (filter (has_digit b false) ys0) (w - (d + 1)) + k)
      (half true f1 l1 p1 q1 ones others1))
    where
      half : (v : Bool) (s e t u : ℕ) → ArePositionsAfter (w - 1 - d) v (level xs w d) f l s e → ArePositionsAfter (w - 1 - d) v (level xs w d) p q t u
          → shared_prefixes (slice_range (level xs w (d + 1)) s e) (slice_range (level xs w (d + 1)) t u) (w - (d + 1))
          ≡ shared_prefixes (filter (has_digit (w - 1 - d) v) (slice_range (level xs w d) f l))
          (filter (has_digit (w - 1 - d) v) (slice_range (level xs w d) p q)) (w - (d + 1))
      half v s e t u a b =
          ap (λ k. shared_prefixes k (slice_range (level xs w (d + 1)) t u) (w - (d + 1))) (part-next xs w d h f l n less v s e a)
          ∙ ap (λ k. shared_prefixes (filter (has_digit (w - 1 - d) v) (slice_range (level xs w d) f l)) k (w - (d + 1)))
          (part-next xs w d h p q o less v t u b)

-- ---- the first level

pub shared-first : (xs : List ℕ) (w f l p q : ℕ) (old new : List ℕ) → old ≡ []
    → AddsShared (slice_range (level xs w 0) f l) (slice_range (level xs w 0) p q) old new → AreShared (slice_range xs f l) (slice_range xs p q) new
unfolding level
shared-first xs w f l p q old new none a =
    let P : List ℕ → Type 0 = λ o. AreShared (slice_range xs f l) (slice_range xs p q) (drop (length o) new) in
    subst P none a.shared

pub prefixes-first : (xs : List ℕ) (w f l p q : ℕ)
    → shared_prefixes (slice_range (level xs w 0) f l) (slice_range (level xs w 0) p q) (w - 0) ≡ shared_prefixes (slice_range xs f l) (slice_range xs p q) w
unfolding level
prefixes-first xs w f l p q =
    let all : w - 0 ≡ w = omega arith in
    ap (shared_prefixes (slice_range xs f l) (slice_range xs p q)) all

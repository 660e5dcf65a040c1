-- The table of starts: numbers that begin with the same digits start at the same position.
use Rattle.std.proofs.Common.{◌≡◌, ℕ, zero, suc, ◌+◌, ◌-◌, ◌*◌, ◌/◌, ◌^◌, ◌<◌, ◌≤◌, List, [], ◌∷◌, get_or, refl, sym, ap, ◌∙◌, subst, arith, ◌%◌, ◌==◌, ⊎_elim}
use Rattle.std.proofs.lemmas.Bool.{cases_lt}
use Rattle.std.proofs.Math.Nat.{div-lt_iff_lt-mul, mod-eq_of_lt, mul-div_cancel, mul-le-mul_right, pow-le-pow_right}
use Rattle.std.proofs.lemmas.Nat.{pow-add, pow_pos, shr-shr}
use Rattle.bit_lists.specs.Bits.{digit}
use Rattle.matrix_levels.specs.Levels.{level, level_position, partition_position}
use Rattle.matrix_levels.proofs.lemmas.PrefixLemmas.{begins-nothing}

-- numbers with the same first d digits stand at the same position after them
level_position-alike : (xs : List ℕ) (w x y d p : ℕ) → ((j : ℕ) → j < d → digit x (w - 1 - j) ≡ digit y (w - 1 - j))
    → level_position xs w x d p ≡ level_position xs w y d p
unfolding level_position
level_position-alike xs w x y zero p same = refl
level_position-alike xs w x y (suc d) p same =
    ap (λ v. partition_position (w - 1 - d) v (level xs w d) (level_position xs w x d p)) (same d (omega arith))
    ∙ ap (partition_position (w - 1 - d) (digit y (w - 1 - d)) (level xs w d)) (level_position-alike xs w x y d p (λ j h. same j (omega (arith, h))))

-- a number without its b lowest digits has the others
digit-without : (x b j : ℕ) → b ≤ j → digit (x / 2 ^ b * 2 ^ b) j ≡ digit x j
digit-without x b j h =
    let m = j - b in
    let e : b + m ≡ j = omega (arith, h) in
    let same : (x / 2 ^ b * 2 ^ b) / 2 ^ (b + m) ≡ x / 2 ^ (b + m) =
    sym (shr-shr (x / 2 ^ b * 2 ^ b) b m) ∙ ap (λ k. k / 2 ^ m) (mul-div_cancel (x / 2 ^ b) (pow_pos b)) ∙ shr-shr x b m in
    ap (λ k. k % 2 == 1) (ap (λ k. (x / 2 ^ b * 2 ^ b) / 2 ^ k) (sym e) ∙ same ∙ ap (λ k. x / 2 ^ k) e)

-- the known digits alone say where a number starts
pub start-alike : (xs : List ℕ) (w x d : ℕ) → d ≤ w → level_position xs w (x / 2 ^ (w - d) * 2 ^ (w - d)) d 0 ≡ level_position xs w x d 0
start-alike xs w x d most =
    level_position-alike xs w _ x d 0 (λ j less. digit-without x (w - d) (w - 1 - j) (omega (arith, less, most)))

-- there are no more beginnings than numbers of so many digits
pub begin-inside : (x w d : ℕ) → d ≤ w → x < 2 ^ w → x / 2 ^ (w - d) < 2 ^ d
begin-inside x w d most fit =
    let e : d + (w - d) ≡ w = omega (arith, most) in
    (div-lt_iff_lt-mul {k = 2 ^ (w - d)} {x = x} {y = 2 ^ d} (pow_pos (w - d))).1
    (let P : ℕ → Type 0 = λ k. x < k in subst P (ap (λ k. 2 ^ k) (sym e) ∙ pow-add 2 d (w - d)) fit)

-- where the start of each beginning is kept, that of each number is
pub starts-from-begins : (xs : List ℕ) (w d : ℕ) (starts : List ℕ) → d ≤ w
    → ((h : ℕ) → h < 2 ^ d → get_or starts h 0 ≡ level_position xs w (h * 2 ^ (w - d)) d 0)
    → (x : ℕ) → x < 2 ^ w → get_or starts (x / 2 ^ (w - d)) 0 ≡ level_position xs w x d 0
starts-from-begins xs w d starts most each x fit = each (x / 2 ^ (w - d)) (begin-inside x w d most fit) ∙ start-alike xs w x d most

-- with no digits known all numbers start at position 0
pub starts-of-none : (xs : List ℕ) (w : ℕ) (x : ℕ) → x < 2 ^ w → get_or (0 ∷ []) (x / 2 ^ (w - 0)) 0 ≡ level_position xs w x 0 0
unfolding level_position
starts-of-none xs w x fit =
    let all : w - 0 ≡ w = omega arith in
    ap (λ k. get_or (0 ∷ []) k 0) (ap (λ k. x / 2 ^ k) all ∙ begins-nothing x w fit)

-- a beginning as the number that has zeros after it: of no digits there is one
begin-shifted : (h w d : ℕ) → d ≤ w → w ≤ 64 → h < 2 ^ d → h * 2 ^ ((w - d) % 64) % 2 ^ 64 ≡ h * 2 ^ (w - d)
begin-shifted h w d most width less =
    ⊎_elim
    (λ small. let few : (w - d) % 64 ≡ w - d = mod-eq_of_lt small in
    let e : d + (w - d) ≡ w = omega (arith, most) in
    let fits : h * 2 ^ (w - d) < 2 ^ 64 =
    omega (
      arith,
      mul-le-mul_right (2 ^ (w - d)) (let next : h + 1 ≤ 2 ^ d = omega (arith, less) in next),
      pow_pos (w - d),
      sym (pow-add 2 d (w - d)) ∙ ap (λ k. 2 ^ k) e,
      pow-le-pow_right {n = 2} (omega arith) width,
    ) in
    ap (λ k. h * 2 ^ k % 2 ^ 64) few ∙ mod-eq_of_lt fits)
    (λ large. let none : d ≡ 0 = omega (arith, large, width) in
    let zero : h ≡ 0 = let P : ℕ → Type 0 = λ k. h < 2 ^ k in omega (arith, subst P none less) in
    let nothing : 0 * 2 ^ ((w - d) % 64) % 2 ^ 64 ≡ 0 * 2 ^ (w - d) = omega arith in
    ap (λ k. k * 2 ^ ((w - d) % 64) % 2 ^ 64) zero ∙ nothing ∙ sym (ap (λ k. k * 2 ^ (w - d)) zero))
    (cases_lt (w - d) 64)

-- where such a number was found to start, over the same numbers
pub start-of-begin : (xs ys : List ℕ) (w d h rest n r : ℕ) → ys ≡ xs → d ≤ w → w ≤ 64 → h < 2 ^ d → rest ≡ (w - d) % 64 → n ≡ h * 2 ^ rest % 2 ^ 64
    → ((p : ℕ) → 0 ≡ level_position ys w n 0 p → r ≡ level_position ys w n d p) → r ≡ level_position xs w (h * 2 ^ (w - d)) d 0
unfolding level_position
start-of-begin xs ys w d h rest n r same most width less shift is found =
    found 0 refl
    ∙ ap (λ l. level_position l w n d 0) same
    ∙ ap (λ k. level_position xs w k d 0) (is ∙ ap (λ k. h * 2 ^ k % 2 ^ 64) shift ∙ begin-shifted h w d most width less)

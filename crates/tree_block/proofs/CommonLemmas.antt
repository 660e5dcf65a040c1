-- What two words share.
use Rattle.std.proofs.Common.{◌≡◌, ℕ, zero, suc, ◌+◌, ◌<◌, ◌≤◌, ◌==◌, eqb, List, [], ◌∷◌, length, get_or, refl, ⊎_elim, arith, eq-eqb}
use Rattle.std.proofs.lemmas.Bool.{cases_eq, cond-false, cond-true, ne_eqb}
use Rattle.std.proofs.lemmas.List.Sums.{common_prefix_len-le}
use Rattle.tree_block.specs.Words.{common}

pub common_left : (u v : List ℕ) → common u v ≤ length u
unfolding common
common_left u v = (common_prefix_len-le (λ x y. x == y) u v).0

pub common_right : (u v : List ℕ) → common u v ≤ length v
unfolding common
common_right u v = (common_prefix_len-le (λ x y. x == y) u v).1

-- one letter more
common_cons : (x y : ℕ) (u v : List ℕ) → x ≡ y → common (x ∷ u) (y ∷ v) ≡ 1 + common u v
unfolding common
common_cons x y u v e = cond-true (eqb x y) _ _ (eq-eqb x y e)

common_stops : (x y : ℕ) (u v : List ℕ) → (x ≡ y → ⊥) → common (x ∷ u) (y ∷ v) ≡ 0
unfolding common
common_stops x y u v e = cond-false (eqb x y) _ _ (ne_eqb x y e)

common_nil : (v : List ℕ) → common [] v ≡ 0
unfolding common
common_nil v = refl

common_nil_right : (u : List ℕ) → common u [] ≡ 0
unfolding common
common_nil_right [] = refl
common_nil_right (x ∷ u) = refl

-- the letters that are shared are the same
pub common_same : (u v : List ℕ) (t : ℕ) → t < common u v → get_or u t 0 ≡ get_or v t 0
common_same [] v t less = absurd (omega (arith, less, common_nil v))
common_same (x ∷ u) [] t less = absurd (omega (arith, less, common_nil_right (x ∷ u)))
common_same (x ∷ u) (y ∷ v) zero less =
    ⊎_elim (λ e. e) (λ ne. absurd (omega (arith, less, common_stops x y u v ne))) (cases_eq x y)
common_same (x ∷ u) (y ∷ v) (suc t) less =
    ⊎_elim
    (λ e. common_same u v t (omega (arith, less, common_cons x y u v e)))
    (λ ne. absurd (omega (arith, less, common_stops x y u v ne)))
    (cases_eq x y)

-- letters up to one that is not the same, or to the end of a word, are those that are shared
pub common_is : (u v : List ℕ) (l : ℕ) → l ≤ length u → l ≤ length v → ((t : ℕ) → t < l → get_or u t 0 ≡ get_or v t 0)
    → (l < length u → l < length v → get_or u l 0 ≡ get_or v l 0 → ⊥) → common u v ≡ l
common_is [] v l in_u in_v same stops =
    let z : length {A = ℕ} [] ≡ 0 = refl in
    omega (arith, common_nil v, z, in_u)
common_is (x ∷ u) [] l in_u in_v same stops =
    let z : length {A = ℕ} [] ≡ 0 = refl in
    omega (arith, common_nil_right (x ∷ u), z, in_v)
common_is (x ∷ u) (y ∷ v) zero in_u in_v same stops =
    common_stops x y u v (λ e. stops (omega arith) (omega arith) e)
common_is (x ∷ u) (y ∷ v) (suc l) in_u in_v same stops =
    let su : length (x ∷ u) ≡ suc (length u) = refl in
    let sv : length (y ∷ v) ≡ suc (length v) = refl in
    let rest = common_is u v l (omega (arith, in_u, su)) (omega (arith, in_v, sv)) (λ t less. same (suc t) (omega (arith, less)))
    (λ more_u more_v e. stops (omega (arith, more_u, su)) (omega (arith, more_v, sv)) e) in
    omega (arith, rest, common_cons x y u v (same 0 (omega arith)))

-- Ways up: each step is to a node of a lower number.
use Rattle.std.proofs.Common.{◌≡◌, ◌↔◌, IsTrue, eqb, ℕ, zero, suc, ◌+◌, ◌-◌, ◌<◌, ◌≤◌, List, length, take, refl, sym, ap, arith, subst, ⊎_elim}
use Rattle.std.proofs.lemmas.Bool.{cases_lt, eq-eqb, eqb-true}
use Rattle.std.specs.List.{sum}
use Rattle.louds.proofs.lemmas.TreeLemmas.{find, one_parent, parent_of, sum_more, sum_order}
use Rattle.louds.specs.Above.{AreBelow, IsAbove, IsAncestor, IsClimbed}
use Rattle.louds.specs.Held.{zero_position}
use Rattle.louds.specs.Laws.{OneDepth}
use Rattle.louds.specs.Tree.{IsChild, IsTree}

-- one level more at the upper end
pub above_more : (d : List ℕ) (n i k a v : ℕ) → IsChild d i k a → IsAbove d n a v → IsAbove d (suc n) i v
above_more d zero i k a v c is = (i, k, subst (λ (x : ℕ). IsChild d i k x) is c, refl)
above_more d (suc n) i k a v c up = (up.0, up.1, up.2, above_more d n i k a up.0 c up.3)

pub ancestor_more : (d : List ℕ) (i k a v : ℕ) → IsChild d i k a → IsAncestor d a v → IsAncestor d i v
ancestor_more d i k a v c up = (suc up.0, above_more d up.0 i k a v c up.1)

-- a way on from the end of a way
pub above_join : (d : List ℕ) (n m x a v : ℕ) → IsAbove d m x a → IsAbove d n a v → IsAncestor d x v
above_join d zero m x a v far is = (m, subst (λ (y : ℕ). IsAbove d m x y) is far)
above_join d (suc n) m x a v far up = let rest = above_join d n m x a up.0 far up.3 in (suc rest.0, (up.0, up.1, up.2, rest.1))

pub ancestor_join : (d : List ℕ) (x a v : ℕ) → IsAncestor d x a → IsAncestor d a v → IsAncestor d x v
ancestor_join d x a v far near = above_join d near.0 far.0 x a v far.1 near.1

-- one that is not the node stands above its parent
pub ancestor_of_parent : (d : List ℕ) (i k x v : ℕ) → IsChild d i k v → (x ≡ v → ⊥) → IsAncestor d x v → IsAncestor d x i
ancestor_of_parent d i k x v c other up = of up.0 up.1
  where
    of : (n : ℕ) → IsAbove d n x v → IsAncestor d x i
    of zero is = absurd (other is)
    of (suc n) more =
        let same = one_parent d more.0 i more.1 k v more.2 c in
        (n, subst (λ (y : ℕ). IsAbove d n x y) same.0 more.3)

-- no child has the number 0
pub root_is_no_child : (d : List ℕ) (i k : ℕ) → IsChild d i k 0 → ⊥
root_is_no_child d i k c = omega (arith, c.number)

-- a node has one depth
pub one_depth : OneDepth
one_depth d zero zero v up down = refl
one_depth d zero (suc m) v is down =
    absurd (root_is_no_child d down.0 down.1 (subst (λ (x : ℕ). IsChild d down.0 down.1 x) (sym is) down.2))
one_depth d (suc n) zero v up is =
    absurd (root_is_no_child d up.0 up.1 (subst (λ (x : ℕ). IsChild d up.0 up.1 x) (sym is) up.2))
one_depth d (suc n) (suc m) v up down =
    let same = one_parent d up.0 down.0 up.1 down.1 v up.2 down.2 in
    ap suc (one_depth d n m down.0 (subst (λ (x : ℕ). IsAbove d n 0 x) same.0 up.3) down.3)

-- in a tree those above a node have no greater numbers
pub above_low : (d : List ℕ) (n a v : ℕ) → IsTree d → v < length d → IsAbove d n a v → a ≤ v
above_low d zero a v tree inside is = omega (arith, is)
above_low d (suc n) a v tree inside up =
    let p = parent_of d v tree (omega (arith, up.2.number)) inside in
    let same = one_parent d p.0 up.0 p.1 up.1 v p.3 up.2 in
    let less : up.0 < v = omega (arith, same.0, p.2) in
    omega (arith, above_low d n a up.0 tree (omega arith) up.3)

pub ancestor_low : (d : List ℕ) (a v : ℕ) → IsTree d → v < length d → IsAncestor d a v → a ≤ v
ancestor_low d a v tree inside up = above_low d up.0 a v tree inside up.1

-- ---- down

-- the children of the nodes between are those between
pub below_between : (d : List ℕ) (a b first past : ℕ) → a ≤ b → b ≤ length d → first + a ≡ zero_position d a → past + b ≡ zero_position d b
    → AreBelow d a b first past
below_between d a b first past order inside from to v = (
  (λ h.
      let low : sum (take a d) < v = omega (arith, h.0, from) in
      let f = find d v b (omega arith) (omega (arith, h.1, to)) inside in
      let i = f.0 in
      let less : i < length d = omega (arith, f.1) in (
        i,
        v - 1 - sum (take i d),
        ⊎_elim (λ early. absurd (late i low early f.3)) (λ le. le) (cases_lt i a),
        f.1,
        record {
          node = less;
          some = omega (arith, f.2, f.3, sum_more d i less);
          number = omega (arith, f.2);
        },
      )),
  (λ h.
      let i = h.0 in
      let c = h.4 in (
        omega (arith, c.number, from, sum_order d a i h.2 (omega (arith, c.node))),
        omega (arith, c.number, c.some, to, sum_more d i c.node, sum_order d (i + 1) b (omega (arith, h.3)) inside),
      )),
)
  where
    late : (i : ℕ) → sum (take a d) < v → i < a → v ≤ sum (take (i + 1) d) → ⊥
    late i low early high = omega (arith, low, high, sum_order d (i + 1) a (omega arith) (omega arith))

-- ---- climbing

-- the first node on the way up with a number up to that of a node is this one exactly where this one is on the way
pub climbed_is : (d : List ℕ) (v b a : ℕ) → IsTree d → v < length d → IsClimbed d v b a → IsTrue (eqb a b) ↔ IsAncestor d b v
climbed_is d v b a tree inside h = (
  (λ is. subst (λ (x : ℕ). IsAncestor d x v) (eqb-true a b is) h.above),
  (λ far.
      let here = h.first b (omega arith) far in
      let low : a ≤ v = ancestor_low d a v tree inside h.above in
      eq-eqb a b (omega (arith, h.low, ancestor_low d b a tree (omega arith) here))),
)

-- one of two nodes is climbed from, to a number up to that of the other: all common ancestors are kept
pub common_kept : (d : List ℕ) (u w a x : ℕ) → IsTree d → w < length d → IsClimbed d u w a → IsAncestor d x u → IsAncestor d x w → IsAncestor d x a
common_kept d u w a x tree inside h near far = h.first x (ancestor_low d x w tree inside far) near

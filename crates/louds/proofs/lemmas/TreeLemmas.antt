-- Nodes, their children and their parents, by sums of degrees.
use Rattle.std.proofs.Common.{◌≡◌, ℕ, zero, suc, ◌+◌, ◌-◌, ◌<◌, ◌≤◌, List, length, take, get_or, refl, ap, ⊎_elim, arith}
use Rattle.std.proofs.lemmas.Bool.{cases_lt, cases_order}
use Rattle.std.proofs.lemmas.List.{take_all}
use Rattle.std.proofs.lemmas.List.Sums.{sum_by_more, sum_by-take-le}
use Rattle.std.specs.List.{sum}
use Rattle.louds.specs.Held.{zero_position}
use Rattle.louds.specs.Laws.{OneParent, TreesHaveParents}
use Rattle.louds.specs.Tree.{AreChildren, IsChild, IsTree}

-- one node more
pub sum_more : (d : List ℕ) (i : ℕ) → i < length d → sum (take (i + 1) d) ≡ sum (take i d) + get_or d i 0
sum_more d i inside = sum_by_more (λ x. x) d i 0 inside

-- a part of the sum
pub sum_part : (d : List ℕ) (i : ℕ) → sum (take i d) ≤ sum d
sum_part d i = sum_by-take-le (λ x. x) d i

-- all of it
pub sum_all : (d : List ℕ) (n : ℕ) → n ≡ length d → sum (take n d) ≡ sum d
sum_all d n e = ap sum (take_all n d (omega arith))

pub sum_grows : (d : List ℕ) (i m : ℕ) → i + m ≤ length d → sum (take i d) ≤ sum (take (i + m) d)
sum_grows d i zero inside = let e : i + 0 ≡ i = omega arith in omega (arith, ap (λ k. sum (take k d)) e)
sum_grows d i (suc m) inside =
    let e : i + suc m ≡ i + m + 1 = omega arith in
    omega (arith, ap (λ k. sum (take k d)) e, sum_more d (i + m) (omega arith), sum_grows d i m (omega arith))

pub sum_order : (d : List ℕ) (i j : ℕ) → i ≤ j → j ≤ length d → sum (take i d) ≤ sum (take j d)
sum_order d i j order inside =
    let e : i + (j - i) ≡ j = omega arith in
    omega (arith, ap (λ k. sum (take k d)) e, sum_grows d i (j - i) (omega arith))

-- the zero after the ones of a node
pub zero_position_more : (d : List ℕ) (i : ℕ) → i < length d → zero_position d (i + 1) ≡ zero_position d i + 1 + get_or d i 0
zero_position_more d i inside = omega (arith, sum_more d i inside)

-- the node among whose children the v-th of all is
pub find : (d : List ℕ) (v m : ℕ) → 0 < v → v ≤ sum (take m d) → m ≤ length d
    → (i : ℕ) × (i < m) × (sum (take i d) < v) × (v ≤ sum (take (i + 1) d))
find d v zero some low inside = let e : sum (take 0 d) ≡ 0 = refl in absurd (omega (arith, e))
find d v (suc m) some low inside =
    let next : suc m ≡ m + 1 = omega arith in
    let here : v ≤ sum (take (m + 1) d) = omega (arith, ap (λ k. sum (take k d)) next) in
    ⊎_elim
    (λ less. (m, omega arith, less, here))
    (λ early. let f = find d v m some early (omega arith) in (f.0, omega (arith, f.1), f.2, f.3))
    (cases_lt (sum (take m d)) v)

-- each node but the root is a child of a node before it
pub parent_of : (d : List ℕ) (v : ℕ) → IsTree d → 0 < v → v < length d → (i : ℕ) × (k : ℕ) × (i < v) × IsChild d i k v
parent_of d v tree some inside =
    let f = find d v (length d) some (omega (arith, tree.count, sum_all d (length d) refl)) (omega arith) in
    let i = f.0 in
    let within : i < length d = f.1 in
    let more = sum_more d i within in (
      i,
      v - 1 - sum (take i d),
      ⊎_elim (λ less. less) (λ le. absurd (late i within f.2 le)) (cases_lt i v),
      record {
        node = within;
        some = omega (arith, f.2, f.3, more);
        number = omega (arith, f.2);
      },
    )
  where
    late : (i : ℕ) → i < length d → sum (take i d) < v → v ≤ i → ⊥
    late i within less le =
        let own : i ≤ sum (take i d) = tree.parents i (omega arith) within in
        omega arith

-- no two nodes have a child of one number
not_before : (d : List ℕ) (i k j l v : ℕ) → IsChild d i k v → IsChild d j l v → i < j → ⊥
not_before d i k j l v a b less =
    omega (arith, a.some, a.number, b.number, sum_more d i a.node, sum_order d (i + 1) j (omega arith) (omega (arith, b.node)))

pub one_parent : OneParent
one_parent d i j k l v a b =
    let same : i ≡ j = ⊎_elim (λ e. e) (λ apart. absurd (⊎_elim (not_before d i k j l v a b) (not_before d j l i k v b a) apart)) (cases_order i j) in
    (same, omega (arith, a.number, b.number, ap (λ x. sum (take x d)) same))

-- and where each has one, the sums are those of a tree
pub trees_have_parents : TreesHaveParents
trees_have_parents d = (
  (λ tree. (tree.count, λ v some inside. parent_of d v tree some inside)),
  (λ h. record {
    count = h.0;
    parents = λ v some inside.
        let p = h.1 v some inside in
        let child = p.3 in
        let more = sum_more d p.0 child.node in
        omega (arith, child.number, child.some, more, sum_order d (p.0 + 1) v (omega (arith, p.2)) (omega arith));
  }),
)

-- the children of a node stand side by side
pub children_of : (d : List ℕ) (i first past : ℕ) → i < length d → first + i ≡ zero_position d i → past + i + 1 ≡ zero_position d (i + 1)
    → AreChildren d i first past
children_of d i first past inside from to = record {
  count = omega (arith, from, to, zero_position_more d i inside);
  each = λ k some. record { node = inside; some = some; number = omega (arith, from) };
}

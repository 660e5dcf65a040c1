-- Counting how often each node is a parent.
use Rattle.std.proofs.Common.{◌≡◌, ℕ, zero, suc, ◌+◌, ◌-◌, ◌<◌, ◌≤◌, List, length, take, get_or, set, sym, ap, ⊎_elim, arith, subst, length-set, length-take, get_or-set_same, get_or-set_other}
use Rattle.std.proofs.Math.Seq.{take-set-lt}
use Rattle.std.proofs.lemmas.Bool.{cases_eq, cases_lt}
use Rattle.std.proofs.lemmas.List.{get_or-take, take-set-le}
use Rattle.std.proofs.lemmas.List.Sums.{sum_by-set}
use Rattle.std.specs.List.{sum}
use Rattle.louds.proofs.lemmas.TreeLemmas.{sum_more, trees_have_parents}
use Rattle.louds.specs.Parents.{AreParents, HasParents}
use Rattle.louds.specs.Tree.{IsChild, IsTree}

-- one item of those summed is another number
sum_set : (g : List ℕ) (i x q : ℕ) → i < q → q ≤ length g → sum (take q (set g i x)) + get_or g i 0 ≡ sum (take q g) + x
sum_set g i x q before inside =
    let there : i < length (take q g) = omega (arith, length-take q g) in
    let same : sum (take q (set g i x)) ≡ sum (set (take q g) i x) = ap sum (take-set-lt q g i x before) in
    let item : get_or (take q g) i 0 ≡ get_or g i 0 = get_or-take q g i 0 before in
    omega (arith, same, item, sum_by-set (λ x. x) (take q g) i x 0 there)

-- the parents rise
rises : (ps : List ℕ) (u m : ℕ) → AreParents ps → u + m < length ps → get_or ps u 0 ≤ get_or ps (u + m) 0
rises ps u zero are inside = let e : u + 0 ≡ u = omega arith in omega (arith, ap (λ k. get_or ps k 0) e)
rises ps u (suc m) are inside =
    let e : u + suc m ≡ u + m + 1 = omega arith in
    omega (arith, ap (λ k. get_or ps k 0) e, are.rising (u + m) (omega arith), rises ps u m are (omega arith))

rise : (ps : List ℕ) (u v : ℕ) → AreParents ps → u ≤ v → v < length ps → get_or ps u 0 ≤ get_or ps v 0
rise ps u v are order inside =
    let e : u + (v - u) ≡ v = omega arith in
    omega (arith, ap (λ k. get_or ps k 0) e, rises ps u (v - u) are (omega arith))

-- the first m parents are counted in g: each of their children has its number, and from the last of them on there is none
pub record IsCounted (ps : List ℕ) (m : ℕ) (g : List ℕ) : Type 0 where
  pub len : length g ≡ length ps + 1
  pub each : (v : ℕ) → v < m → (k : ℕ) × IsChild g (get_or ps v 0) k (v + 1)
  pub all : sum g ≡ m
  pub low : (q : ℕ) → ((v : ℕ) → v < m → get_or ps v 0 ≤ q) → q < length g → sum (take (q + 1) g) ≡ m

pub counted_more : (ps : List ℕ) (m p : ℕ) (g : List ℕ) → AreParents ps → m < length ps → p ≡ get_or ps m 0 → IsCounted ps m g
    → IsCounted ps (m + 1) (set g p (get_or g p 0 + 1))
counted_more ps m p g are inside is h = record {
  len = omega (arith, h.len, length-set g p x);
  each = λ v less. ⊎_elim (early v) (late v less) (cases_lt v m);
  all = omega (arith, sum_by-set (λ x. x) g p x 0 within, h.all);
  low = λ q above less.
      let less_old : q < length g = omega (arith, length-set g p x) in
      let here : p ≤ q = omega (arith, above m (omega arith)) in
      omega (
        arith,
        sum_set g p x (q + 1) (omega arith) (omega arith),
        h.low q (λ v old. above v (omega arith)) less_old,
      );
}
  where
    x : ℕ
    x = get_or g p 0 + 1

    within : p < length g
    within = omega (arith, h.len, are.before m inside)

    early : (v : ℕ) → v < m → (k : ℕ) × IsChild (set g p x) (get_or ps v 0) k (v + 1)
    early v old =
        let had = h.each v old in
        let i = get_or ps v 0 in
        let c = had.1 in
        let order : i ≤ p = omega (arith, rise ps v m are (omega arith) inside) in
        let more : get_or g i 0 ≤ get_or (set g p x) i 0 =
        ⊎_elim
        (λ same. omega (arith, ap (λ j. get_or g j 0) same, ap (λ j. get_or (set g p x) j 0) same, get_or-set_same g p x 0 within))
        (λ other. omega (arith, get_or-set_other g p i x 0 other))
        (cases_eq i p) in (
          had.0,
          record {
            node = omega (arith, c.node, length-set g p x);
            some = omega (arith, c.some, more);
            number = omega (arith, c.number, ap sum (take-set-le i g p x order));
          },
        )

    late : (v : ℕ) → v < m + 1 → m ≤ v → (k : ℕ) × IsChild (set g p x) (get_or ps v 0) k (v + 1)
    late v less from =
        let at : v ≡ m = omega arith in
        let here : get_or ps v 0 ≡ p = omega (arith, ap (λ j. get_or ps j 0) at, is) in
        let to_here : sum (take (p + 1) g) ≡ m =
        h.low p (λ u old. omega (arith, is, rise ps u m are (omega arith) inside)) within in (
          get_or g p 0,
          subst (λ (i : ℕ). IsChild (set g p x) i (get_or g p 0) (v + 1)) (sym here) (record {
            node = omega (arith, within, length-set g p x);
            some = omega (arith, get_or-set_same g p x 0 within);
            number = omega (arith, at, to_here, sum_more g p within, ap sum (take-set-le p g p x (omega arith)));
          }),
        )

-- when all are counted, the counts are the degrees of the tree
pub counted_all : (ps : List ℕ) (m : ℕ) (g : List ℕ) → m ≡ length ps → IsCounted ps m g → HasParents g ps
counted_all ps m g is h = record { count = h.len; each = λ v less. h.each v (omega arith) }

pub tree_of : (ps d : List ℕ) → AreParents ps → HasParents d ps → sum d ≡ length ps → IsTree d
tree_of ps d are has all =
    (trees_have_parents d).1 (
      omega (arith, has.count),
      λ v some inside.
          let u = v - 1 in
          let less : u < length ps = omega (arith, has.count) in
          let c = has.each u less in
          let e : u + 1 ≡ v = omega arith in
          (get_or ps u 0, c.0, omega (arith, are.before u less), subst (λ (w : ℕ). IsChild d (get_or ps u 0) c.0 w) e c.1),
    )

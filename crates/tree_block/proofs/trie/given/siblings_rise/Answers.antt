-- One node more: its children stand side by side.
use Rattle.std.proofs.Common.{◌≡◌, ℕ, List, true, false, ◌+◌, ◌<◌, ◌≤◌, ◌∷◌, length, get_or, refl, rules, arith}
use Rattle.louds.proofs.lemmas.TreeLemmas.{sum_more}
use Rattle.tree_block.proofs.RiseLemmas.{children_inside, of_rise, under_all, under_more, under_none}
use Rattle.tree_block.proofs.trie.given.siblings_rise.Goals as goal

-- the labels of the nodes from `first` on and before `past` rise
abbrev Between : List ℕ → ℕ → ℕ → Type 0
Between ls first past = (v : ℕ) → first ≤ v → v + 1 < past → get_or ls v 0 < get_or ls (v + 1) 0

pub loop-i-init : goal.loop-i-init
loop-i-init c = record { first = refl; rise = under_none c.args.degrees.now (0 ∷ c.args.labels.now) }

pub overflow_add-past : goal.overflow_add-past
overflow_add-past c =
    let i = c.loop-i.i in
    let inside : i < length c.args.degrees.now = omega (arith, c.loop-i-test.true) in
    record { fits = omega (arith, c.loop-i.invariant.first, children_inside c.args.degrees.now (0 ∷ c.args.labels.now) i c.requires.tree inside) }

pub rise_between-requires-clause-inside : goal.rise_between-requires-clause-inside
rise_between-requires-clause-inside c =
    let i = c.loop-i.i in
    let inside : i < length c.args.degrees.now = omega (arith, c.loop-i-test.true) in
    omega (arith, c.loop-i.invariant.first, c.requires.count, children_inside c.args.degrees.now (0 ∷ c.args.labels.now) i c.requires.tree inside)

pub returns-then-not-rise_between : goal.returns-then-not-rise_between
returns-then-not-rise_between c = (
  search rules,
  λ rise.
      let d = c.args.degrees.now in
      let ls = 0 ∷ c.args.labels.now in
      let i = c.loop-i.i in
      let inside : i < length d = omega (arith, c.loop-i-test.true) in
      let both : false ≡ true =
      c.if-not-rise_between.ensures.1
      (λ v from to. of_rise d ls i v inside rise (omega (arith, c.loop-i.invariant.first, from)) (omega (arith, c.loop-i.invariant.first, to))) in
      cc,
)

pub loop-i-preserved : goal.loop-i-preserved
loop-i-preserved c =
    let d = c.args.degrees.now in
    let ls = 0 ∷ c.args.labels.now in
    let i = c.loop-i.i in
    let inside : i < length d = omega (arith, c.loop-i-test.true) in
    let own : Between ls c.loop-i.first (c.loop-i.first + get_or d i 0) = c.if-not-rise_between.ensures.0 (search rules) in
    record {
      first = omega (arith, c.loop-i.invariant.first, sum_more d i inside);
      rise =
          under_more d ls i c.loop-i.invariant.rise
          (λ v from to. own v (omega (arith, c.loop-i.invariant.first, from)) (omega (arith, c.loop-i.invariant.first, to)));
    }

pub returns : goal.returns
returns c = (
  (λ _. under_all c.args.degrees.now (0 ∷ c.args.labels.now) c.loop-i.i (omega (arith, c.loop-i-test.false, c.loop-i.auto.i-end)) c.loop-i.invariant.rise),
  (λ _. refl),
)

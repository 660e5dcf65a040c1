-- One level after another is right, or the first that is not ends the check.
use Rattle.std.proofs.Common.{◌≡◌, ◌+◌, ◌≤◌, length, refl, ap, subst, sym, ◌∙◌, ⊎_elim, arith, rules}
use Rattle.std.proofs.lemmas.Bool.{cases_lt}
use Rattle.std.proofs.Math.Nat.{mul-le-mul_right}
use Rattle.bitm_tables.specs.Tables.{bits_in, IsIndexed, Lists}
use Rattle.levels_view.specs.Check.{AreCountsAt}
use Rattle.levels_view.proofs.checking.are_counts.Goals as goal

pub loop-depth-init : goal.loop-depth-init
loop-depth-init g c = record { right = λ d less. absurd (omega (arith, less)); same = refl }

pub are_counts_at-requires-clause-indexed : goal.are_counts_at-requires-clause-indexed
are_counts_at-requires-clause-indexed g c =
    subst (λ (s : Lists). IsIndexed s) (sym c.loop-depth.invariant.same) c.requires.indexed

pub are_counts_at-requires-clause-inside : goal.are_counts_at-requires-clause-inside
are_counts_at-requires-clause-inside g c =
    let l = c.args.levels.now in
    let d = c.loop-depth.depth in
    let less : d + 1 ≤ l.width = omega (arith, c.loop-depth-test.true, c.width-depth-end.ensures.width) in
    omega (
      arith,
      c.requires.room,
      mul-le-mul_right l.len less,
      ap (λ (s : Lists). length (bits_in s)) c.loop-depth.invariant.same,
    )

pub returns-then-not-are_counts_at-clause-answer : goal.returns-then-not-are_counts_at-clause-answer
returns-then-not-are_counts_at-clause-answer g c =
    let l = c.args.levels.now in
    let d = c.loop-depth.depth in (
      search rules,
      λ h. c.if-not-are_counts_at.ensures.answer.1
          (subst (λ (s : Lists). AreCountsAt l (bits_in s) d) (sym c.loop-depth.invariant.same)
          (h d (omega (arith, c.loop-depth-test.true, c.width-depth-end.ensures.width)))),
    )

pub loop-depth-preserved : goal.loop-depth-preserved
loop-depth-preserved g c =
    let l = c.args.levels.now in
    let d = c.loop-depth.depth in
    let i = c.loop-depth.invariant in
    let T = g.T.TableSource in
    let here : AreCountsAt l (bits_in (T.lists c.args.source.now)) d =
    subst (λ (s : Lists). AreCountsAt l (bits_in s) d) i.same (c.are_counts_at.ensures.answer.0 c.if-not-are_counts_at.false) in
    record {
      right = λ k less.
          ⊎_elim
          (λ before. i.right k before)
          (λ from. let e : d ≡ k = omega (arith, less, from) in
          subst (AreCountsAt l (bits_in (T.lists c.args.source.now))) e here)
          (cases_lt k d);
      same = c.are_counts_at.ensures.same ∙ i.same;
    }

pub returns-clause-answer : goal.returns-clause-answer
returns-clause-answer g c = (
  λ _ d less.
      c.loop-depth.invariant.right d (omega (arith, less, c.loop-depth-test.false, c.loop-depth.auto.depth-end, c.width-depth-end.ensures.width)),
  search rules,
)

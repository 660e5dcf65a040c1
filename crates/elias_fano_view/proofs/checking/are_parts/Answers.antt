-- The numbers that were found are a sequence exactly where the width, the lengths and the zeros behind fit.
use Rattle.std.proofs.Common.{◌≡◌, length, refl, sym, ap, ◌∙◌, ⊎_elim, arith}
use Rattle.std.proofs.lemmas.Bool.{false≢true}
use Rattle.std.proofs.Math.Nat.{mul-le-mul_left}
use Rattle.bit_lists.specs.Bits.{bits_of}
use Rattle.bit_lists.specs.Count.{ones_of}
use Rattle.elias_fano.specs.Parts.{items_of, width_at}
use Rattle.elias_fano_view.specs.Sizes.{upper_words_at}
use Rattle.elias_fano_view.specs.declared.sizes.Sizes.{Sizes}
use Rattle.elias_fano_view.proofs.CheckLemmas.{sizes-agree, parts}
use Rattle.elias_fano_view.specs.Checks.{AreFirstNumbers}
use Rattle.elias_fano_view.proofs.checking.are_parts.Goals as goal
use Rattle.elias_fano_view.proofs.checking.are_parts.Goals.{In-Some}

pub overflow_mul-n : goal.overflow_mul-n
overflow_mul-n c = omega (arith, mul-le-mul_left c.args.n c.requires.some.width, c.requires.some.short)

-- what was found
found : (c : In-Some) → AreFirstNumbers c.args.width c.args.low.now c.args.words.now c.args.n c.in-Some.last
    × (ones_of (bits_of c.args.words.now) ≡ c.args.n)
found c = c.in-Some.ensures

pub returns-then-sizes-width : goal.returns-then-sizes-width
returns-then-sizes-width c = (
  λ e. absurd (false≢true e),
  λ some.
      let agree = sizes-agree some.0 c.args.n c.args.width c.args.low.now _ some.1 c.in-Some.last (found (goal.at.returns-then-sizes-width c).In-Some).0 in
      let is = c.in-Some-of.ensures.sizes.1 in
      let width : c.in-Some-of.sizes.width ≡ c.args.width = ap (λ (s : Sizes). s.width) is ∙ agree.0 in
      let count : c.in-Some-of.sizes.words ≡ length c.args.words.now =
      ap (λ (s : Sizes). s.words) is ∙ ap (upper_words_at c.args.n c.in-Some.last) agree.0 ∙ agree.1 in
      absurd (⊎_elim (λ no. no width) (λ no. no.1 count) c.then-sizes-width.either),
)

pub returns-in-None : goal.returns-in-None
returns-in-None c =
    let held = found (goal.at.returns-in-None c).In-Some in
    let n = c.args.n in
    let is = c.in-Some-of.ensures.sizes.1 in
    let width : width_at n c.in-Some.last ≡ c.args.width = sym (ap (λ (s : Sizes). s.width) is) ∙ c.if-sizes-width.false in
    let count : upper_words_at n c.in-Some.last c.args.width ≡ length c.args.words.now =
    ap (upper_words_at n c.in-Some.last) (sym width) ∙ sym (ap (λ (s : Sizes). s.words) is) ∙ c.if-sizes-words.false in (
      λ _. (
        items_of n c.args.width c.args.low.now c.args.words.now,
        parts n c.args.width c.in-Some.last _ _ c.requires.some held.0 held.1 width count
            c.requires.low c.in-None.ensures,
      ),
      λ _. refl,
    )

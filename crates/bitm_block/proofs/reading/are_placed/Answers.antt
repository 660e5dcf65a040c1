-- The next section begins after this one.
use Rattle.std.proofs.Common.{◌≡◌, length, ◌*◌, refl, ap, sym, subst, ◌∙◌, ⊎_elim, arith}
use Rattle.std.proofs.lemmas.Bool.{cases_lt, eqb-true}
use Rattle.std.proofs.lemmas.Bool.Decides.{nat_tests}
use Rattle.bitm_block.specs.Header.{begin_in, count_in, sections_in, IsEntry}
use Rattle.bitm_block.specs.Layout.{end_of, room_of}
use Rattle.bitm_block.proofs.HeaderLemmas.{begin_first, begin_last, begin_next}
use Rattle.bitm_block.proofs.reading.are_placed.Goals as goal

pub loop-i-init : goal.loop-i-init
loop-i-init c = record {
  at = c.head_len-at.ensures.head ∙ sym (begin_first c.args.block.now);
  most = c.head_len-at.ensures.most;
  entries = λ k h. absurd (omega (arith, h));
}

pub loop-i-preserved : goal.loop-i-preserved
loop-i-preserved c =
    let b = c.args.block.now in
    let i = c.loop-i.i in
    let inv = c.loop-i.invariant in
    record {
      at =
          omega (arith, inv.at, c.room-at.ensures.room, ap room_of c.entry_at-section.ensures, begin_next b i (omega (arith, c.loop-i-test.true)));
      most = omega (arith, inv.most, c.room-at.ensures.most);
      entries = λ k less.
          ⊎_elim
          (λ before. inv.entries k before)
          (λ here. subst (IsEntry b) (let e : i ≡ k = omega (arith, less, here) in e)
          (record { at = c.if-not-are_bytes.ensures.0 refl ∙ ap (λ n. 8 * n) inv.at; count = rw c.entry_at-section.ensures at c.if-section.false }))
          (cases_lt k i);
    }

pub returns : goal.returns
returns c =
    let b = c.args.block.now in
    let ended : c.loop-i.i ≡ count_in b = omega (arith, c.loop-i.auto.i-end, c.loop-i-test.false) in
    let last : c.loop-i.at ≡ end_of (sections_in b) = c.loop-i.invariant.at ∙ ap (begin_in b) ended ∙ begin_last b in (
      λ same.
          (λ i less. c.loop-i.invariant.entries i (omega (arith, less, ended)), sym (eqb-true c.loop-i.at (length b) same) ∙ last),
      λ right. grind (arith, nat_tests, right.1, last),
    )

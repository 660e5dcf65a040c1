-- The ones left in the current word, and the bits of the kind in the words after it.
use Rattle.std.proofs.Common.{◌≡◌, ℕ, zero, suc, ◌+◌, ◌^◌, ◌<◌, ◌≢◌, Bool, true, length, count_ones, refl, sym, ap, ◌∙◌, arith, rules}
use Rattle.std.proofs.lemmas.Nat.{ones-le}
use Rattle.bit_lists.proofs.lemmas.CountLemmas.{ones_of-add-zeros_of}
use Rattle.bit_lists.proofs.lemmas.PositionLemmas.{length-coming}
use Rattle.bit_lists.specs.Bits.{bits_of}
use Rattle.bit_lists.specs.Count.{count_of, as_bit}
use Rattle.bit_words.proofs.positions.BitBIteratorExactSizeIterator.len.Goals as goal
use Rattle.bit_words.proofs.positions.BitBIteratorExactSizeIterator.len.Goals.{then-this-eq0, else-this-eq0}

as_bit_one : (v : ℕ) → v ≢ 0 → as_bit v ≡ true
as_bit_one zero apart = absurd (apart refl)
as_bit_one (suc v) apart = refl

pub overflow_add-result : goal.overflow_add-result
overflow_add-result g c =
    let rest = c.self.inside.rest.now in
    let fits : c.self.inside.current < 2 ^ 64 = search rules in
    let left = ones-le 64 c.self.inside.current fits in
    elim c.if-this-eq0.branch [
      | then-this-eq0 w ↦ omega (arith, w.rest-is, w.count_bit_zeros-rest.ensures, ones_of-add-zeros_of rest, left, c.self.invariant)
      | else-this-eq0 w ↦ omega (arith, w.rest-is, w.count_bit_ones-rest.ensures, ones_of-add-zeros_of rest, left, c.self.invariant)
    ]

pub returns-clause-value : goal.returns-clause-value
returns-clause-value g c =
    let it = c.self.inside in
    let counted = λ (v : Bool). count_ones it.current + count_of (bits_of it.rest.now) v in
    let fits : it.current < 2 ^ 64 = search rules in
    let coming = sym (length-coming g.row.BIT it.first it.current it.rest.now fits) ∙ ap length c.self.view_is in
    elim c.if-this-eq0.branch [
      | then-this-eq0 w ↦
          ap (λ n. count_ones it.current + n) (w.rest-is ∙ w.count_bit_zeros-rest.ensures)
          ∙ sym (ap counted (ap as_bit w.if-this-eq0.true))
          ∙ coming
      | else-this-eq0 w ↦
          ap (λ n. count_ones it.current + n) (w.rest-is ∙ w.count_bit_ones-rest.ensures)
          ∙ sym (ap counted (as_bit_one g.row.BIT w.if-this-eq0.false))
          ∙ coming
    ]

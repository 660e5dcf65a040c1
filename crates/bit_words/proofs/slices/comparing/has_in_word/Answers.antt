-- The word is 0 exactly where no digit of it is 1.
use Rattle.std.proofs.Common.{◌≡◌, ℕ, zero, suc, ◌<◌, ◌↔◌, ◌≢◌, IsTrue, nat_eq, bit_and, Bool, true, false, subst, sym, refl, arith}
use Rattle.std.proofs.lemmas.Nat.{and_le_l}
use Rattle.std.specs.Int.{bit_not, w64}
use Rattle.bit_lists.specs.Bits.{digit}
use Rattle.bit_lists.specs.Count.{as_bit}
use Rattle.bit_words.proofs.lemmas.CombineLemmas.{digit-and, digit-and_not}
use Rattle.bit_words.proofs.lemmas.WhereLemmas.{tested}
use Rattle.bit_words.proofs.slices.comparing.has_in_word.Goals as goal

one : (k : ℕ) → k ≢ 0 → true ≡ as_bit k
one zero other = absurd (other refl)
one (suc k) other = refl

pub returns-then-this-eq0 : goal.returns-then-this-eq0
returns-then-this-eq0 g c =
    let a = c.args.a in
    let b = c.args.b in
    subst (λ (k : ℕ). IsTrue (nat_eq (bit_and a b) 0) ↔ ((j : ℕ) → j < 64 → digit a j ≡ true → digit b j ≡ as_bit k)) (sym c.if-this-eq0.true)
    (tested (bit_and a b) a b false (omega (arith, and_le_l a b, c.ranges.a.fits)) (λ j l. digit-and a b j))

pub returns-else-this-eq0 : goal.returns-else-this-eq0
returns-else-this-eq0 g c =
    let a = c.args.a in
    let b = c.args.b in
    let z : ℕ = bit_and a (bit_not w64 b) in
    subst (λ (v : Bool). IsTrue (nat_eq z 0) ↔ ((j : ℕ) → j < 64 → digit a j ≡ true → digit b j ≡ v)) (one g.row.BIT c.if-this-eq0.false)
    (tested z a b true (omega (arith, and_le_l a (bit_not w64 b), c.ranges.a.fits)) (λ j l. digit-and_not a b j c.ranges.b.fits l))

-- Each fingerprint is written at the number of its key, and none other there.
use Rattle.std.proofs.Common.{◌≡◌, ◌<◌, ◌*◌, ◌^◌, subst, ℕ, Some, None, length, ap, sym, ◌∙◌, arith, refl}
use Rattle.std.proofs.lemmas.Nat.{row_fits}
use Rattle.std.proofs.lemmas.Option.{slice_get_read}
use Rattle.bit_lists.specs.Bits.{bits_of}
use Rattle.bit_lists.specs.Count.{ones_of}
use Rattle.bit_lists.specs.Number.{with_number}
use Rattle.perfect_hash.specs.Dictionary.{print_of}
use Rattle.perfect_hash.specs.Parts.{number_at, number_from}
use Rattle.perfect_hash.proofs.lemmas.DictionaryLemmas.{PrintsTo-next, all_prints, numbered}
use Rattle.perfect_hash.proofs.dictionary.write_prints.Goals as goal
use Rattle.perfect_hash.proofs.dictionary.write_prints.Goals.{in-Some, in-None}

not_none : (v : ℕ) → Some v ≡ None → ⊥
not_none v h = cc

pub loop-key-preserved : goal.loop-key-preserved
loop-key-preserved g c =
    let hash = g.H.KeyHash.hash in
    let numbers = c.args.numbers.now in
    let keys = c.args.keys.now in
    let width = c.args.width in
    let i = c.loop-key.key-index in
    let key = c.key-item.result in
    let old = c.loop-key.prints in
    let here = slice_get_read keys (length keys) i key refl c.loop-key-test.true c.key-item.is in
    let value : number_at g.P.Placing.fall hash numbers key ≡ c.number.result =
    ap (number_from g.P.Placing.fall numbers) (sym c.hash-hash.ensures) ∙ sym c.number.ensures.value in
    elim c.match-number.branch [
      | in-Some w ↦
          let n = w.in-Some.number in
          PrintsTo-next (number_at g.P.Placing.fall hash numbers) (λ k. print_of width (hash numbers.hasher k)) keys width c.requires.perfect
          old _ i n key c.loop-key.invariant here (value ∙ w.in-Some.is)
          (ap bits_of w.prints-is ∙ w.set_fragment.ensures
          ∙ ap (λ p. with_number (bits_of old) (n * width) width p) (w.print.ensures.value ∙ ap (print_of width) c.hash-hash.ensures))
          (omega (
            arith,
            row_fits n width (ones_of numbers.bits) width w.in-Some.ensures.below (omega arith),
            c.requires.room.enough,
            c.loop-key.auto.prints,
          ))
          (subst (λ p. p < 2 ^ width) (w.print.ensures.value ∙ ap (print_of width) c.hash-hash.ensures) w.print.ensures.fits)
      | in-None w ↦
          let some = numbered (number_at g.P.Placing.fall hash numbers) (λ k. print_of width (hash numbers.hasher k)) keys width c.requires.perfect i key here in
          absurd (not_none some.0 (sym some.1 ∙ value ∙ w.in-None.is))
    ]

pub returns-clause-prints : goal.returns-clause-prints
returns-clause-prints g c =
    all_prints (number_at g.P.Placing.fall g.H.KeyHash.hash c.args.numbers.now) (λ k. print_of c.args.width (g.H.KeyHash.hash c.args.numbers.now.hasher k))
    c.args.keys.now c.args.width c.requires.perfect c.loop-key.prints c.loop-key.key-index c.loop-key.invariant c.loop-key-test.false

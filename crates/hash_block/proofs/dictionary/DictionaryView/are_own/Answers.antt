-- The key that was tested stands at its number too.
use Rattle.std.proofs.Common.{◌≡◌, ℕ, length, Some, ap, subst, ⊎_elim, arith, rules}
use Rattle.std.proofs.lemmas.Bool.{cases_lt}
use Rattle.std.specs.List.{slice_index}
use Rattle.hash_block.specs.Dictionary.{number_of_key, DictionaryParts}
use Rattle.hash_block.proofs.dictionary.DictionaryView.are_own.Goals as goal

pub loop-i-preserved : goal.loop-i-preserved
loop-i-preserved c =
    let d = c.args.self.now in
    record {
      own = λ k less. ⊎_elim
          (λ before. c.loop-i.invariant.own k before)
          (λ from.
          let e : c.loop-i.i ≡ k = omega (arith, less, from) in
          subst (λ (j : ℕ). number_of_key d.hash (slice_index d.keys j) ≡ Some j) e (c.is_own.ensures.0 c.if-not-is_own.false))
          (cases_lt k c.loop-i.i);
    }

pub returns : goal.returns
returns c = (λ _ k less. c.loop-i.invariant.own k (omega (arith, less, c.loop-i-test.false, c.loop-i.auto.i-end, ap (λ (d : DictionaryParts). length d.keys) c.self.view_is)), search rules)

-- A truth is its own digit.
use Rattle.std.proofs.Common.{◌≡◌, Bool, List, ◌++◌, IfOk, subst}
use Rattle.bitm_bits.proofs.lemmas.AppendLemmas.{low_digits-one}
use Rattle.bitm_bits.proofs.appending.BitWriter.push_bit.Goals as goal

pub returns-clause-ok : goal.returns-clause-ok
returns-clause-ok c =
    let P : List Bool → Type 0 = λ d. IfOk c.push_bits.result (λ _. c.push_bits.new.self ≡ c.args.self.now ++ d) in
    subst P (low_digits-one c.args.value) c.push_bits.ensures.ok

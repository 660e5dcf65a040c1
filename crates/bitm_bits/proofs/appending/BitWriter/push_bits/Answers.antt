-- No digits are nothing.
use Rattle.std.proofs.Common.{◌++◌, sym, ap, ◌∙◌, append-nil}
use Rattle.bit_lists.specs.Bits.{low_digits}
use Rattle.bitm_bits.proofs.lemmas.AppendLemmas.{low_digits-none}
use Rattle.bitm_bits.proofs.appending.BitWriter.push_bits.Goals as goal

pub returns-then-count-eq0-clause-ok : goal.returns-then-count-eq0-clause-ok
returns-then-count-eq0-clause-ok c =
    sym (ap (λ d. c.args.self.now ++ d) (ap (λ n. low_digits n c.args.v) c.if-count-eq0.true ∙ low_digits-none c.args.v)
    ∙ append-nil c.args.self.now)

-- The mask leaves the low digits.
use Rattle.std.proofs.Common.{◌%◌, ◌^◌, ap, ◌∙◌, bit_and}
use Rattle.std.proofs.lemmas.Nat.{and_mask}
use Rattle.perfect_hash.proofs.dictionary.print.Goals as goal

pub returns-clause-value : goal.returns-clause-value
returns-clause-value c =
    ap (bit_and c.spread_at.result) c.n_lowest_bits.ensures
    ∙ and_mask c.spread_at.result c.args.width
    ∙ ap (λ x. x % 2 ^ c.args.width) c.spread_at.ensures

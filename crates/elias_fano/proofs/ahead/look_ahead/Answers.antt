-- So many fragments are in range, and what is read are their digits.
use Rattle.std.proofs.Common.{◌*◌, ◌≤◌, arith}
use Rattle.elias_fano.proofs.lemmas.AheadLemmas.{few-enough, read-in-range, IsAhead-read}
use Rattle.elias_fano.proofs.ahead.look_ahead.Goals as goal

pub get_bits_unmasked-requires-clause-in_range : goal.get_bits_unmasked-requires-clause-in_range
get_bits_unmasked-requires-clause-in_range c =
    read-in-range c.args.low.now c.args.width c.args.at c.args.end c.min-count.result c.requires.fragments.inside
    (omega (arith, c.min-count.ensures)) (omega (arith, c.min-count.ensures, c.requires.some)) c.requires.width

pub returns : goal.returns
returns c =
    let count = c.min-count.result in
    let small : count * c.args.width ≤ 64 =
    few-enough count c.args.most c.args.width (omega (arith, c.min-count.ensures)) c.requires.fit in (
      omega (arith, c.min-count.ensures, c.requires.some),
      IsAhead-read c.args.low.now c.args.width c.args.at c.args.end count c.requires.fragments.inside
          (omega (arith, c.min-count.ensures)) (omega (arith, c.min-count.ensures, c.requires.some)) c.requires.width
          c.get_bits_unmasked.result small c.get_bits_unmasked.ensures,
    )

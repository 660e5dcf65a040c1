-- The low bits are as long as those of the numbers.
use Rattle.std.proofs.Common.{length, sym, ap, ◌*◌, ◌∙◌, arith}
use Rattle.std.specs.Int.{div_ceil}
use Rattle.elias_fano.proofs.lemmas.SizeLemmas.{width-small}
use Rattle.elias_fano.proofs.sequence.Sequence.parts.Goals as goal

pub returns-clause-lengths : goal.returns-clause-lengths
returns-clause-lengths g c = record {
  short = c.rise.ensures.short;
  width = omega (arith, c.low_digits.ensures.width, width-small _ c.rise.ensures.small);
  low = c.low_digits.ensures.words.words ∙ ap (λ k. div_ceil (length c.args.self.now.items * k) 64) (sym c.low_digits.ensures.width);
  hints = λ some. absurd (omega (arith, some));
}

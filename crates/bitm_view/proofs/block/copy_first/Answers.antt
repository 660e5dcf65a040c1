-- What was copied stays, and the bits after it are cleared.
use Rattle.std.proofs.Common.{◌≡◌, ◌+◌, ap, sym, ◌∙◌, arith}
use Rattle.bit_lists.specs.Bits.{bits_of, item}
use Rattle.bitm_view.proofs.block.copy_first.Goals as goal

pub returns-clause-bits : goal.returns-clause-bits
returns-clause-bits c = record {
  first = λ i l.
      let e : 0 + i ≡ i = omega arith in
      c.clear_from.ensures.before i l
      ∙ ap (item (bits_of c.copy_range.new.to)) (sym e) ∙ c.copy_range.ensures.copied i l ∙ ap (item (bits_of c.args.words.now)) e;
  past = c.clear_from.ensures.from;
}

-- Past the end there are as many 1 bits as before it.
use Rattle.std.proofs.Common.{◌*◌, ap, sym, ◌∙◌, arith}
use Rattle.bit_lists.proofs.lemmas.BitsLemmas.{length-bits_of}
use Rattle.bit_lists.proofs.lemmas.CountLemmas.{ones_before_past}
use Rattle.bit_lists.specs.Bits.{bits_of}
use Rattle.bit_lists.specs.Count.{ones_before}
use Rattle.levels_view.proofs.quarters.ones_up_to.Goals as goal
use Rattle.levels_view.proofs.quarters.ones_up_to.Goals.{then-index-bits, else-index-bits}

pub unreachable-requires : goal.unreachable-requires
unreachable-requires g c =
    let l = g.T.TableSource.lists c.args.source.now in
    elim c.if-index-bits.branch [
      | then-index-bits w ↦ omega (arith, c.in-None.ensures.answer, w.if-index-bits, w.end-is, c.words_len-bits.ensures, length-bits_of l.words)
      | else-index-bits w ↦ omega (arith, c.in-None.ensures.answer, w.if-index-bits, w.end-is, c.words_len-bits.ensures, length-bits_of l.words)
    ]

pub returns-clause-ones : goal.returns-clause-ones
returns-clause-ones g c =
    let l = g.T.TableSource.lists c.args.source.now in
    let b = bits_of l.words in
    elim c.if-index-bits.branch [
      | then-index-bits w ↦ c.in-Some.ensures.answer.1 ∙ ap (ones_before b) w.end-is
      | else-index-bits w ↦ c.in-Some.ensures.answer.1
          ∙ ap (ones_before b) (w.end-is ∙ ap (λ n. 64 * n) c.words_len-bits.ensures ∙ sym (length-bits_of l.words))
          ∙ sym (ones_before_past b c.args.index (omega (arith, w.if-index-bits, c.words_len-bits.ensures, length-bits_of l.words)))
    ]

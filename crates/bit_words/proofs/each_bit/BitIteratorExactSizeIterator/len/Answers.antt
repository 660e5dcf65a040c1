use Rattle.std.proofs.Common.{sym, ap, ◌∙◌, length}
use Rattle.bit_lists.proofs.lemmas.ComingLemmas.{length-bits_coming}
use Rattle.bit_lists.specs.Coming.{bits_left}
use Rattle.bit_words.proofs.each_bit.BitIteratorExactSizeIterator.len.Goals as goal

pub returns-clause-value : goal.returns-clause-value
returns-clause-value c =
    let it = c.self.inside in
    c.len.ensures.value
    ∙ sym (length-bits_coming it.words.now it.range.start it.range.end c.self.invariant.0)
    ∙ ap (λ it. length (bits_left it)) c.self.view_is

-- The ones before the end of the content are its ones.
use Rattle.std.proofs.Common.{◌≡◌, ℕ, List, true, length, ap, subst, arith}
use Rattle.bit_lists.proofs.lemmas.BitsLemmas.{length-bits_of}
use Rattle.bit_lists.proofs.lemmas.CountLemmas.{ones_before_none}
use Rattle.bit_lists.specs.Bits.{bits_of}
use Rattle.bit_lists.specs.Count.{count_of, ones_before}
use Rattle.bitm_view.specs.Cut.{Cut, bits_of_cut}
use Rattle.bitm_view.proofs.CutLemmas.{cut_total}
use Rattle.bitm_view.proofs.view.IndexView.ones.Goals as goal

pub count_range-requires-clause-inside : goal.count_range-requires-clause-inside
count_range-requires-clause-inside c =
    omega (arith, c.self.invariant.within, length-bits_of c.self.inside.tables.words, ap length c.words.ensures.words)

pub returns : goal.returns
returns c =
    let words = c.self.inside.tables.words in
    let same = ap (λ (w : List ℕ). ones_before (bits_of w) c.self.inside.len) c.words.ensures.words in
    subst (λ (x : Cut). c.count_range.result ≡ count_of (bits_of_cut x) true) c.self.view_is
    (omega (
      arith,
      c.count_range.ensures,
      same,
      ones_before_none (bits_of c.words.result.now),
      cut_total (bits_of words) true c.self.inside.len c.self.invariant.within,
    ))

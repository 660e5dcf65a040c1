-- The content ends inside the words.
use Rattle.std.proofs.Common.{length, ap, arith}
use Rattle.bit_lists.proofs.lemmas.BitsLemmas.{length-bits_of}
use Rattle.bitm_view.proofs.view.IndexView.positions_from.Goals as goal

pub positions_in-requires-clause-len : goal.positions_in-requires-clause-len
positions_in-requires-clause-len g c =
    omega (arith, c.self.invariant.within, length-bits_of c.self.inside.tables.words, ap length c.words-words.ensures.words)

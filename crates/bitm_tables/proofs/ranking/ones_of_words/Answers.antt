-- The source lends the words.
use Rattle.std.proofs.Common.{◌≡◌, ◌+◌, ◌*◌, subst}
use Rattle.bit_lists.specs.Bits.{bits_of}
use Rattle.bit_lists.specs.Count.{ones_before}
use Rattle.bitm_tables.specs.Tables.{Lists}
use Rattle.bitm_tables.proofs.ranking.ones_of_words.Goals as goal

pub returns : goal.returns
returns c =
    subst
    (λ (l : Lists). ones_before (bits_of l.words) (64 * c.args.first) + c.ones_in_record.result ≡ ones_before (bits_of l.words) (64 * c.args.end))
    c.new-source.ensures.lists c.ones_in_record.ensures.ones

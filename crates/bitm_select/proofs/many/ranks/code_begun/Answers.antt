-- The ones to the last bit that counts are those before the index.
use Rattle.std.proofs.Common.{ap, ◌∙◌, arith}
use Rattle.bit_lists.specs.Bits.{bits_of}
use Rattle.bit_lists.specs.Count.{as_bit, ones_before}
use Rattle.bitm_tables.proofs.lemmas.RankLemmas.{rank_inside, rank_outside}
use Rattle.bitm_select.proofs.lemmas.SideLemmas.{none_claimed, past_claimed}
use Rattle.bitm_select.proofs.many.ranks.code_begun.Goals as goal

pub returns-then-index-eq0-clause-claimed : goal.returns-then-index-eq0-clause-claimed
returns-then-index-eq0-clause-claimed g c =
    none_claimed (as_bit g.row.BIT) _ c.args.index c.requires.sized.short (omega (arith, c.if-index-eq0.true))

pub returns-else-index-eq0-clause-claimed : goal.returns-else-index-eq0-clause-claimed
returns-else-index-eq0-clause-claimed g c =
    past_claimed (as_bit g.row.BIT) _ c.args.index c.requires.sized.short
    (rank_outside _ c.args.index (omega (arith, c.ranges.index)) (omega (arith, c.words_len.ensures, c.if-last-words_len.true)) (omega (arith, c.if-index-eq0.false)))

pub returns-clause-claimed : goal.returns-clause-claimed
returns-clause-claimed g c =
    let lists = g.T.TableSource.lists c.args.source.now in
    let i =
    rank_inside lists.words c.args.index (omega (arith, c.ranges.index)) c.requires.sized.short
    (omega (arith, c.words_len.ensures, c.if-last-words_len.false)) in
    c.rank_code.ensures lists c.requires.sized.short i.1 (λ t. c.finish.ensures.ones t ∙ ap (ones_before (bits_of lists.words)) i.0)

-- The selected position is the hint.
use Rattle.std.proofs.Common.{arith}
use Rattle.bit_lists.specs.Count.{as_bit}
use Rattle.bit_lists.proofs.lemmas.BitsLemmas.{length-bits_of}
use Rattle.bitm_tables.specs.Tables.{bits_in}
use Rattle.bitm_selection.proofs.HintLemmas.{only_hint, picked_hint}
use Rattle.bitm_selection.proofs.hints.hint_on.Goals as goal

pub returns-in-Some-clause-hint : goal.returns-in-Some-clause-hint
returns-in-Some-clause-hint g c =
    picked_hint (as_bit g.row.BIT) (bits_in (g.T.TableSource.lists c.args.source.now)) c.args.at c.in-Some.position c.in-Some.ensures.answer

pub returns-in-Some-clause-only : goal.returns-in-Some-clause-only
returns-in-Some-clause-only g c p is =
    only_hint (as_bit g.row.BIT) (bits_in (g.T.TableSource.lists c.args.source.now)) c.args.at c.in-Some.position p c.in-Some.ensures.answer is

pub returns-in-Some-clause-half : goal.returns-in-Some-clause-half
returns-in-Some-clause-half g c =
    omega (arith, c.requires.short, c.in-Some.ensures.answer.inside, length-bits_of (g.T.TableSource.lists c.args.source.now).words)

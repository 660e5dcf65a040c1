-- The bits fill the words.
use Rattle.std.proofs.Common.{◌≡◌, ℕ, ◌/◌, length, subst, arith}
use Rattle.bit_lists.proofs.lemmas.BitsLemmas.{length-bits_of}
use Rattle.bitm_tables.specs.Tables.{bits_in}
use Rattle.bitm_tables.specs.Answers.{IfAbsent}
use Rattle.perfect_hash.specs.Placed.{FitIn}
use Rattle.perfect_hash.proofs.asking.total_number_by_on.Goals as goal

pub number_by-requires-clause-short : goal.number_by-requires-clause-short
number_by-requires-clause-short g c =
    omega (arith, length-bits_of (g.T.TableSource.lists c.args.source.now).words, c.requires.sized.short)

pub returns-clause-fit : goal.returns-clause-fit
returns-clause-fit g c =
    let lists = g.T.TableSource.lists c.args.source.now in
    let filled : length (bits_in lists) / 64 ≡ length lists.words = omega (arith, length-bits_of lists.words) in
    subst (λ (n : ℕ). IfAbsent c.number_by.result (FitIn n c.args.sizes.now)) filled c.number_by.ensures.fit

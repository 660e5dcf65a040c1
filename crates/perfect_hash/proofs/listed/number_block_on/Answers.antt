-- The rank of the position that was found is the number.
use Rattle.std.proofs.Common.{◌≡◌, ℕ, length, replicate, slice_index, sum, take, true, subst, arith}
use Rattle.std.proofs.lemmas.List.{length-take-le}
use Rattle.bitm_select.specs.Answers.{IsRankCode}
use Rattle.bitm_tables.specs.Tables.{Lists}
use Rattle.perfect_hash.specs.Levels.{fall_in}
use Rattle.perfect_hash.proofs.lemmas.ListedLemmas.{coded_hash}
use Rattle.perfect_hash.proofs.listed.number_block_on.Goals as goal

pub returns-clause-coded : goal.returns-clause-coded
returns-clause-coded g c = λ k less.
    let placing = c.args.placing.now in
    let sizes = c.args.sizes.now in
    let lists = g.T.TableSource.lists c.args.source.now in
    let position = slice_index c.find_positions.new.positions k in
    let rank = slice_index c.total_rank_many_on.new.ranks k in
    let long : length c.find_positions.new.positions ≡ length c.args.hashes.now = omega (arith, c.find_positions.auto.positions, length-take-le {A = ℕ} (length c.args.hashes.now) (replicate 32 1) (omega (arith, c.requires.few))) in
    coded_hash lists (fall_in (g.P.Placing.fall placing) sizes)
    (λ hash level words some. g.met.P.Placing.inside placing (sum (take level sizes)) hash level words some)
    sizes (slice_index c.args.hashes.now k) c.args.count c.args.absent position rank (slice_index c.code_each.new.numbers k)
    c.requires.sized c.requires.sizes (c.find_positions.ensures.claimed k less)
    (subst (λ (l : Lists). IsRankCode true l position rank) c.find_positions.ensures.reads.same (c.total_rank_many_on.ensures.claimed k (omega (arith, less, long))))
    (c.code_each.ensures k (omega (arith, less, c.total_rank_many_on.auto.ranks, c.requires.same_length)))

-- The bytes that have no more than the rank before them end with its own, and what is left of the rank there picks the
-- bit in it.
use Rattle.std.proofs.Common.{◌≡◌, ℕ, ◌+◌, ◌-◌, ◌*◌, ◌%◌, ◌^◌, ◌≤◌, bit_and, count_ones, sym, ap, ◌∙◌, arith}
use Rattle.broadword.proofs.lemmas.InWordLemmas.{ones_before-low_digits_few}
use Rattle.broadword.proofs.lemmas.LeBytesLemmas.{at_most_low, bytes_at, small_le, sums_at}
use Rattle.broadword.proofs.lemmas.SelectLemmas.{before_small, rank_left, byte_of_rank, picked_in_word, reached, sums_before, IsByteOf}
use Rattle.bit_lists.proofs.lemmas.BitsLemmas.{length-low_digits}
use Rattle.broadword.proofs.word.select64.Goals as goal
use Rattle.broadword.proofs.word.select64.Goals.{After-bytes_at_most}

pub ranks_left-ranks-requires : goal.ranks_left-ranks-requires
ranks_left-ranks-requires c = omega (arith, c.requires, ones_before-low_digits_few 64 c.args.n)

pub bytes_at_most-requires-clause-small : goal.bytes_at_most-requires-clause-small
bytes_at_most-requires-clause-small c = small_le _ (before_small _ _ (sums_at c.args.n c.byte_sums.result c.byte_sums.ensures))

pub bytes_at_most-requires-clause-below : goal.bytes_at_most-requires-clause-below
bytes_at_most-requires-clause-below c = omega (arith, c.requires, ones_before-low_digits_few 64 c.args.n)

-- the byte of the rank is one less than so many bytes
counted : (c : After-bytes_at_most) → c.bytes_at_most.result ≡ 1 + count_ones (bit_and c.ranks_left-ranks.result 0x8080808080808000)
counted c =
    let few : c.args.rank ≤ 63 = omega (arith, c.requires, ones_before-low_digits_few 64 c.args.n) in
    at_most_low _ c.args.rank _ c.bytes_at_most.ensures
    ∙ reached c.args.n c.args.rank (c.byte_sums.result * 256 % 2 ^ 64) c.ranks_left-ranks.result few (omega arith)
    (sums_before _ _ (sums_at c.args.n c.byte_sums.result c.byte_sums.ensures))
    (bytes_at (rank_left c.args.n c.args.rank) _ c.ranks_left-ranks.ensures)

at_byte : (c : After-bytes_at_most) → IsByteOf c.args.n c.args.rank c.ranks_left-ranks.result (c.bytes_at_most.result - 1)
at_byte c =
    byte_of_rank c.args.n c.args.rank c.ranks_left-ranks.result (omega arith) (bytes_at (rank_left c.args.n c.args.rank) _ c.ranks_left-ranks.ensures) c.requires
    (c.bytes_at_most.result - 1) (omega (arith, counted c))

pub overflow_sub-position : goal.overflow_sub-position
overflow_sub-position c = omega (arith, counted (goal.at.overflow_sub-position c).After-bytes_at_most)

pub overflow_mul-position : goal.overflow_mul-position
overflow_mul-position c = omega (arith, (at_byte (goal.at.overflow_mul-position c).After-bytes_at_most).inside)

pub overflow_shr-left : goal.overflow_shr-left
overflow_shr-left c = omega (arith, (at_byte (goal.at.overflow_shr-left c).After-bytes_at_most).inside)

pub overflow_shr-n : goal.overflow_shr-n
overflow_shr-n c = omega (arith, (at_byte (goal.at.overflow_shr-n c).After-bytes_at_most).inside)

pub select_in_byte-requires : goal.select_in_byte-requires
select_in_byte-requires c = (at_byte (goal.at.select_in_byte-requires c).After-bytes_at_most).some

-- the position in the word
pub returns-clause-picked : goal.returns-clause-picked
returns-clause-picked c =
    picked_in_word c.args.n c.args.rank c.ranks_left-ranks.result (omega arith) (bytes_at (rank_left c.args.n c.args.rank) _ c.ranks_left-ranks.ensures) c.requires
    (c.bytes_at_most.result - 1) c.select_in_byte.result
    (omega (arith, counted (goal.at.returns-clause-picked c).After-bytes_at_most)) c.select_in_byte.ensures

pub overflow_add-result : goal.overflow_add-result
overflow_add-result c =
    let there = picked_in_word c.args.n c.args.rank c.ranks_left-ranks.result (omega arith) (bytes_at (rank_left c.args.n c.args.rank) _ c.ranks_left-ranks.ensures) c.requires
    (c.bytes_at_most.result - 1) c.select_in_byte.result
    (omega (arith, counted (goal.at.overflow_add-result c).After-bytes_at_most)) c.select_in_byte.ensures in
    omega (arith, there.inside, length-low_digits 64 c.args.n)

pub returns-clause-inside : goal.returns-clause-inside
returns-clause-inside c =
    let there = picked_in_word c.args.n c.args.rank c.ranks_left-ranks.result (omega arith) (bytes_at (rank_left c.args.n c.args.rank) _ c.ranks_left-ranks.ensures) c.requires
    (c.bytes_at_most.result - 1) c.select_in_byte.result
    (omega (arith, counted (goal.at.returns-clause-inside c).After-bytes_at_most)) c.select_in_byte.ensures in
    omega (arith, there.inside, length-low_digits 64 c.args.n)

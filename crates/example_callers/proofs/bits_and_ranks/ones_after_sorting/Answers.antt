-- No more ones stand before a position than in all, and these and the zeros are the bits, which fit.
use Rattle.std.proofs.Common.{◌≡◌, true, length, ℕ, ◌+◌, ◌≤◌, List, Bool, arith}
use Rattle.bitm.proofs.BitLaws.{counts_grow, ones_and_zeros}
use Rattle.bitm.specs.Count.{ones_before, zeros_before}
use Rattle.example_callers.proofs.bits_and_ranks.ones_after_sorting.Goals as goal

below : (b : List Bool) (n i : ℕ) → n ≡ length b → i ≤ length b → zeros_before b n + ones_before b i ≤ n
below b n i all inside = omega (arith, counts_grow b true i n (omega arith), ones_and_zeros b n (omega arith))

pub overflow_add-result : goal.overflow_add-result
overflow_add-result g c =
    omega (arith, below _ _ _ c.len.ensures c.requires.from, c.len.type_inv, c.rank0-zeros.ensures, c.rank_pair-before.ensures.from)

pub overflow_add-result-2 : goal.overflow_add-result-2
overflow_add-result-2 g c =
    omega (arith, below _ _ _ c.len.ensures c.requires.to, c.len.type_inv, c.rank0-zeros.ensures, c.rank_pair-before.ensures.to)

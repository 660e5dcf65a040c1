-- The sequence that was made has the positions that were given.
use Rattle.std.proofs.Common.{◌≡◌, ℕ, ◌+◌, ◌*◌, ◌≤◌, true, List, length, sym, ◌∙◌, subst}
use Rattle.bit_lists.specs.Count.{bit_positions}
use Rattle.elias_fano.specs.Parts.{width_of, low_words_of, upper_words_of}
use Rattle.sparse_bits.specs.Positions.{bits_at, AreBitPositions}
use Rattle.sparse_bits.proofs.lemmas.PositionLemmas.{bits_at-positions, bits_at-length}
use Rattle.sparse_bits.proofs.sparse.SparseBits.build.Goals as goal
use Rattle.sparse_bits.proofs.sparse.SparseBits.build.Goals.{In-Ok}

is : (g : _) (c : In-Ok g) → bit_positions true 0 (bits_at c.args.len 0 c.in-Ok.ones.items) ≡ c.in-Ok.ones.items
is g c =
    bits_at-positions c.args.len 0 c.in-Ok.ones.items
    (subst (λ (xs : List ℕ). AreBitPositions c.args.len 0 xs) (sym c.in-Ok.ensures.ok) c.in_ok-check_positions.ensures.positions)

pub returns-in-Ok-clause-ones : goal.returns-in-Ok-clause-ones
returns-in-Ok-clause-ones g c = is g (goal.at.returns-in-Ok-clause-ones g c).In-Ok ∙ c.in-Ok.ensures.ok

pub returns-in-Ok-clause-len : goal.returns-in-Ok-clause-len
returns-in-Ok-clause-len g c = bits_at-length c.args.len 0 c.in-Ok.ones.items

pub returns-in-Ok-clause-size : goal.returns-in-Ok-clause-size
returns-in-Ok-clause-size g c =
    subst (λ (xs : List ℕ). 64 * (low_words_of xs (width_of xs) + upper_words_of xs (width_of xs)) ≤ length xs * (width_of xs + 3) + 126)
    (sym (is g (goal.at.returns-in-Ok-clause-size g c).In-Ok)) c.in-Ok.ensures.size

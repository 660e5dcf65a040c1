-- The positions of the 1 bits rise and are below the number of bits.
use Rattle.std.proofs.Common.{◌≡◌, ℕ, ◌*◌, true, List, length, sym, ap, ◌∙◌, subst, arith}
use Rattle.bit_lists.specs.Count.{bit_positions}
use Rattle.bit_lists.specs.Bits.{bits_of}
use Rattle.bit_lists.proofs.BitLaws.{positions_are_counted}
use Rattle.sparse_bits.specs.Positions.{AreBitPositions}
use Rattle.sparse_bits.proofs.lemmas.BuildLemmas.{refused, are_positions_of_words, built_of_words}
use Rattle.sparse_bits.proofs.sparse.SparseBits.build_from_words.Goals as goal
use Rattle.sparse_bits.proofs.sparse.SparseBits.build_from_words.Goals.{After-build}

is : (g : _) (c : After-build g) → c.as_slice.result.now ≡ bit_positions true 0 (bits_of c.args.words.now)
is g c = c.as_slice.ensures.value ∙ c.in_ok-positions.ensures

pub returns-clause-bits : goal.returns-clause-bits
returns-clause-bits g c =
    built_of_words c.args.words.now c.as_slice.result.now c.build.result (is g (goal.at.returns-clause-bits g c).After-build) c.build.ensures.ones c.build.ensures.len

pub returns-clause-too_long : goal.returns-clause-too_long
returns-clause-too_long g c =
    let count = ap (λ (l : List ℕ). length l) (is g (goal.at.returns-clause-too_long g c).After-build) ∙ positions_are_counted (bits_of c.args.words.now) true in
    (λ e. omega (arith, c.build.ensures.too_long.0 e, count), λ l. c.build.ensures.too_long.1 (omega (arith, l, count)))

pub returns-clause-refused : goal.returns-clause-refused
returns-clause-refused g c =
    refused c.build.result (64 * length c.args.words.now) c.as_slice.result.now
    (subst (λ (ys : List ℕ). AreBitPositions (64 * length c.args.words.now) 0 ys) (sym (is g (goal.at.returns-clause-refused g c).After-build))
    (are_positions_of_words c.args.words.now))
    c.build.ensures.not_rising.0 c.build.ensures.past_end.0

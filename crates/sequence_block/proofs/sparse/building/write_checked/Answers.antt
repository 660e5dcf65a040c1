-- The block of the positions is that of the bits.
use Rattle.std.proofs.Common.{ℕ, sym, subst}
use Rattle.sparse_bits.specs.Positions.{AreBitPositions}
use Rattle.sequence_block.specs.SparseBlock.{sparse_in, HoldsOnes}
use Rattle.sequence_block.proofs.sparse.building.write_checked.Goals as goal

pub returns-clause-block : goal.returns-clause-block
returns-clause-block c =
    let xs = c.args.positions.now in
    let is = c.in-Ok.ensures.block in
    let ones : HoldsOnes xs (sparse_in c.build_as.new.block) = record {
      holds = is.holds;
      positions = subst (λ (n : ℕ). AreBitPositions n 0 xs) (sym is.besides) c.in_ok-check_ones.ensures.positions;
    } in
    record {
      sound = record { sequence = is.sound; bits = (xs, ones) };
      ones = ones;
      len = is.besides;
    }

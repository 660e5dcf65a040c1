-- All digits are fewer than 2 ^ 63.
use Rattle.std.proofs.Common.{◌*◌, ◌/◌, arith}
use Rattle.bit_lists.proofs.BitLaws.{digits_bound_powers}
use Rattle.matrix_levels.proofs.digits.known_for.Goals as goal

pub returns-clause-few : goal.returns-clause-few
returns-clause-few c =
    omega (
      arith,
      c.min.ensures,
      c.saturating_sub.ensures,
      c.bits_to_store.ensures,
      (digits_bound_powers (c.args.len * c.args.width / 4096) 63).1 (omega (arith, c.requires.short)),
    )

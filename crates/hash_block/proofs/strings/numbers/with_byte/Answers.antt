-- The byte is shifted to its position, above the others.
use Rattle.std.proofs.Common.{arith}
use Rattle.hash_block.proofs.NumberLemmas.{is_shifted}
use Rattle.hash_block.proofs.strings.numbers.with_byte.Goals as goal

pub overflow_add-result : goal.overflow_add-result
overflow_add-result c =
    let is = is_shifted c.args.number c.args.byte c.args.j c.requires.number c.requires.byte c.requires.position in record {
      fits = omega (arith, is.shifted, is.fits);
    }

pub returns-clause-value : goal.returns-clause-value
returns-clause-value c =
    let is = is_shifted c.args.number c.args.byte c.args.j c.requires.number c.requires.byte c.requires.position in omega (arith, is.shifted)

pub returns-clause-bound : goal.returns-clause-bound
returns-clause-bound c =
    let is = is_shifted c.args.number c.args.byte c.args.j c.requires.number c.requires.byte c.requires.position in omega (arith, is.shifted, is.bound)

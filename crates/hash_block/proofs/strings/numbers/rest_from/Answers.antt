-- One more byte of the number.
use Rattle.std.proofs.Common.{refl, arith}
use Rattle.hash_block.specs.Bytes.{bytes_from}
use Rattle.hash_block.specs.SipHash.{number_from}
use Rattle.hash_block.proofs.HashLemmas.{number_more}
use Rattle.hash_block.proofs.strings.numbers.rest_from.Goals as goal

pub loop-j-init : goal.loop-j-init
unfolding number_from
loop-j-init c = record { value = refl; bound = omega arith }

pub loop-j-preserved : goal.loop-j-preserved
loop-j-preserved c = record {
  value = number_more (bytes_from c.args.bytes.now c.args.begin) c.args.at c.loop-j.j c.loop-j.number _ c.with_byte-number.result
      c.loop-j.invariant.value refl c.with_byte-number.ensures.value;
  bound = c.with_byte-number.ensures.bound;
}

-- One more byte is hashed.
use Rattle.std.proofs.Common.{refl}
use Rattle.hash_block.specs.Bytes.{bytes_from}
use Rattle.hash_block.specs.Kinds.{fnv_of}
use Rattle.hash_block.proofs.HashLemmas.{fnv_more}
use Rattle.hash_block.proofs.strings.fnv.fnv_between.Goals as goal

pub loop-j-init : goal.loop-j-init
unfolding fnv_of
loop-j-init c = refl

pub loop-j-preserved : goal.loop-j-preserved
loop-j-preserved c =
    fnv_more c.args.seed (bytes_from c.args.bytes.now c.args.begin) c.loop-j.j c.loop-j.hash _ c.mix-hash.result c.loop-j.invariant refl c.mix-hash.ensures

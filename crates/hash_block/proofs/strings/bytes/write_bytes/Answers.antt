-- One more byte is copied.
use Rattle.std.proofs.Common.{refl, ◌∙◌}
use Rattle.hash_block.proofs.ByteLemmas.{copied_more}
use Rattle.hash_block.proofs.strings.bytes.write_bytes.Goals as goal

pub loop-j-preserved : goal.loop-j-preserved
loop-j-preserved c = record {
  copied =
      copied_more c.args.to.now c.loop-j.to c.set_byte.new.words c.args.from.now c.args.begin c.args.at c.loop-j.j _ c.loop-j.invariant.copied refl
      c.set_byte.ensures.written c.set_byte.ensures.beside;
  len = c.set_byte.ensures.len ∙ c.loop-j.invariant.len;
}

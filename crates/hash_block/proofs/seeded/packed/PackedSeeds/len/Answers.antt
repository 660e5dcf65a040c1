-- As many seeds as are read.
use Rattle.std.proofs.Common.{length, sym, ap, ◌∙◌}
use Rattle.hash_block.proofs.SeedLemmas.{seeds_len}
use Rattle.hash_block.proofs.seeded.packed.PackedSeeds.len.Goals as goal

pub returns : goal.returns
returns c = sym (seeds_len c.self.inside.words.now c.self.inside.len) ∙ ap length c.self.view_is

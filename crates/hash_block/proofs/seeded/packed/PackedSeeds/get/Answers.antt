-- The seed that is read stands there.
use Rattle.std.proofs.Common.{List, ℕ, slice_index, sym, ap, ◌∙◌, arith}
use Rattle.hash_block.proofs.SeedLemmas.{no_seed, seed_at}
use Rattle.hash_block.proofs.seeded.packed.PackedSeeds.get.Goals as goal

pub returns-then-k-self : goal.returns-then-k-self
returns-then-k-self c =
    c.get_fragment.ensures.value
    ∙ sym (seed_at c.self.inside.words.now c.self.inside.len c.args.k (omega (arith, c.if-k-self.true)))
    ∙ ap (λ (s : List ℕ). slice_index s c.args.k) c.self.view_is

pub returns-else-k-self : goal.returns-else-k-self
returns-else-k-self c =
    sym (no_seed c.self.inside.words.now c.self.inside.len c.args.k (omega (arith, c.if-k-self.false)))
    ∙ ap (λ (s : List ℕ). slice_index s c.args.k) c.self.view_is

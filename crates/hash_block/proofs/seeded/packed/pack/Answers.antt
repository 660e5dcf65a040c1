-- One more seed is written.
use Rattle.std.proofs.Common.{◌≡◌, ℕ, ◌∙◌, length, refl, subst, arith}
use Rattle.hash_block.proofs.SeedLemmas.{none_packed, packed_are, packed_more, ArePacked}
use Rattle.hash_block.proofs.seeded.packed.pack.Goals as goal

pub loop-k-init : goal.loop-k-init
loop-k-init c = record {
  packed = none_packed c.clear.new.words c.args.seeds.now (length c.args.to.now) c.clear.ensures;
  len = refl;
}

pub loop-k-preserved : goal.loop-k-preserved
loop-k-preserved c = record {
  packed =
      packed_more c.loop-k.to c.set_seed.new.words c.args.seeds.now c.loop-k.k c.loop-k.invariant.packed c.set_seed.ensures.written
      c.set_seed.ensures.beside;
  len = c.set_seed.ensures.len ∙ c.loop-k.invariant.len;
}

pub returns-clause-seeds : goal.returns-clause-seeds
returns-clause-seeds c =
    let end : c.loop-k.k ≡ length c.args.seeds.now = omega (arith, c.loop-k-test.false, c.loop-k.auto.k-end) in
    packed_are c.loop-k.to c.args.seeds.now
    (subst (λ (n : ℕ). ArePacked c.loop-k.to c.args.seeds.now n) end c.loop-k.invariant.packed)

pub returns-clause-padding : goal.returns-clause-padding
returns-clause-padding c = λ k past.
    c.loop-k.invariant.packed.rest k (omega (arith, past, c.loop-k-test.false, c.loop-k.auto.k-end))

-- The words have the bits of the hash, so its numbers are those of the levels.
use Rattle.std.proofs.Common.{ℕ, Option, sym, ap, ◌∙◌}
use Rattle.bit_lists.specs.Bits.{bits_of}
use Rattle.bit_lists.specs.Count.{ones_of}
use Rattle.perfect_hash.specs.Perfect.{IsMinimalPerfect}
use Rattle.hash_block.specs.Dictionary.{IsDictionaryOf}
use Rattle.hash_block.specs.declared.hashing.Added.{Added}
use Rattle.hash_block.proofs.NumberedLemmas.{renumbered}
use Rattle.hash_block.proofs.keyed.write_hashed.Goals as goal

pub write_dictionary-requires-clause-numbers : goal.write_dictionary-requires-clause-numbers
write_dictionary-requires-clause-numbers g c =
    let hash = c.args.hash.now in
    record {
      perfect =
          renumbered (λ (number : ℕ → Option ℕ). IsMinimalPerfect number c.args.keys.now) hash.bits (bits_of c.args.words.now) hash.sizes c.sizes.result.now
          hash.hasher.seed c.hasher.result.now.seed (sym c.requires.bits) (sym c.sizes.ensures.value) (sym (ap (λ (h : Added). h.seed) c.hasher.ensures))
          c.requires.perfect;
      ones = ap ones_of c.requires.bits ∙ c.requires.ones;
    }

pub returns : goal.returns
returns g c =
    let hash = c.args.hash.now in
    renumbered (λ (number : ℕ → Option ℕ). IsDictionaryOf number c.args.keys.now c.write_dictionary.new.block) (bits_of c.args.words.now) hash.bits
    c.sizes.result.now hash.sizes c.hasher.result.now.seed hash.hasher.seed c.requires.bits c.sizes.ensures.value (ap (λ (h : Added). h.seed) c.hasher.ensures)
    c.write_dictionary.ensures

-- The hash is that of the levels.
use Rattle.std.proofs.Common.{sym, subst}
use Rattle.perfect_hash.specs.Perfect.{IsMinimalPerfect}
use Rattle.hash_block.specs.Dictionary.{number_of_key, StandAtNumbers}
use Rattle.hash_block.specs.Parts.{HashParts}
use Rattle.hash_block.proofs.keyed_parts.write_keys_by.Goals as goal

pub write_keys-requires-clause-perfect : goal.write_keys-requires-clause-perfect
write_keys-requires-clause-perfect c =
    subst (λ (h : HashParts). IsMinimalPerfect (number_of_key h) c.args.keys.now) (sym c.hash_over-hash.ensures) c.requires.numbers.perfect

pub returns-clause-all : goal.returns-clause-all
returns-clause-all c =
    subst (λ (h : HashParts). StandAtNumbers (number_of_key h) c.args.keys.now c.write_keys.new.to) c.hash_over-hash.ensures c.write_keys.ensures.all

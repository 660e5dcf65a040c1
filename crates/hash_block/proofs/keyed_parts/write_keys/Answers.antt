-- Each key is written at its number, and none other there.
use Rattle.std.proofs.Common.{◌≡◌, ◌+◌, ℕ, List, Some, None, get_or, sym, ◌∙◌, subst}
use Rattle.std.proofs.lemmas.Option.{slice_get-get_or}
use Rattle.hash_block.specs.Dictionary.{number_of_key}
use Rattle.hash_block.proofs.KeyLemmas.{StandTo, StandTo-next, all_stand, numbered}
use Rattle.hash_block.proofs.keyed_parts.write_keys.Goals as goal
use Rattle.hash_block.proofs.keyed_parts.write_keys.Goals.{in-Some, in-None}

not_none : (v : ℕ) → Some v ≡ None → ⊥
not_none v h = cc

pub loop-key-preserved : goal.loop-key-preserved
loop-key-preserved c =
    let number = number_of_key c.args.hash.now in
    let keys = c.args.keys.now in
    let i = c.loop-key.key-index in
    let here = slice_get-get_or keys i 0 c.loop-key-test.true in
    elim c.match-number_of.branch [
      | in-Some w ↦ record {
        stand = subst (λ (s : List ℕ). StandTo number keys s (i + 1)) (sym w.to-is)
            (StandTo-next number keys c.requires.perfect c.loop-key.to i w.in-Some.number (get_or keys i 0) c.loop-key.invariant.stand
            c.loop-key.invariant.len here (sym c.number_of.ensures.number ∙ w.in-Some.is));
        len = c.match-number_of.auto.to ∙ c.loop-key.invariant.len;
      }
      | in-None w ↦
          let some = numbered number keys c.requires.perfect i (get_or keys i 0) here in
          absurd (not_none some.0 (sym some.1 ∙ sym c.number_of.ensures.number ∙ w.in-None.is))
    ]

pub returns-clause-all : goal.returns-clause-all
returns-clause-all c =
    all_stand (number_of_key c.args.hash.now) c.args.keys.now c.requires.perfect c.loop-key.to c.loop-key.key-index c.loop-key.invariant.stand
    c.loop-key-test.false

-- The fingerprints are set; where the parts are those of a hash, by the numbers of the keys.
use Rattle.std.proofs.Common.{◌≡◌, length, refl, true, arith}
use Rattle.bitm_abi.specs.Hash.{parts_of}
use Rattle.bitm_keys_c.proofs.PrintLemmas.{not_both, set_kept, set_room, set_status, set_written}
use Rattle.bitm_keys_c.proofs.hashes.prints.bitm_hash_set_prints.Goals as goal

pub returns-then-all-clause-written : goal.returns-then-all-clause-written
returns-then-all-clause-written c = λ _ right.
    set_written (parts_of c.args.hash.now) c.args.key_hashes.now c.args.key_prints.now c.args.prints.now c.write_each-all.new.prints c.args.width
    (length c.args.key_hashes.now) (0 ≡ 0)
    (set_status (parts_of c.args.hash.now) c.in-Some.borrowed c.in-Some.ensures.1 c.args.key_hashes.now c.args.key_prints.now c.args.prints.now
    c.write_each-all.new.prints c.args.width (length c.args.key_hashes.now) c.write_each-all.result 0 (λ _. refl) (λ _. c.if-all.true)
    c.write_each-all.ensures.set)
    right

pub returns-then-all-clause-kept : goal.returns-then-all-clause-kept
returns-then-all-clause-kept c = λ _ right.
    set_kept (parts_of c.args.hash.now) c.args.key_hashes.now c.args.key_prints.now c.args.prints.now c.write_each-all.new.prints c.args.width
    (length c.args.key_hashes.now) (0 ≡ 0)
    (set_status (parts_of c.args.hash.now) c.in-Some.borrowed c.in-Some.ensures.1 c.args.key_hashes.now c.args.key_prints.now c.args.prints.now
    c.write_each-all.new.prints c.args.width (length c.args.key_hashes.now) c.write_each-all.result 0 (λ _. refl) (λ _. c.if-all.true)
    c.write_each-all.ensures.set)
    right

pub returns-then-all-clause-room : goal.returns-then-all-clause-room
returns-then-all-clause-room c = λ _ right.
    set_room (parts_of c.args.hash.now) c.args.key_hashes.now c.args.key_prints.now c.args.prints.now c.write_each-all.new.prints c.args.width
    (length c.args.key_hashes.now) (0 ≡ 0)
    (set_status (parts_of c.args.hash.now) c.in-Some.borrowed c.in-Some.ensures.1 c.args.key_hashes.now c.args.key_prints.now c.args.prints.now
    c.write_each-all.new.prints c.args.width (length c.args.key_hashes.now) c.write_each-all.result 0 (λ _. refl) (λ _. c.if-all.true)
    c.write_each-all.ensures.set)
    right

pub returns-else-all-clause-written : goal.returns-else-all-clause-written
returns-else-all-clause-written c = λ _ right.
    set_written (parts_of c.args.hash.now) c.args.key_hashes.now c.args.key_prints.now c.args.prints.now c.write_each-all.new.prints c.args.width
    (length c.args.key_hashes.now) (3 ≡ 0)
    (set_status (parts_of c.args.hash.now) c.in-Some.borrowed c.in-Some.ensures.1 c.args.key_hashes.now c.args.key_prints.now c.args.prints.now
    c.write_each-all.new.prints c.args.width (length c.args.key_hashes.now) c.write_each-all.result 3
    (λ yes. absurd (not_both c.write_each-all.result c.if-all.false yes)) (λ e. absurd (omega (arith, e))) c.write_each-all.ensures.set)
    right

pub returns-else-all-clause-kept : goal.returns-else-all-clause-kept
returns-else-all-clause-kept c = λ _ right.
    set_kept (parts_of c.args.hash.now) c.args.key_hashes.now c.args.key_prints.now c.args.prints.now c.write_each-all.new.prints c.args.width
    (length c.args.key_hashes.now) (3 ≡ 0)
    (set_status (parts_of c.args.hash.now) c.in-Some.borrowed c.in-Some.ensures.1 c.args.key_hashes.now c.args.key_prints.now c.args.prints.now
    c.write_each-all.new.prints c.args.width (length c.args.key_hashes.now) c.write_each-all.result 3
    (λ yes. absurd (not_both c.write_each-all.result c.if-all.false yes)) (λ e. absurd (omega (arith, e))) c.write_each-all.ensures.set)
    right

pub returns-else-all-clause-room : goal.returns-else-all-clause-room
returns-else-all-clause-room c = λ _ right.
    set_room (parts_of c.args.hash.now) c.args.key_hashes.now c.args.key_prints.now c.args.prints.now c.write_each-all.new.prints c.args.width
    (length c.args.key_hashes.now) (3 ≡ 0)
    (set_status (parts_of c.args.hash.now) c.in-Some.borrowed c.in-Some.ensures.1 c.args.key_hashes.now c.args.key_prints.now c.args.prints.now
    c.write_each-all.new.prints c.args.width (length c.args.key_hashes.now) c.write_each-all.result 3
    (λ yes. absurd (not_both c.write_each-all.result c.if-all.false yes)) (λ e. absurd (omega (arith, e))) c.write_each-all.ensures.set)
    right

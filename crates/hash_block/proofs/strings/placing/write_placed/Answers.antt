-- The strings that are placed have numbers exactly where each number is that of one.
use Rattle.std.proofs.Common.{length}
use Rattle.hash_block.specs.StringsParts.{given_number}
use Rattle.hash_block.proofs.ByteLemmas.{clear_bytes}
use Rattle.hash_block.proofs.PlaceLemmas.{numbers_of_order, order_of_numbers, stored_of_order}
use Rattle.hash_block.proofs.strings.placing.write_placed.Goals as goal

pub arrange-requires-clause-clear : goal.arrange-requires-clause-clear
arrange-requires-clause-clear c = clear_bytes c.clear-2.new.words (length c.args.to.now) c.clear-2.ensures

pub returns-clause-numbers : goal.returns-clause-numbers
returns-clause-numbers c =
    let n = length c.args.ends.now in
    let number = given_number c.args.hash.now c.args.bytes.now c.args.ends.now in
    let placed = c.place.ensures.placed c.if-not-place.false in (
      (λ done. numbers_of_order number n c.place.new.order placed (c.place.ensures.apart.0 c.if-not-place.false) (c.arrange.ensures.some.0 done)),
      (λ numbers. c.arrange.ensures.some.1 (order_of_numbers number n c.place.new.order placed numbers)),
    )

pub returns-clause-stored : goal.returns-clause-stored
returns-clause-stored c = λ done.
    stored_of_order (given_number c.args.hash.now c.args.bytes.now c.args.ends.now) c.args.bytes.now c.args.ends.now c.place.new.order c.arrange.new.starts
    c.arrange.new.to (c.place.ensures.placed c.if-not-place.false) (c.arrange.ensures.some.0 done) (c.arrange.ensures.arranged done)

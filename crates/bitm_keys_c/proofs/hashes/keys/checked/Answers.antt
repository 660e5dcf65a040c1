-- The fingerprint that is read is that of the number.
use Rattle.std.proofs.Common.{◌≡◌, ◌+◌, ◌*◌, ◌≤◌, length, refl, sym, ap, ◌∙◌, arith}
use Rattle.bit_lists.specs.Number.{number_at}
use Rattle.perfect_hash.specs.Dictionary.{print_at}
use Rattle.bitm_keys_c.proofs.PrintLemmas.{whole}
use Rattle.bitm_keys_c.proofs.hashes.keys.checked.Goals as goal
use Rattle.bitm_keys_c.proofs.hashes.keys.checked.Goals.{After-lowest_bits}

module _ (c : After-lowest_bits) where
  room : c.args.number * c.args.width + c.args.width ≤ 64 * length c.args.prints.now
  room = omega (arith, c.in-Some.ensures.0.1, c.requires.few)

  found : c.in-Some.found ≡ print_at c.args.prints.now c.args.width c.args.number
  found = c.in-Some.ensures.1 ∙ ap (λ b. number_at b (c.args.number * c.args.width) c.args.width) (whole c.args.prints.now)

pub returns-then-found-lowest_bits : goal.returns-then-found-lowest_bits
returns-then-found-lowest_bits c =
    let d = (goal.at.returns-then-found-lowest_bits c).After-lowest_bits in
    (refl, room d, sym (found d) ∙ c.if-found-lowest_bits.true ∙ c.lowest_bits.ensures)

pub returns-else-found-lowest_bits : goal.returns-else-found-lowest_bits
returns-else-found-lowest_bits c =
    let d = (goal.at.returns-else-found-lowest_bits c).After-lowest_bits in
    (room d, λ is. c.if-found-lowest_bits.false (found d ∙ is ∙ sym c.lowest_bits.ensures))

-- A word of zeros was added behind.
use Rattle.std.proofs.Common.{ℕ, List, sym, subst, arith}
use Rattle.bitm_bits.specs.Appending.{HasRoom}
use Rattle.bitm_bits.proofs.lemmas.AppendLemmas.{room_made}
use Rattle.bitm_bits.proofs.appending.make_room.Goals as goal

pub returns-in_ok-push-clause-ok : goal.returns-in_ok-push-clause-ok
returns-in_ok-push-clause-ok c =
    let P : List ℕ → Type 0 = λ w. HasRoom c.args.words.now.items w c.args.len c.args.count in
    subst P (sym c.in_ok-push.ensures.items)
    (room_made c.args.words.now.items c.args.len c.args.count c.requires.filled c.requires.most (omega (arith, c.if-len-div_ceil.true)))

-- The first bits up to the end are all.
use Rattle.std.proofs.Common.{◌≡◌, ℕ, ◌+◌, ◌-◌, ◌*◌, ◌<◌, Bool, true, List, length, min, slice_index, subst, take_all, arith}
use Rattle.bit_lists.proofs.lemmas.BitsLemmas.{length-bits_of}
use Rattle.bit_lists.specs.Bits.{bits_of}
use Rattle.bit_lists.specs.Count.{ones_before, ones_of, Picks}
use Rattle.tables_view.proofs.positions.ones_from.Goals as goal

pub returns-clause-number : goal.returns-clause-number
returns-clause-number c =
    let all = take_all (length c.args.words.now * 64) (bits_of c.args.words.now) (omega (arith, length-bits_of c.args.words.now)) in
    subst (λ (b : List Bool). c.positions_in.result ≡ min (length c.args.out.now) (ones_of b - ones_before b c.args.from)) all c.positions_in.ensures.number

pub returns-clause-positions : goal.returns-clause-positions
returns-clause-positions c =
    let all = take_all (length c.args.words.now * 64) (bits_of c.args.words.now) (omega (arith, length-bits_of c.args.words.now)) in
    subst (λ (b : List Bool). (j : ℕ) → j < c.positions_in.result → Picks b true (ones_before b c.args.from + j) (slice_index c.positions_in.new.out j)) all
    c.positions_in.ensures.positions

-- A slot that is used has the next free slot, of which there is one.
use Rattle.std.proofs.Common.{◌≡◌, ◌+◌, ◌≤◌, ◌<◌, ℕ, true, false, length, sym, ◌∙◌, arith}
use Rattle.bit_lists.specs.Bits.{bits_of, item}
use Rattle.bit_lists.specs.Count.{IsFirstFrom}
use Rattle.bit_lists.proofs.BitLaws.{bits_are_counted}
use Rattle.hash_buckets.proofs.lemmas.FreeLemmas.{never-full, next-same, next-used}
use Rattle.hash_buckets.proofs.filling.next_free.Goals as goal
use Rattle.hash_buckets.proofs.filling.next_free.Goals.{in_default-via-in-Some+else-slot-keys, in_default-via-in_default}

pub returns-then-not-get_bit : goal.returns-then-not-get_bit
returns-then-not-get_bit c =
    next-same (bits_of c.args.used.now) c.args.keys c.args.i c.args.last c.args.at (omega (arith, bits_are_counted c.args.used.now, c.requires.inside))
    (sym c.get_bit.ensures ∙ c.if-not-get_bit.true) c.requires.order c.requires.below c.requires.within c.requires.taken

pub unreachable-requires : goal.unreachable-requires
unreachable-requires c =
    let b = bits_of c.args.used.now in
    let inside : c.args.keys + c.args.i < length b = omega (arith, bits_are_counted c.args.used.now, c.requires.inside) in
    let full : ((p : ℕ) → c.args.at ≤ p → p < c.args.keys → item b p ≡ true) =
    elim c.in_default.branch [
      | in_default-via-in-Some+else-slot-keys w ↦ (
          let first : IsFirstFrom b false c.args.at w.in-Some.slot = w.in-Some.ensures in
          λ p from to. first.least p from (omega (arith, to, w.if-slot-keys.false))
          )
      | in_default-via-in_default w ↦ (λ p from to. w.in_default.ensures p from (omega (arith, to, inside)))
    ] in
    never-full b c.args.keys c.args.i c.args.at inside (sym c.get_bit.ensures ∙ c.if-not-get_bit.false) c.requires.within c.requires.few c.requires.taken full

pub returns : goal.returns
returns c =
    next-used (bits_of c.args.used.now) c.args.keys c.args.i c.args.last c.args.at c.in-Some.slot (omega (arith, bits_are_counted c.args.used.now, c.requires.inside))
    (sym c.get_bit.ensures ∙ c.if-not-get_bit.false) c.requires.order c.if-slot-keys.true c.in-Some.ensures c.requires.taken

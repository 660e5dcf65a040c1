use Rattle.std.proofs.Common.{◌≡◌, ◌+◌, ◌*◌, ◌^◌, ◌<◌, length}
use Rattle.bit_lists.specs.Coming.{coming}
use Rattle.bit_words.proofs.positions.BitBIteratorIterator.next.Given as goal

abbrev pub invariant-loop-self : goal.invariant-loop-self
invariant-loop-self g l =
    let now = l.self-inside in
    let was = l.initial.self-inside in
    record {
      same : coming g.row.BIT now.first now.current now.rest.now ≡ coming g.row.BIT was.first was.current was.rest.now;
      room : now.first + 64 * length now.rest.now + 64 < 2 ^ 64;
    }

abbrev pub decreases-loop-self : goal.decreases-loop-self
decreases-loop-self g l = length l.self-inside.rest.now

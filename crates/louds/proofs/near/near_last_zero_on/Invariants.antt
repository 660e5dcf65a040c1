use Rattle.std.proofs.Common.{◌≡◌, ℕ, ◌+◌, ◌/◌, ◌<◌, ◌≤◌, true}
use Rattle.bit_lists.specs.Bits.{item}
use Rattle.bitm_tables.specs.Reads.{ReadsAtMost}
use Rattle.bitm_tables.specs.Tables.{bits_in}
use Rattle.louds.proofs.near.near_last_zero_on.Given as goal

-- ones alone stand behind the last position that is left, and a word was read in each round
abbrev pub invariant-loop : goal.invariant-loop
invariant-loop g l =
    let lists = g.T.TableSource.lists l.fn.source in
    record {
      order : l.last ≤ l.fn.to;
      back : l.last / 64 + l.counter ≡ l.fn.to / 64;
      ones : (i : ℕ) → l.last < i → i ≤ l.fn.to → item (bits_in lists) i ≡ true;
      same : g.T.TableSource.lists l.source ≡ lists;
      reads : ReadsAtMost (g.T.TableSource.reads l.fn.source) (g.T.TableSource.reads l.source) 0 0 l.counter;
    }

use Rattle.std.proofs.Common.{◌≡◌, ℕ, ◌+◌, ◌/◌, ◌<◌, ◌≤◌, true}
use Rattle.bit_lists.specs.Bits.{item}
use Rattle.bitm_tables.specs.Reads.{ReadsAtMost}
use Rattle.bitm_tables.specs.Tables.{bits_in}
use Rattle.bitm.proofs.near.near_zero_on.Given as goal

-- ones alone stand from the first position on up to the start of the word that comes, and a word was read in each round
abbrev pub invariant-loop : goal.invariant-loop
invariant-loop g l =
    let lists = g.T.TableSource.lists l.fn.source in
    record {
      order : l.fn.from ≤ l.start;
      on : l.start / 64 ≡ l.fn.from / 64 + l.counter;
      ones : (i : ℕ) → l.fn.from ≤ i → i < l.start → item (bits_in lists) i ≡ true;
      same : g.T.TableSource.lists l.source ≡ lists;
      reads : ReadsAtMost (g.T.TableSource.reads l.fn.source) (g.T.TableSource.reads l.source) 0 0 l.counter;
    }

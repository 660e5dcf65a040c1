use Rattle.std.proofs.Common.{◌≡◌, ◌+◌, ◌*◌, ◌/◌, ◌<◌, ◌≤◌, ℕ, false}
use Rattle.bit_lists.specs.Bits.{item}
use Rattle.bitm_tables.specs.Reads.{OnlyReads}
use Rattle.bitm_tables.specs.Tables.{bits_in}
use Rattle.postings.proofs.near.next_one_on.Given as goal

-- zeros stand from the position on up to the bit where the search goes on
abbrev pub invariant-loop-k : goal.invariant-loop-k
invariant-loop-k g l = record {
  zeros : (i : ℕ) → l.position ≤ i → i < 64 * (l.position / 64 + l.k) + l.from → item (bits_in (g.T.TableSource.lists l.fn.source)) i ≡ false;
  order : l.position ≤ 64 * (l.position / 64 + l.k) + l.from;
  digit : l.from < 64;
  reads : OnlyReads g.T.TableSource.lists g.T.TableSource.reads l.fn.source l.source 0 0 l.k;
}

use Rattle.std.proofs.Common.{◌≡◌, ℕ, ◌+◌, ◌-◌, ◌*◌, ◌<◌, ◌≤◌, length, slice_index}
use Rattle.bitm_tables.specs.Reads.{OnlyReads}
use Rattle.bitm_tables.specs.Tables.{bits_in}
use Rattle.perfect_hash.specs.Levels.{fall_in, position_from}
use Rattle.perfect_hash.specs.Listed.{IsCodeAt}
use Rattle.perfect_hash.proofs.listed.number_each_on.Given as goal

-- the hashes so far are numbered, each within its reads
abbrev pub invariant-loop-from : goal.invariant-loop-from
invariant-loop-from g l =
    let T = g.T.TableSource in
    let lists = T.lists l.fn.source in
    record {
      inside : l.from ≤ length l.hashes;
      long : length l.numbers ≡ length l.hashes;
      each : (k : ℕ) → k < l.from
          → IsCodeAt (position_from (fall_in (g.P.Placing.fall l.placing) l.sizes (slice_index l.hashes k)) (bits_in lists) 0 0 l.sizes) l.count l.absent lists
          (slice_index l.numbers k);
      reads : OnlyReads T.lists T.reads l.fn.source l.source l.from l.from (l.from * (length l.sizes + 8));
    }

abbrev pub decreases-loop-from : goal.decreases-loop-from
decreases-loop-from g l = length l.hashes - l.from

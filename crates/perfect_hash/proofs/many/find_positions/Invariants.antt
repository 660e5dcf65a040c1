use Rattle.std.proofs.Common.{◌≡◌, ℕ, ◌*◌, ◌<◌, ◌≤◌, length, slice_index, sum, take}
use Rattle.bitm_tables.specs.Reads.{OnlyReads}
use Rattle.perfect_hash.specs.Levels.{fall_in}
use Rattle.perfect_hash.specs.Many.{AreLookedUp}
use Rattle.perfect_hash.proofs.many.find_positions.Given as goal

-- those so far wait
abbrev pub invariant-loop-k : goal.invariant-loop-k
invariant-loop-k g l = record {
  room : length l.hashes ≤ length l.waiting;
  own : (k : ℕ) → k < l.k → slice_index l.waiting k ≡ k;
}

-- all are before the level, and each has read a word for each level so far at most
abbrev pub invariant-loop-level : goal.invariant-loop-level
invariant-loop-level g l =
    let T = g.T.TableSource in
    record {
      long : length l.positions ≡ length l.hashes;
      begins : l.begin ≡ sum (take l.level l.sizes);
      each : AreLookedUp (fall_in (g.P.Placing.fall l.placing) l.sizes) (g.Q.Query.bits l.query (T.lists l.fn.source)) l.sizes l.level l.begin
          l.hashes l.positions l.waiting l.count;
      fewer : l.count ≤ length l.hashes;
      inside : l.level ≤ length l.sizes;
      reads : OnlyReads T.lists T.reads l.fn.source l.source 0 0 (length l.hashes * l.level);
    }

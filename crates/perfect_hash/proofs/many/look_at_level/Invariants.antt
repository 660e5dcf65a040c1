use Rattle.std.proofs.Common.{◌≡◌, ◌+◌, length, slice_index}
use Rattle.bitm_tables.specs.Reads.{OnlyReads}
use Rattle.perfect_hash.specs.Levels.{fall_in}
use Rattle.perfect_hash.proofs.lemmas.ManyLemmas.{Midway}
use Rattle.perfect_hash.proofs.many.look_at_level.Given as goal

-- so many of those that wait are looked up, each by one word at most
abbrev pub invariant-loop-i : goal.invariant-loop-i
invariant-loop-i g l =
    let T = g.T.TableSource in
    record {
      long : length l.positions ≡ length l.hashes;
      midway : Midway (fall_in (g.P.Placing.fall l.placing) l.sizes) (g.Q.Query.bits l.query (T.lists l.fn.source)) l.sizes l.level l.begin
          (l.begin + slice_index l.sizes l.level) l.hashes l.positions l.waiting l.kept l.i l.count;
      reads : OnlyReads T.lists T.reads l.fn.source l.source 0 0 l.i;
    }

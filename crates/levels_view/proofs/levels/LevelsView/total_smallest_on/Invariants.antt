use Rattle.std.proofs.Common.{◌*◌, ◌-◌, ◌^◌, ◌<◌, ◌≤◌, slice_range}
use Rattle.matrix_levels.specs.Matrix.{IsMatrix, OnlyRanks, numbers_in}
use Rattle.matrix_levels.proofs.lemmas.RangeLemmas.{IsQuantilePrefix}
use Rattle.levels_view.proofs.levels.LevelsView.total_smallest_on.Given as goal

-- the range is inside, has more numbers than are left to pass, and no more than it had; in a matrix it has those that
-- begin with the number's first bits, one of which is sought
abbrev pub invariant-loop-depth : goal.invariant-loop-depth
invariant-loop-depth g l =
    let T = g.T.TableSource in
    let lists = T.lists l.fn.source in
    let xs = numbers_in l.self lists in
    record {
      inside : l.last ≤ l.self.len;
      rank : l.left < l.last - l.first;
      most : l.last - l.first ≤ l.end - l.start;
      small : l.number < 2 ^ l.depth;
      prefix : IsMatrix l.self lists
          → IsQuantilePrefix xs l.self.width l.depth l.number (slice_range xs l.start l.end) l.first l.last l.left l.k;
      reads : OnlyRanks l.self T.lists T.reads l.fn.source l.source (2 * l.depth);
    }

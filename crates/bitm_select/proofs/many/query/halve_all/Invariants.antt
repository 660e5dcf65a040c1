use Rattle.std.proofs.Common.{◌≡◌, ◌+◌, ◌*◌, ◌^◌, ◌≤◌, length}
use Rattle.bitm_select.specs.Many.{AreSearches}
use Rattle.bitm_select.proofs.many.query.halve_all.Given as goal

-- where each search is, and one read of each for each halving
abbrev pub invariant-loop-size : goal.invariant-loop-size
invariant-loop-size g l =
    let T = g.T.TableSource in
    let lists = T.lists l.fn.source in
    let n = length l.ranks in
    record {
      size : l.size ≤ 21;
      searches : AreSearches g.row.BIT lists l.ranks l.queries l.size;
      upper : (T.reads l.source).upper ≤ (T.reads l.fn.source).upper;
      upper_kept : (T.reads l.fn.source).upper ≤ (T.reads l.source).upper;
      lower : (T.reads l.source).lower + l.size * n ≤ (T.reads l.fn.source).lower + 21 * n;
      lower_kept : (T.reads l.fn.source).lower ≤ (T.reads l.source).lower;
      few : length lists.lower ≤ 2 ^ 18 → (T.reads l.source).lower + l.size * n ≤ (T.reads l.fn.source).lower + 18 * n;
      words : (T.reads l.source).words ≤ (T.reads l.fn.source).words;
      words_kept : (T.reads l.fn.source).words ≤ (T.reads l.source).words;
      same : T.lists l.source ≡ lists;
    }

abbrev pub decreases-loop-size : goal.decreases-loop-size
decreases-loop-size g l = l.size

use Rattle.std.proofs.Common.{◌≡◌, ℕ, ◌+◌, ◌*◌, ◌<◌, ◌≤◌, length, slice_index, slice_index_or}
use Rattle.bitm_select.specs.Many.{IsBegun}
use Rattle.bitm_select.specs.declared.many.ranks.Begun.{Begun}
use Rattle.bitm_select.proofs.many.ranks.begin_each.Given as goal

-- the ranks that were begun, and the reads of each
abbrev pub invariant-loop-k : goal.invariant-loop-k
invariant-loop-k g l =
    let T = g.T.TableSource in
    let lists = T.lists l.fn.source in
    record {
      enough : length l.indices ≤ length l.begun;
      begun : (j : ℕ) (d : Begun) → j < l.k → IsBegun lists (slice_index l.indices j) (slice_index_or l.begun j d);
      upper : (T.reads l.source).upper ≤ (T.reads l.fn.source).upper;
      upper_kept : (T.reads l.fn.source).upper ≤ (T.reads l.source).upper;
      lower : (T.reads l.source).lower ≤ (T.reads l.fn.source).lower + l.k;
      lower_kept : (T.reads l.fn.source).lower ≤ (T.reads l.source).lower;
      words : (T.reads l.source).words ≤ (T.reads l.fn.source).words + 2 * l.k;
      words_kept : (T.reads l.fn.source).words ≤ (T.reads l.source).words;
      same : T.lists l.source ≡ lists;
    }

use Rattle.std.proofs.Common.{◌≡◌, ℕ, ◌+◌, ◌<◌, ◌≤◌, length, slice_index, slice_index_or}
use Rattle.bitm_select.specs.Many.{IsSearch}
use Rattle.bitm_select.specs.declared.many.query.Query.{Query}
use Rattle.bitm_select.proofs.many.query.halve_each.Given as goal

-- the searches that were halved, those that are left, and the reads of each
abbrev pub invariant-loop-k : goal.invariant-loop-k
invariant-loop-k g l =
    let T = g.T.TableSource in
    let lists = T.lists l.fn.source in
    record {
      enough : length l.ranks ≤ length l.queries;
      halved : (j : ℕ) (d : Query) → j < l.k
          → IsSearch g.row.BIT lists (slice_index l.ranks j) (slice_index_or l.queries j d) l.size;
      left : (j : ℕ) (d : Query) → l.k ≤ j → j < length l.ranks
          → IsSearch g.row.BIT lists (slice_index l.ranks j) (slice_index_or l.queries j d) (l.size + 1);
      upper : (T.reads l.source).upper ≤ (T.reads l.fn.source).upper;
      upper_kept : (T.reads l.fn.source).upper ≤ (T.reads l.source).upper;
      lower : (T.reads l.source).lower ≤ (T.reads l.fn.source).lower + l.k;
      lower_kept : (T.reads l.fn.source).lower ≤ (T.reads l.source).lower;
      words : (T.reads l.source).words ≤ (T.reads l.fn.source).words;
      words_kept : (T.reads l.fn.source).words ≤ (T.reads l.source).words;
      same : T.lists l.source ≡ lists;
    }

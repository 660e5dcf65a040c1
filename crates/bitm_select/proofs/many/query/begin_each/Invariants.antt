use Rattle.std.proofs.Common.{◌≡◌, ℕ, ◌+◌, ◌*◌, ◌<◌, ◌≤◌, length, slice_index, slice_index_or}
use Rattle.bit_lists.specs.Bits.{digit_count}
use Rattle.bitm_select.specs.Many.{IsSearch}
use Rattle.bitm_select.specs.declared.many.query.Query.{Query}
use Rattle.bitm_select.proofs.many.query.begin_each.Given as goal

-- the searches that were begun, and the reads of each
abbrev pub invariant-loop-k : goal.invariant-loop-k
invariant-loop-k g l =
    let T = g.T.TableSource in
    let lists = T.lists l.fn.source in
    record {
      enough : length l.ranks ≤ length l.queries;
      begun : (j : ℕ) (d : Query) → j < l.k → IsSearch g.row.BIT lists (slice_index l.ranks j) (slice_index_or l.queries j d) 21;
      upper : (T.reads l.source).upper ≤ (T.reads l.fn.source).upper + l.k * (digit_count (length lists.upper) + 1);
      upper_kept : (T.reads l.fn.source).upper ≤ (T.reads l.source).upper;
      lower : (T.reads l.source).lower ≤ (T.reads l.fn.source).lower;
      lower_kept : (T.reads l.fn.source).lower ≤ (T.reads l.source).lower;
      words : (T.reads l.source).words ≤ (T.reads l.fn.source).words;
      words_kept : (T.reads l.fn.source).words ≤ (T.reads l.source).words;
      same : T.lists l.source ≡ lists;
    }

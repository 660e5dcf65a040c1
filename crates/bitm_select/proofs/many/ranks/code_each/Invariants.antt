use Rattle.std.proofs.Common.{◌≡◌, ℕ, ◌+◌, ◌*◌, ◌<◌, ◌≤◌, length, slice_index, slice_index_or}
use Rattle.bit_lists.specs.Count.{as_bit}
use Rattle.bitm_select.specs.Answers.{IsRankCode}
use Rattle.bitm_select.proofs.many.ranks.code_each.Given as goal

-- the answers so far, and the reads of each
abbrev pub invariant-loop-k : goal.invariant-loop-k
invariant-loop-k g l =
    let T = g.T.TableSource in
    let lists = T.lists l.fn.source in
    record {
      long : length l.ranks ≡ length l.indices;
      answered : (j d : ℕ) → j < l.k → IsRankCode (as_bit g.row.BIT) lists (slice_index l.indices j) (slice_index_or l.ranks j d);
      upper : (T.reads l.source).upper ≤ (T.reads l.fn.source).upper + l.k;
      upper_kept : (T.reads l.fn.source).upper ≤ (T.reads l.source).upper;
      lower : (T.reads l.source).lower ≤ (T.reads l.fn.source).lower + l.k;
      lower_kept : (T.reads l.fn.source).lower ≤ (T.reads l.source).lower;
      words : (T.reads l.source).words ≤ (T.reads l.fn.source).words + 8 * l.k;
      words_kept : (T.reads l.fn.source).words ≤ (T.reads l.source).words;
      same : T.lists l.source ≡ lists;
    }

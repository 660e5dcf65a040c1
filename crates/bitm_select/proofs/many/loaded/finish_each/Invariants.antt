use Rattle.std.proofs.Common.{◌≡◌, ℕ, ◌+◌, ◌*◌, ◌<◌, ◌≤◌, length, slice_index, slice_index_or}
use Rattle.bit_lists.specs.Count.{as_bit}
use Rattle.bitm_select.specs.Answers.{IsSelectCode}
use Rattle.bitm_select.proofs.many.loaded.finish_each.Given as goal

-- the answers so far, and the reads of each
abbrev pub invariant-loop-k : goal.invariant-loop-k
invariant-loop-k g l =
    let T = g.T.TableSource in
    let lists = T.lists l.fn.source in
    record {
      enough : length l.ranks ≤ length l.positions;
      answered : (j d : ℕ) → j < l.k → IsSelectCode (as_bit g.row.BIT) lists (slice_index l.ranks j) (slice_index_or l.positions j d);
      upper : (T.reads l.source).upper ≤ (T.reads l.fn.source).upper;
      upper_kept : (T.reads l.fn.source).upper ≤ (T.reads l.source).upper;
      lower : (T.reads l.source).lower ≤ (T.reads l.fn.source).lower;
      lower_kept : (T.reads l.fn.source).lower ≤ (T.reads l.source).lower;
      words : (T.reads l.source).words ≤ (T.reads l.fn.source).words + 7 * l.k;
      words_kept : (T.reads l.fn.source).words ≤ (T.reads l.source).words;
      same : T.lists l.source ≡ lists;
    }

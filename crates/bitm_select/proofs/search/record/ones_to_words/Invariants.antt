use Rattle.std.proofs.Common.{◌≡◌, ℕ, ◌+◌, ◌*◌, ◌≤◌, length, slice_index}
use Rattle.bit_lists.specs.Count.{ones_before}
use Rattle.bitm_select.specs.Search.{sought_in}
use Rattle.bitm_select.proofs.search.record.ones_to_words.Given as goal

-- the ones before each word so far, and one read for each
abbrev pub invariant-loop-k : goal.invariant-loop-k
invariant-loop-k g l =
    let T = g.T.TableSource in
    let m = sought_in g.row.BIT (T.lists l.fn.source).words in
    record {
      len : length l.counts ≡ 8;
      counts : (j : ℕ) → j ≤ l.k → ones_before m (64 * l.first) + slice_index l.counts j ≡ ones_before m (64 * (l.first + j));
      words : (T.reads l.source).words ≡ (T.reads l.fn.source).words + l.k;
      upper : (T.reads l.source).upper ≡ (T.reads l.fn.source).upper;
      lower : (T.reads l.source).lower ≡ (T.reads l.fn.source).lower;
      same : T.lists l.source ≡ T.lists l.fn.source;
    }

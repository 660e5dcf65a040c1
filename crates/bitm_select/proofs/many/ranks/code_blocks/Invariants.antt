use Rattle.std.proofs.Common.{◌≡◌, ℕ, ◌+◌, ◌-◌, ◌*◌, ◌<◌, ◌≤◌, length, slice_index}
use Rattle.bit_lists.specs.Count.{as_bit}
use Rattle.bitm_select.specs.Answers.{IsRankCode}
use Rattle.bitm_select.proofs.many.ranks.code_blocks.Given as goal

-- the answers so far, and the reads of each
abbrev pub invariant-loop-from : goal.invariant-loop-from
invariant-loop-from g l =
    let T = g.T.TableSource in
    let lists = T.lists l.fn.source in
    record {
      inside : l.from ≤ length l.indices;
      long : length l.indices ≡ length l.ranks;
      room : length l.begun ≡ 32;
      answered : (j : ℕ) → j < l.from → IsRankCode (as_bit g.row.BIT) lists (slice_index l.indices j) (slice_index l.ranks j);
      upper : (T.reads l.source).upper ≤ (T.reads l.fn.source).upper + l.from;
      upper_kept : (T.reads l.fn.source).upper ≤ (T.reads l.source).upper;
      lower : (T.reads l.source).lower ≤ (T.reads l.fn.source).lower + l.from;
      lower_kept : (T.reads l.fn.source).lower ≤ (T.reads l.source).lower;
      words : (T.reads l.source).words ≤ (T.reads l.fn.source).words + 8 * l.from;
      words_kept : (T.reads l.fn.source).words ≤ (T.reads l.source).words;
      same : T.lists l.source ≡ lists;
    }

abbrev pub decreases-loop-from : goal.decreases-loop-from
decreases-loop-from g l = length l.indices - l.from

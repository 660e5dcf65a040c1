use Rattle.std.proofs.Common.{◌≡◌, ℕ, ◌+◌, ◌-◌, ◌*◌, ◌<◌, ◌≤◌, length, slice_index}
use Rattle.bit_lists.specs.Bits.{digit_count}
use Rattle.bit_lists.specs.Count.{as_bit}
use Rattle.bitm_select.specs.Answers.{IsSelectCode}
use Rattle.bitm_select.proofs.many.lists.code_many_on.Given as goal

-- the answers so far, and the reads of each
abbrev pub invariant-loop-from : goal.invariant-loop-from
invariant-loop-from g l =
    let T = g.T.TableSource in
    let lists = T.lists l.fn.source in
    record {
      inside : l.from ≤ length l.ranks;
      long : length l.ranks ≡ length l.positions;
      answered : (j : ℕ) → j < l.from → IsSelectCode (as_bit g.row.BIT) lists (slice_index l.ranks j) (slice_index l.positions j);
      upper : (T.reads l.source).upper ≤ (T.reads l.fn.source).upper + l.from * (digit_count (length lists.upper) + 1);
      upper_kept : (T.reads l.fn.source).upper ≤ (T.reads l.source).upper;
      lower : (T.reads l.source).lower ≤ (T.reads l.fn.source).lower + (g.F.FindsEntries.lowers + 1) * l.from;
      lower_kept : (T.reads l.fn.source).lower ≤ (T.reads l.source).lower;
      words : (T.reads l.source).words ≤ (T.reads l.fn.source).words + 8 * l.from;
      words_kept : (T.reads l.fn.source).words ≤ (T.reads l.source).words;
      same : T.lists l.source ≡ lists;
    }

abbrev pub decreases-loop-from : goal.decreases-loop-from
decreases-loop-from g l = length l.ranks - l.from

use Rattle.std.proofs.Common.{◌≡◌, ◌+◌, ◌*◌, ◌≤◌}
use Rattle.bit_lists.specs.Bits.{bits_of}
use Rattle.bit_lists.specs.Count.{ones_before}
use Rattle.bitm_select.proofs.many.ranks.tested_ones.Given as goal

-- the ones before the word, which is no later than the end, and one read for each word after the first
abbrev pub invariant-loop-k : goal.invariant-loop-k
invariant-loop-k g l =
    let T = g.T.TableSource in
    let b = bits_of (T.lists l.fn.source).words in
    record {
      order : l.k ≤ l.len;
      ones : ones_before b (64 * l.first) + l.ones ≡ ones_before b (64 * (l.first + l.k));
      few : l.ones ≤ 64 * l.k;
      words : (T.reads l.source).words + 1 ≡ (T.reads l.fn.source).words + l.k;
      upper : (T.reads l.source).upper ≡ (T.reads l.fn.source).upper;
      lower : (T.reads l.source).lower ≡ (T.reads l.fn.source).lower;
      same : T.lists l.source ≡ T.lists l.fn.source;
    }

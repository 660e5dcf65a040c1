use Rattle.std.proofs.Common.{◌≡◌, ◌+◌, ◌*◌}
use Rattle.bit_lists.specs.Count.{ones_before}
use Rattle.bitm_select.specs.Search.{sought_in}
use Rattle.bitm_select.proofs.search.record.among.Given as goal

-- the rank that is left from this word on, and one read for each word so far
abbrev pub invariant-loop-k : goal.invariant-loop-k
invariant-loop-k g l =
    let T = g.T.TableSource in
    let m = sought_in g.row.BIT (T.lists l.fn.source).words in
    record {
      rest : ones_before m (64 * l.first) + l.rank ≡ ones_before m (64 * (l.first + l.k)) + l.rest;
      words : (T.reads l.source).words ≡ (T.reads l.fn.source).words + l.k;
      upper : (T.reads l.source).upper ≡ (T.reads l.fn.source).upper;
      lower : (T.reads l.source).lower ≡ (T.reads l.fn.source).lower;
      same : T.lists l.source ≡ T.lists l.fn.source;
    }

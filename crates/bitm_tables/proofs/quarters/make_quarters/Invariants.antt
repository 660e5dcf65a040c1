use Rattle.std.proofs.Common.{◌≡◌, length}
use Rattle.bitm_tables.specs.Tables.{bits_in}
use Rattle.bitm_tables.proofs.lemmas.QuarterLemmas.{CountTo}
use Rattle.bitm_tables.proofs.quarters.make_quarters.Given as goal

-- a number for each record up to this one
abbrev pub invariant-loop-record : goal.invariant-loop-record
invariant-loop-record g l =
    let T = g.T.TableSource in
    record {
      len : length l.quarters.items ≡ l.record;
      counts : CountTo (bits_in (T.lists l.fn.source)) l.quarters.items l.record;
      same : T.lists l.source ≡ T.lists l.fn.source;
    }

use Rattle.std.proofs.Common.{◌≡◌}
use Rattle.bitm_tables.specs.Tables.{bits_in}
use Rattle.bitm_tables.proofs.lemmas.QuarterLemmas.{CountTo}
use Rattle.bitm_tables.proofs.quarters.fill_quarters.Given as goal

-- the numbers of the basic blocks up to this one, and the words are those that were given
abbrev pub invariant-loop-at : goal.invariant-loop-at
invariant-loop-at g l =
    let T = g.T.TableSource in
    record {
      counts : CountTo (bits_in (T.lists l.fn.source)) l.quarters l.at;
      same : T.lists l.source ≡ T.lists l.fn.source;
    }

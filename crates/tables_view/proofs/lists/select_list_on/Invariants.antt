use Rattle.std.proofs.Common.{◌≡◌, ℕ, ◌<◌, slice_index}
use Rattle.bit_lists.specs.Count.{as_bit}
use Rattle.bitm_select.specs.Answers.{IsSelectCode}
use Rattle.tables_view.proofs.lists.select_list_on.Given as goal

-- the source has the same lists, and the answers so far
abbrev pub invariant-loop-at : goal.invariant-loop-at
invariant-loop-at g l = (g.T.TableSource.lists l.source ≡ g.T.TableSource.lists l.fn.source)
    × ((j : ℕ) → j < l.at
    → IsSelectCode (as_bit g.row.BIT) (g.T.TableSource.lists l.fn.source) (slice_index l.ranks j) (slice_index l.out j))

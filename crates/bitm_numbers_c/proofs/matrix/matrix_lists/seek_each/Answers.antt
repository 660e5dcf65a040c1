-- What is sought is a rank or an index.
use Rattle.std.proofs.Common.{slice_index, sym, subst}
use Rattle.bitm_view.specs.Queries.{selected_by}
use Rattle.bitm_numbers_c.specs.Matrix.{Seeks}
use Rattle.bitm_numbers_c.specs.declared.matrix.matrix_lists.Sought.{Sought}
use Rattle.bitm_numbers_c.proofs.matrix.matrix_lists.seek_each.Goals as goal

pub returns-in-Rank : goal.returns-in-Rank
returns-in-Rank c = λ j less.
    subst (λ (sought : Sought). Seeks sought (slice_index c.args.numbers.now j) (slice_index c.args.ks.now j) c.args.view.now (selected_by (slice_index c.rank_each.new.out j)))
    (sym c.in-Rank.is) (c.rank_each.ensures.ranks j less)

pub returns-in-Index : goal.returns-in-Index
returns-in-Index c = λ j less.
    subst (λ (sought : Sought). Seeks sought (slice_index c.args.numbers.now j) (slice_index c.args.ks.now j) c.args.view.now (selected_by (slice_index c.select_each.new.out j)))
    (sym c.in-Index.is) (c.select_each.ensures.indices j less)

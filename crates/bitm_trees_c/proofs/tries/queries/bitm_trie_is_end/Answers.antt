-- What is answered is reported, as 0 or 1.
use Rattle.std.proofs.Common.{sym, subst}
use Rattle.tree_block.specs.Answers.{IsEndOf}
use Rattle.bitm_abi.proofs.ClaimedLemmas.{claimed}
use Rattle.bitm_trees_c.specs.Trie.{IsEnd}
use Rattle.bitm_trees_c.proofs.tries.queries.bitm_trie_is_end.Goals as goal

pub returns-in-Some : goal.returns-in-Some
returns-in-Some c =
    claimed (IsEnd c.args.node) _ _ c.in-Some.ensures.1 _ c.in-Some.ensures.0 c.report.result c.args.out.now c.report.new.out _ c.report.ensures
    (record {
      truth = c.as_number.ensures.truth;
      is = subst (IsEndOf c.in-Some.view c.args.node) (sym c.as_number.ensures.answer) c.is_end.ensures;
    })

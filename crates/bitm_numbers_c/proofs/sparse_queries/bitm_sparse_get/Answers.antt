-- What is answered is reported, as 0 or 1.
use Rattle.std.proofs.Common.{sym, subst}
use Rattle.sparse_bits.specs.Answers.{IsBitOf, IsBitWithin}
use Rattle.sequence_block.specs.SparseBlock.{bits_of}
use Rattle.bitm_abi.proofs.ClaimedLemmas.{claimed}
use Rattle.bitm_numbers_c.specs.Sparse.{IsBit}
use Rattle.bitm_numbers_c.proofs.sparse_queries.bitm_sparse_get.Goals as goal

pub returns-in-Some : goal.returns-in-Some
returns-in-Some c =
    let parts = c.in-Some.view in
    claimed (IsBit c.args.position) _ _ c.in-Some.ensures.1 _ c.in-Some.ensures.0 c.report.result c.args.out.now c.report.new.out _ c.report.ensures
    (record {
      truth = c.as_number.ensures.truth;
      inside = subst (IsBitWithin parts.len c.args.position) (sym c.as_number.ensures.answer) c.get_bit.ensures.within;
      right = λ xs h. subst (IsBitOf (bits_of xs parts) c.args.position) (sym c.as_number.ensures.answer) (c.get_bit.ensures.bit xs h);
    })

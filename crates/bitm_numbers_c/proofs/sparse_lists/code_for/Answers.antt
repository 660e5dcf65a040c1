-- What is answered is no code but where there is no such position or bit, or the positions are not those of 1 bits.
use Rattle.std.proofs.Common.{sym, subst}
use Rattle.sparse_bits.specs.Answers.{IsBitOf, IsBitWithin}
use Rattle.sequence_block.specs.SparseBlock.{bits_of}
use Rattle.bitm_view.specs.Queries.{selected_by}
use Rattle.bitm_numbers_c.proofs.SparseCodeLemmas.{bit_code, count_code, position_code}
use Rattle.bitm_numbers_c.specs.Sparse.{IsBit, IsRankIn, IsSelectIn, Responds}
use Rattle.bitm_numbers_c.specs.declared.sparse_lists.Query.{Query}
use Rattle.bitm_numbers_c.proofs.sparse_lists.code_for.Goals as goal

pub returns-in-Bit : goal.returns-in-Bit
returns-in-Bit c =
    let parts = c.args.view.now in
    subst (λ (query : Query). Responds query c.args.number parts (selected_by c.code_of.result)) (sym c.in-Bit.is)
    (subst (IsBit c.args.number parts) (sym (c.code_of.ensures (bit_code _ c.as_number.ensures.truth)))
    (record {
      truth = c.as_number.ensures.truth;
      inside = subst (IsBitWithin parts.len c.args.number) (sym c.as_number.ensures.answer) c.get_bit.ensures.within;
      right = λ xs h. subst (IsBitOf (bits_of xs parts) c.args.number) (sym c.as_number.ensures.answer) (c.get_bit.ensures.bit xs h);
    }))

pub returns-in-Rank : goal.returns-in-Rank
returns-in-Rank c =
    subst (λ (query : Query). Responds query c.args.number c.args.view.now (selected_by c.code_of-in-Rank.result)) (sym c.in-Rank.is)
    (subst (IsRankIn c.in-Rank.one c.args.number c.args.view.now)
    (sym (c.code_of-in-Rank.ensures (count_code _ c.requires _ _ c.rank_of.ensures.within)))
    (record { inside = c.rank_of.ensures.within; right = c.rank_of.ensures.counts }))

pub returns-in-Select : goal.returns-in-Select
returns-in-Select c =
    subst (λ (query : Query). Responds query c.args.number c.args.view.now (selected_by c.code_of-in-Select.result)) (sym c.in-Select.is)
    (subst (IsSelectIn c.in-Select.one c.args.number c.args.view.now)
    (sym (c.code_of-in-Select.ensures (position_code _ c.requires _ c.select_of.ensures.inside)))
    (record { inside = c.select_of.ensures.inside; right = c.select_of.ensures.counts }))

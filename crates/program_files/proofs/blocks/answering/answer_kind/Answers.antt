use Rattle.std.proofs.Common.{List, ℕ}
use Rattle.bitm_view.specs.BitsBlock as bits
use Rattle.bitm_view.specs.Cut.{bits_of_cut, Cut}
use Rattle.elias_fano.specs.SequenceParts.{Holds, SequenceParts}
use Rattle.louds.specs.Counted.{degrees_in}
use Rattle.tree_block.specs.Block as louds
use Rattle.matrix_block.specs.Block as matrix
use Rattle.sequence_block.specs.Block as sequence
use Rattle.sequence_block.specs.SparseBlock as sparse
use Rattle.program_base.specs.Text.{lines_of}
use Rattle.program_files.specs.Bits.{IsBitsReply}
use Rattle.program_files.specs.Matrix.{IsNumbersReply}
use Rattle.program_files.specs.Sequence.{IsSequenceReply}
use Rattle.program_files.specs.Tree.{IsTreeReply}
use Rattle.program_files.specs.declared.blocks.question.Question.{Question}
use Rattle.program_files.specs.declared.blocks.reply.Reply.{Reply}
use Rattle.program_files.proofs.lemmas.OpenedLemmas.{answers_kept}
use Rattle.program_files.proofs.blocks.answering.answer_kind.Goals as goal

pub returns-in-Bits-clause-answers : goal.returns-in-Bits-clause-answers
returns-in-Bits-clause-answers g c =
    let contents = g.W.Write.contents in
    rw c.in-Bits.is
    (answers_kept c.args.form c.answer_opened.result c.open_bits.result (bits.IsSoundBlock c.args.block.now) (bits.bits_in_block c.args.block.now)
    (λ (view : Cut). IsBitsReply (bits_of_cut view)) (lines_of c.args.text.now)
    (contents c.args.out.now) (contents c.answer_opened.new.out) c.open_bits.ensures.opened c.answer_opened.ensures.answers)

pub returns-in-Sequence-clause-answers : goal.returns-in-Sequence-clause-answers
returns-in-Sequence-clause-answers g c =
    let contents = g.W.Write.contents in
    rw c.in-Sequence.is
    (answers_kept c.args.form c.answer_opened-in-Sequence.result c.open_sequence.result (sequence.IsSoundBlock c.args.block.now) (sequence.sequence_in c.args.block.now)
    (λ (view : SequenceParts) (question : Question) (reply : Reply). (xs : List ℕ) → Holds xs view → IsSequenceReply xs question reply) (lines_of c.args.text.now)
    (contents c.args.out.now) (contents c.answer_opened-in-Sequence.new.out) c.open_sequence.ensures.opened c.answer_opened-in-Sequence.ensures.answers)

pub returns-in-Sparse-clause-answers : goal.returns-in-Sparse-clause-answers
returns-in-Sparse-clause-answers g c =
    let contents = g.W.Write.contents in
    rw c.in-Sparse.is
    (answers_kept c.args.form c.answer_opened-in-Sparse.result c.open_sparse.result (sparse.IsSoundBlock c.args.block.now) (sparse.sparse_in c.args.block.now)
    (λ (view : sparse.SparseParts) (question : Question) (reply : Reply). (xs : List ℕ) → sparse.HoldsOnes xs view → IsBitsReply (sparse.bits_of xs view) question reply) (lines_of c.args.text.now)
    (contents c.args.out.now) (contents c.answer_opened-in-Sparse.new.out) c.open_sparse.ensures.opened c.answer_opened-in-Sparse.ensures.answers)

pub returns-in-Matrix-clause-answers : goal.returns-in-Matrix-clause-answers
returns-in-Matrix-clause-answers g c =
    let contents = g.W.Write.contents in
    rw c.in-Matrix.is
    (answers_kept c.args.form c.answer_opened-in-Matrix.result c.open_matrix.result (matrix.IsSoundBlock c.args.block.now) (matrix.matrix_in c.args.block.now)
    (λ (view : matrix.MatrixParts). IsNumbersReply (matrix.items_in view)) (lines_of c.args.text.now)
    (contents c.args.out.now) (contents c.answer_opened-in-Matrix.new.out) c.open_matrix.ensures.opened c.answer_opened-in-Matrix.ensures.answers)

pub returns-in-Tree-clause-answers : goal.returns-in-Tree-clause-answers
returns-in-Tree-clause-answers g c =
    let contents = g.W.Write.contents in
    rw c.in-Tree.is
    (answers_kept c.args.form c.answer_opened-in-Tree.result c.open_tree.result (louds.HoldsTree c.args.block.now) (louds.tree_in c.args.block.now)
    (λ (view : louds.TreeParts). IsTreeReply (degrees_in view.len view.lists)) (lines_of c.args.text.now)
    (contents c.args.out.now) (contents c.answer_opened-in-Tree.new.out) c.open_tree.ensures.opened c.answer_opened-in-Tree.ensures.answers)

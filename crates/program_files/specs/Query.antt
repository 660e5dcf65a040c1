-- What is answered to the lines of a text.
use Rattle.std.specs.Prelude.{◌≡◌, ⊤, ℕ, List, [], ◌∷◌, ◌++◌, Bool, Option, None, Some}
use Rattle.std.specs.List.{list_all}
use Rattle.std.specs.Io.KnownBytes.{Appends}
use Rattle.bitm_view.specs.BitsBlock.{bits_in_block}
use Rattle.bitm_view.specs.Cut.{bits_of_cut}
use Rattle.elias_fano.specs.SequenceParts.{Holds}
use Rattle.louds.specs.Counted.{degrees_in}
use Rattle.tree_block.specs.Block.{tree_in}
use Rattle.matrix_block.specs.Block.{items_in, matrix_in}
use Rattle.sequence_block.specs.Block.{sequence_in}
use Rattle.sequence_block.specs.SparseBlock as sparse
use Rattle.program_base.specs.Text.{lines_of}
use Rattle.program_base.specs.declared.runs.form.Form.{Form}
use Rattle.program_files.specs.Bits.{IsBitsReply}
use Rattle.program_files.specs.Bytes.{words_of_bytes}
use Rattle.program_files.specs.Matrix.{IsNumbersReply}
use Rattle.program_files.specs.Question.{question_of}
use Rattle.program_files.specs.Reply.{is_good_reply, replies_text, reply_in}
use Rattle.program_files.specs.Sequence.{IsSequenceReply}
use Rattle.program_files.specs.Sound.{AreSoundNumbers}
use Rattle.program_files.specs.Tree.{IsTreeReply}
use Rattle.program_files.specs.declared.blocks.kind.Kind.{Kind}
use Rattle.program_files.specs.declared.blocks.kind.Kind.TheVariants.{Bits, Sequence, Sparse, Matrix, Tree}
use Rattle.program_files.specs.declared.blocks.question.Question.{Question}
use Rattle.program_files.specs.declared.blocks.reply.Reply.{Reply}
use Rattle.program_files.specs.declared.blocks.reply.Reply.TheVariants.{BadQuestion}

-- what a block of the kind answers to a question: by the bits, the numbers or the tree that it holds
abbrev pub IsReplyIn : Kind → List ℕ → Question → Reply → Type 0
IsReplyIn Bits block question reply = IsBitsReply (bits_of_cut (bits_in_block block)) question reply
IsReplyIn Sequence block question reply = (xs : List ℕ) → Holds xs (sequence_in block) → IsSequenceReply xs question reply
IsReplyIn Sparse block question reply =
    (xs : List ℕ) → sparse.HoldsOnes xs (sparse.sparse_in block) → IsBitsReply (sparse.bits_of xs (sparse.sparse_in block)) question reply
IsReplyIn Matrix block question reply = IsNumbersReply (items_in (matrix_in block)) question reply
IsReplyIn Tree block question reply = IsTreeReply (degrees_in (tree_in block).len (tree_in block).lists) question reply

-- what is answered to a line that may be no question, where to questions R is
abbrev pub IsReplyTo : (Question → Reply → Type 0) → Option Question → Reply → Type 0
IsReplyTo R None reply = reply ≡ BadQuestion
IsReplyTo R (Some question) reply = R question reply

-- these lines may have these replies, one for each and in their order
abbrev pub AreReplies : (Question → Reply → Type 0) → List (List ℕ) → List Reply → Type 0
AreReplies R [] [] = ⊤
AreReplies R (line ∷ lines) (reply ∷ replies) = IsReplyTo R (question_of line) reply × AreReplies R lines replies
AreReplies R [] (reply ∷ replies) = ⊥
AreReplies R (line ∷ lines) [] = ⊥

-- a reply to a line was written: the writer's bytes, where the writer shows them, went from before to after by just it
-- and a line feed, and good says that the line was a question
pub record WroteReply (form : Form) (R : Question → Reply → Type 0) (line : List ℕ) (before after : Option (List ℕ)) (good : Bool) : Type 0 where
  pub reply : Reply
  pub answers : IsReplyTo R (question_of line) reply
  pub written : Appends before after (reply_in form reply ++ 10 ∷ [])
  pub reported : good ≡ is_good_reply reply

-- the replies to these lines were written, and good says that each line was a question
pub record WroteReplies (form : Form) (R : Question → Reply → Type 0) (lines : List (List ℕ)) (before after : Option (List ℕ)) (good : Bool) : Type 0 where
  pub replies : List Reply
  pub answers : AreReplies R lines replies
  pub written : Appends before after (replies_text form replies)
  pub reported : good ≡ list_all is_good_reply replies

-- the replies of what a block of the kind holds were written to the lines of a text
abbrev pub WroteAnswers : Form → Kind → List ℕ → List ℕ → Option (List ℕ) → Option (List ℕ) → Bool → Type 0
WroteAnswers form kind block text before after good = WroteReplies form (IsReplyIn kind block) (lines_of text) before after good

-- the bytes are those of a block that is as it was written, and that was written of it
pub record Replies (form : Form) (bytes text : List ℕ) (before after : Option (List ℕ)) (good : Bool) : Type 0 where
  pub block : List ℕ
  pub words : words_of_bytes bytes ≡ Some block
  pub sound : AreSoundNumbers block
  pub wrote : WroteAnswers form sound.kind block text before after good

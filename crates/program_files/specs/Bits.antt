-- Blocks of bits, and what bits answer.
use Rattle.std.specs.Prelude.{◌≡◌, ℕ, ◌<◌, ◌≤◌, List, Bool, true, false, All}
use Rattle.std.specs.List.{Contains}
use Rattle.bit_lists.specs.Bits.{item}
use Rattle.bitm_select.specs.Answers.{IsSelected}
use Rattle.bitm_view.specs.Nearest.{IsNext, IsPrevious}
use Rattle.bitm_view.specs.Ranks.{IsRanked}
use Rattle.bitm_view.specs.BitsBlock as bits
use Rattle.sparse_bits.specs.Answers.{IsBitOf}
use Rattle.bitm.specs.Answer.{Answer}
use Rattle.program_files.specs.Reply.{answer_in_reply, as_number}
use Rattle.program_files.specs.declared.blocks.question.Question.{Question}
use Rattle.program_files.specs.declared.blocks.question.Question.TheVariants.{One, Two}
use Rattle.program_files.specs.declared.blocks.question.Word.{Word}
use Rattle.program_files.specs.declared.blocks.question.Word.TheVariants.{Get, Rank, Rank0, Select, Select0, Next, Next0, Previous, Previous0}
use Rattle.program_files.specs.declared.blocks.reply.Reply.{Reply}
use Rattle.program_files.specs.declared.blocks.reply.Reply.TheVariants.{BadQuestion}

-- the numbers are less than n, and no smaller number has this
pub record HasEnd (xs : List ℕ) (n : ℕ) : Type 0 where
  pub below : All (λ x. x < n) xs
  pub least : (m : ℕ) → All (λ x. x < m) xs → n ≤ m

-- bit p is 1 exactly where p is one of the positions
pub record HasOnesAt (xs : List ℕ) (b : List Bool) : Type 0 where
  pub ones : (p : ℕ) → Contains xs p → item b p ≡ true
  pub others : (p : ℕ) → (¬ (Contains xs p)) → item b p ≡ false

-- the block is that of bits of which those at these positions are 1, up to the last of these
pub record IsBitsOf (xs block : List ℕ) : Type 0 where
  pub bits_are : List Bool
  pub len : ℕ
  pub ones : HasOnesAt xs bits_are
  pub end : HasEnd xs len
  pub block_of : bits.IsBlockOf bits_are len block

-- the reply to a bit's position
pub record IsBitReply (b : List Bool) (p : ℕ) (reply : Reply) : Type 0 where
  pub bit : Answer Bool
  pub bit_of : IsBitOf b p bit
  pub reported : answer_in_reply reply ≡ as_number bit

-- what these bits answer to a word and one number; other words are no questions to them
abbrev pub IsBitsReplyOne : List Bool → Word → ℕ → Reply → Type 0
IsBitsReplyOne b Get p reply = IsBitReply b p reply
IsBitsReplyOne b Rank i reply = IsRanked b true i (answer_in_reply reply)
IsBitsReplyOne b Rank0 i reply = IsRanked b false i (answer_in_reply reply)
IsBitsReplyOne b Select r reply = IsSelected b true r (answer_in_reply reply)
IsBitsReplyOne b Select0 r reply = IsSelected b false r (answer_in_reply reply)
IsBitsReplyOne b Next p reply = IsNext b true p (answer_in_reply reply)
IsBitsReplyOne b Next0 p reply = IsNext b false p (answer_in_reply reply)
IsBitsReplyOne b Previous p reply = IsPrevious b true p (answer_in_reply reply)
IsBitsReplyOne b Previous0 p reply = IsPrevious b false p (answer_in_reply reply)
IsBitsReplyOne b _ n reply = reply ≡ BadQuestion

-- what they answer to a question
abbrev pub IsBitsReply : List Bool → Question → Reply → Type 0
IsBitsReply b (One word number) reply = IsBitsReplyOne b word number reply
IsBitsReply b (Two word first second) reply = reply ≡ BadQuestion

-- Blocks of a wavelet matrix, and what its numbers answer.
use Rattle.std.specs.Prelude.{◌≡◌, ℕ, ◌^◌, ◌<◌, ◌≤◌, List, All}
use Rattle.matrix_block.specs.Answers.{IsIndexOf, IsNumberOf, IsRankOf}
use Rattle.matrix_block.specs.Block as matrix
use Rattle.program_files.specs.Reply.{answer_in_reply}
use Rattle.program_files.specs.declared.blocks.question.Question.{Question}
use Rattle.program_files.specs.declared.blocks.question.Question.TheVariants.{One, Two}
use Rattle.program_files.specs.declared.blocks.question.Word.TheVariants.{Get, Rank, Select}
use Rattle.program_files.specs.declared.blocks.reply.Reply.{Reply}
use Rattle.program_files.specs.declared.blocks.reply.Reply.TheVariants.{BadQuestion}

-- the width is 1 to 64, and no smaller one has room for the numbers
pub record HasLeastWidth (xs : List ℕ) (w : ℕ) : Type 0 where
  pub positive : 1 ≤ w
  pub most : w ≤ 64
  pub least : (v : ℕ) → 1 ≤ v → All (λ x. x < 2 ^ v) xs → w ≤ v

-- the block is that of a matrix of these numbers, of the least width
pub record IsMatrixBlockOf (xs block : List ℕ) : Type 0 where
  pub width : ℕ
  pub least : HasLeastWidth xs width
  pub block_of : matrix.IsBlockOf xs width block

-- what these numbers answer; other questions are no questions to them
abbrev pub IsNumbersReply : List ℕ → Question → Reply → Type 0
IsNumbersReply xs (One Get index) reply = IsNumberOf xs index (answer_in_reply reply)
IsNumbersReply xs (Two Rank number index) reply = IsRankOf xs number index (answer_in_reply reply)
IsNumbersReply xs (Two Select number before) reply = IsIndexOf xs number before (answer_in_reply reply)
IsNumbersReply xs _ reply = reply ≡ BadQuestion

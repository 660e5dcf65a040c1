-- What the numbers of a monotone sequence answer.
use Rattle.std.specs.Prelude.{◌≡◌, ℕ, ◌<◌, ◌⊎◌, List, All, length, slice_index}
use Rattle.bitm_tables.specs.Answers.{Right}
use Rattle.elias_fano.specs.Answers.{IsItem}
use Rattle.elias_fano.specs.Sequence.{Reaches, StaysWithin}
use Rattle.bitm.specs.Answer.{Answer}
use Rattle.program_files.specs.Reply.{answer_in_reply}
use Rattle.program_files.specs.declared.blocks.question.Question.{Question}
use Rattle.program_files.specs.declared.blocks.question.Question.TheVariants.{One, Two}
use Rattle.program_files.specs.declared.blocks.question.Word.{Word}
use Rattle.program_files.specs.declared.blocks.question.Word.TheVariants.{Get, Rank, Next, Previous}
use Rattle.program_files.specs.declared.blocks.reply.Reply.{Reply}
use Rattle.program_files.specs.declared.blocks.reply.Reply.TheVariants.{BadQuestion}

-- how many numbers come before the first that is at least v: all, where none is
abbrev pub IsCountBelow : List ℕ → ℕ → Answer ℕ → Type 0
IsCountBelow xs v = Right (λ c. Reaches xs v c ⊎ ((c ≡ length xs) × All (λ x. x < v) xs)) ⊥

-- the first number that is at least v, and Absent exactly where each is less
abbrev pub IsNextNumber : List ℕ → ℕ → Answer ℕ → Type 0
IsNextNumber xs v = Right (λ x. (i : ℕ) × Reaches xs v i × (x ≡ slice_index xs i)) (All (λ x. x < v) xs)

-- the last number that is at most v, and Absent exactly where each is greater
abbrev pub IsPreviousNumber : List ℕ → ℕ → Answer ℕ → Type 0
IsPreviousNumber xs v = Right (λ x. (i : ℕ) × StaysWithin xs v i × (x ≡ slice_index xs i)) (All (λ x. v < x) xs)

-- what these numbers answer to a word and one number; other words are no questions to them
abbrev pub IsSequenceReplyOne : List ℕ → Word → ℕ → Reply → Type 0
IsSequenceReplyOne xs Get i reply = IsItem xs i (answer_in_reply reply)
IsSequenceReplyOne xs Rank v reply = IsCountBelow xs v (answer_in_reply reply)
IsSequenceReplyOne xs Next v reply = IsNextNumber xs v (answer_in_reply reply)
IsSequenceReplyOne xs Previous v reply = IsPreviousNumber xs v (answer_in_reply reply)
IsSequenceReplyOne xs _ n reply = reply ≡ BadQuestion

-- what they answer to a question
abbrev pub IsSequenceReply : List ℕ → Question → Reply → Type 0
IsSequenceReply xs (One word number) reply = IsSequenceReplyOne xs word number reply
IsSequenceReply xs (Two word first second) reply = reply ≡ BadQuestion

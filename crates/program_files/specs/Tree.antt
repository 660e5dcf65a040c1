-- What a tree answers.
use Rattle.std.specs.Prelude.{◌≡◌, ℕ, List}
use Rattle.louds.specs.Answers.{IsChildOf, IsChildRankOf, IsDegreeOf, IsNextSiblingOf, IsParentOf, IsPreviousSiblingOf}
use Rattle.program_files.specs.Reply.{answer_in_reply}
use Rattle.program_files.specs.declared.blocks.question.Question.{Question}
use Rattle.program_files.specs.declared.blocks.question.Question.TheVariants.{One, Two}
use Rattle.program_files.specs.declared.blocks.question.Word.{Word}
use Rattle.program_files.specs.declared.blocks.question.Word.TheVariants.{Parent, Child, ChildRank, Degree, NextSibling, PreviousSibling}
use Rattle.program_files.specs.declared.blocks.reply.Reply.{Reply}
use Rattle.program_files.specs.declared.blocks.reply.Reply.TheVariants.{BadQuestion}

-- what the tree of these degrees answers to a word and one number; other words are no questions to it
abbrev pub IsTreeReplyOne : List ℕ → Word → ℕ → Reply → Type 0
IsTreeReplyOne d Parent node reply = IsParentOf d node (answer_in_reply reply)
IsTreeReplyOne d Degree node reply = IsDegreeOf d node (answer_in_reply reply)
IsTreeReplyOne d ChildRank node reply = IsChildRankOf d node (answer_in_reply reply)
IsTreeReplyOne d NextSibling node reply = IsNextSiblingOf d node (answer_in_reply reply)
IsTreeReplyOne d PreviousSibling node reply = IsPreviousSiblingOf d node (answer_in_reply reply)
IsTreeReplyOne d _ node reply = reply ≡ BadQuestion

-- to a word and two numbers
abbrev pub IsTreeReplyTwo : List ℕ → Word → ℕ → ℕ → Reply → Type 0
IsTreeReplyTwo d Child node k reply = IsChildOf d node k (answer_in_reply reply)
IsTreeReplyTwo d _ node k reply = reply ≡ BadQuestion

-- what it answers to a question
abbrev pub IsTreeReply : List ℕ → Question → Reply → Type 0
IsTreeReply d (One word node) reply = IsTreeReplyOne d word node reply
IsTreeReply d (Two word node k) reply = IsTreeReplyTwo d word node k reply

-- The reply has the index that the matrix answers.
use Rattle.std.proofs.Common.{◌≡◌, rules, subst, sym}
use Rattle.matrix_block.specs.Answers.{IsIndexOf}
use Rattle.matrix_block.specs.Block.{items_in}
use Rattle.program_files.specs.Matrix.{IsNumbersReply}
use Rattle.program_files.specs.declared.blocks.question.Question.TheVariants.{Two}
use Rattle.program_files.specs.declared.blocks.question.Word.TheVariants.{Select}
use Rattle.program_files.proofs.blocks.matrix.MatrixViewQueryable.reply.Goals as goal

pub returns-in-Two-Select-default-default : goal.returns-in-Two-Select-default-default
returns-in-Two-Select-default-default c =
    let asked = c.in-Two-Select-default-default in
    let xs = items_in c.args.self.now in
    let reply = c.of_index-in-Two-Select-default-default in
    let of = subst (λ a. IsIndexOf xs asked.number asked.before a) (sym reply.ensures) (c.select.ensures.answer c.requires.0 c.requires.1) in
    let two : c.args.question.now ≡ Two Select asked.number asked.before = search rules in
    subst (λ q. IsNumbersReply xs q reply.result) (sym two) of

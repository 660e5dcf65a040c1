use Rattle.std.proofs.Common.{◌∙◌, ap, subst}
use Rattle.std.specs.Str.Lines.{lines}
use Rattle.program_files.specs.Answers.{WroteOfFile}
use Rattle.program_files.specs.Lines.{bytes_in}
use Rattle.program_files.proofs.texts.program.answer_list.Goals as goal

pub returns : goal.returns
returns g c =
    let contents = g.W.Write.contents in
    record {
      list = c.in_ok-list.list.items;
      is = c.in_ok-list.ensures;
      wrote = subst
          (λ ps. WroteOfFile c.args.asked c.args.sums c.args.file.now ps (contents c.args.out.now) (contents c.answer.new.out) c.in_ok-answer.field-0)
          (ap bytes_in c.as_slice-2.ensures.value ∙ c.in-Ok.ensures ∙ ap lines c.as_slice.ensures.value) c.in_ok-answer.ensures.written;
    }

use Rattle.std.proofs.Common.{◌≡◌, Err, Some, ap, subst, rules}
use Rattle.program_files.specs.Bytes.{words_of_bytes}
use Rattle.text_block.specs.Block.{TextParts}
use Rattle.program_files.specs.Answers.{ArePatternAnswers, AreWithin}
use Rattle.program_files.specs.Lines.{bytes_in}
use Rattle.program_files.proofs.lemmas.FileLemmas.{failure_is, holds, opens, text_of}
use Rattle.program_files.proofs.texts.answering.answer.Goals as goal

pub returns-in_default-opened-clause-wrong : goal.returns-in_default-opened-clause-wrong
returns-in_default-opened-clause-wrong g c = λ _ text is.
    let words : words_of_bytes c.args.file.now ≡ Some c.in-Some.words.items = search rules in
    let no = rw c.as_slice.ensures.value at c.in_default-opened.ensures in
    no (opens c.args.file.now text c.in-Some.words.items c.args.sums is words)

pub returns-in-Err-clause-wrong : goal.returns-in-Err-clause-wrong
returns-in-Err-clause-wrong g c = λ e text is.
    let words : words_of_bytes c.args.file.now ≡ Some c.in-Some.words.items = search rules in
    let same = rw c.as_slice.ensures.value at c.in-Some-opened.ensures.1 in
    c.in-Err.ensures.wrong (holds c.args.file.now text c.in-Some.words.items _ is words same) (ap Err (failure_is _ _ e))

pub returns-clause-written : goal.returns-clause-written
returns-clause-written g c =
    let words : words_of_bytes c.args.file.now ≡ Some c.in-Some.words.items = search rules in
    let same = rw c.as_slice.ensures.value at c.in-Some-opened.ensures.1 in
    let patterns = bytes_in c.args.patterns.now in
    let numbers = c.in-Ok.numbers.items in
    record {
      block = c.in-Some.words.items;
      words = words;
      opened = rw c.as_slice.ensures.value at c.in-Some-opened.ensures.0;
      numbers = numbers;
      answers = λ text is. subst (λ t. ArePatternAnswers c.args.asked t patterns numbers)
          (text_of c.args.file.now text c.in-Some.words.items _ is words same)
          (c.in-Ok.ensures.answer (holds c.args.file.now text c.in-Some.words.items _ is words same));
      within = subst (λ (p : TextParts). AreWithin c.args.asked p.tables.letters.len patterns numbers) same c.in-Ok.ensures.within;
      found_is = rw c.as_slice-3.ensures.value at c.is_found.ensures;
      written = rw c.as_slice-2.ensures.value at c.in_ok-write_lines.ensures;
    }

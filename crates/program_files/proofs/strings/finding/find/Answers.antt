use Rattle.std.proofs.Common.{◌≡◌, Some, rules}
use Rattle.program_files.specs.Bytes.{words_of_bytes}
use Rattle.program_files.proofs.lemmas.FindingLemmas.{wrote-found}
use Rattle.program_files.proofs.strings.finding.find.Goals as goal

pub returns-in-Some-open_checked-clause-written : goal.returns-in-Some-open_checked-clause-written
returns-in-Some-open_checked-clause-written g c =
    let contents = g.W.Write.contents in
    let words : words_of_bytes c.args.file.now ≡ Some c.in-Some.words.items = search rules in
    let sound = rw c.as_slice.ensures.value at c.in-Some-open_checked.ensures.opened.0 in
    let same = rw c.as_slice.ensures.value at c.in-Some-open_checked.ensures.opened.1 in
    wrote-found c.args.form c.args.file.now c.in-Some.words.items c.args.text.now _ (contents c.args.out.now) (contents c.write_numbers.new.out) _
    words sound same c.in_ok-write_numbers-in-Some-open_checked.ensures

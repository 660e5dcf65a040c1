use Rattle.std.proofs.Common.{◌≡◌, Some, rules}
use Rattle.program_files.specs.Bytes.{words_of_bytes}
use Rattle.program_files.proofs.lemmas.InfoLemmas.{old_words, wrote_old}
use Rattle.program_files.proofs.kinds.describing.info_of_old.Goals as goal

pub returns-in-Some-old_head-clause-written : goal.returns-in-Some-old_head-clause-written
returns-in-Some-old_head-clause-written g c =
    let contents = g.W.Write.contents in
    let words : words_of_bytes c.args.file.now ≡ Some c.in-Some.words.items = search rules in
    let is = rw c.as_slice.ensures.value at c.in-Some-old_head.ensures in
    wrote_old c.args.form c.args.file.now c.in-Some.words.items _ (contents c.args.out.now) (contents c.write_old.new.out) words is
    c.in_ok-write_old-in-Some-old_head.ensures

pub returns-clause-wrong : goal.returns-clause-wrong
returns-clause-wrong g c = λ is old.
    let words : words_of_bytes c.args.file.now ≡ Some c.in-Some.words.items = search rules in
    let none = rw c.as_slice.ensures.value at c.in-None.ensures in
    none (old_words _ _ words old)

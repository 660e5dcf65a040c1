use Rattle.std.proofs.Common.{◌≡◌, Some, rules}
use Rattle.program_files.specs.Bytes.{words_of_bytes}
use Rattle.program_files.proofs.lemmas.InfoLemmas.{wrote_info}
use Rattle.program_files.proofs.kinds.describing.info_of_block.Goals as goal

pub returns-in-Some-described-clause-written : goal.returns-in-Some-described-clause-written
returns-in-Some-described-clause-written g c =
    let contents = g.W.Write.contents in
    let words : words_of_bytes c.args.block.now ≡ Some c.in-Some.words.items = search rules in
    let is = rw c.as_slice.ensures.value at c.in-Some-described.ensures.described in
    wrote_info c.args.form c.args.block.now c.in-Some.words.items _ (contents c.args.out.now) (contents c.write_description.new.out) words is
    c.in_ok-write_description-in-Some-described.ensures

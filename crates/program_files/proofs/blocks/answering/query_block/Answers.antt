use Rattle.std.proofs.Common.{◌≡◌, Some, rules}
use Rattle.program_files.specs.Bytes.{words_of_bytes}
use Rattle.program_files.specs.Kind.{number_kind_in}
use Rattle.program_files.proofs.lemmas.OpenedLemmas.{replies_of_kind}
use Rattle.program_files.proofs.blocks.answering.query_block.Goals as goal

pub returns-in-Some-kind_in-clause-answers : goal.returns-in-Some-kind_in-clause-answers
returns-in-Some-kind_in-clause-answers g c =
    let contents = g.W.Write.contents in
    let words : words_of_bytes c.args.block.now ≡ Some c.in-Some.words.items = search rules in
    let says : number_kind_in c.in-Some.words.items ≡ Some c.in-Some-kind_in.kind = search rules in
    let sound = rw c.as_slice-in-Some-kind_in.ensures.value at c.answer_kind.ensures.sound in
    let wrote = rw c.as_slice-in-Some-kind_in.ensures.value at c.answer_kind.ensures.answers in
    replies_of_kind c.args.form c.answer_kind.result c.args.block.now c.args.text.now c.in-Some.words.items c.in-Some-kind_in.kind (contents c.args.out.now)
    (contents c.answer_kind.new.out) words says sound wrote

-- One more item.
use Rattle.std.proofs.Common.{slice_index, arith}
use Rattle.bit_words.proofs.lemmas.PositionLemmas.{placed_more}
use Rattle.bitm_view.specs.Queries.{selected_by}
use Rattle.hash_block.specs.Given.{given, len_of}
use Rattle.bitm_keys_c.specs.Strings.{IsNumberOfString}
use Rattle.bitm_keys_c.proofs.strings.queries.find_each.Goals as goal

pub loop-at-preserved : goal.loop-at-preserved
loop-at-preserved c =
    placed_more (λ j n. IsNumberOfString (given c.args.bytes.now c.args.ends.now j) (len_of c.args.ends.now j) c.args.view.now (selected_by n)) c.loop-at.out c.loop-at.at c.found_code.result
    c.loop-at.invariant (omega (arith, c.loop-at-test.true, c.loop-at.auto.at-end, c.loop-at.auto.out, c.requires.room)) c.found_code.ensures

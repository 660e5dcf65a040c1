-- One more position is reported.
use Rattle.std.proofs.Common.{ℕ, ◌<◌, length, slice_index, arith}
use Rattle.bit_words.proofs.lemmas.PositionLemmas.{placed_more}
use Rattle.elias_fano_view.specs.Lists.{IsIndexCode}
use Rattle.elias_fano_view.proofs.sequence.SequenceView.first_at_least_list.Goals as goal

pub loop-at-preserved : goal.loop-at-preserved
loop-at-preserved c =
    let i = c.loop-at.invariant in
    let P : ℕ → ℕ → Type 0 = λ j n. IsIndexCode c.args.self.now (slice_index c.args.values.now j) n in
    let room : c.loop-at.at < length c.loop-at.out =
    omega (arith, c.loop-at.auto.out, c.loop-at.auto.at-end, c.if-out-values.false, c.loop-at-test.true) in
    record {
      begins_room = c.zeros_ahead.ensures.room;
      ends_room = c.ends_ahead.ensures.room;
      begins = λ j from less inside. c.zeros_ahead.ensures.claimed j (omega arith) (omega arith) inside;
      ends = λ some j from less inside. c.ends_ahead.ensures.claimed some j (omega arith) (omega arith) inside;
      claimed = placed_more P c.loop-at.out c.loop-at.at c.first_code.result i.claimed room c.first_code.ensures;
    }

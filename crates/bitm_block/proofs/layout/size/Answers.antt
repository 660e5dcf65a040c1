-- One section more.
use Rattle.std.proofs.Common.{◌<◌, ◌^◌, arith}
use Rattle.std.proofs.lemmas.List.Elements.{All-more}
use Rattle.std.proofs.lemmas.List.Sums.{sum_by_more}
use Rattle.bitm_block.specs.Layout.{room_of}
use Rattle.bitm_block.specs.declared.layout.Section.{Section}
use Rattle.bitm_block.proofs.layout.size.Goals as goal

pub loop-section-preserved : goal.loop-section-preserved
loop-section-preserved c =
    let ss = c.args.sections.now in
    let i = c.loop-section.section-index in
    record {
      counts = All-more (λ (s : Section). s.count < 2 ^ 58) ss i _ c.loop-section-test.true c.loop-section.invariant.counts c.if-section.false;
      at = omega (arith, c.loop-section.invariant.at, c.room-at.ensures.room, sum_by_more room_of ss i (record { role = 0; count = 0 }) c.loop-section-test.true);
      most = omega arith;
    }

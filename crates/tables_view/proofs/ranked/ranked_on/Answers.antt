-- The bits before a position are 1 bits and 0 bits, so no more than the position says are 1 bits.
use Rattle.std.proofs.Common.{arith}
use Rattle.bit_lists.proofs.lemmas.CountLemmas.{ones_before-add-zeros_before}
use Rattle.bitm_tables.specs.Tables.{bits_in}
use Rattle.tables_view.proofs.ranked.ranked_on.Goals as goal

pub returns-in-None-clause-ranks : goal.returns-in-None-clause-ranks
returns-in-None-clause-ranks g c = record {
  within = c.in-Some.ensures.inside;
  counts = λ t.
      let r = c.in-Some.ensures.answer t in
      omega (arith, r.0, r.1, ones_before-add-zeros_before (bits_in (g.T.TableSource.lists c.args.source.now)) c.args.index r.0, c.in-None.ensures);
}

pub returns-else-one-clause-ranks : goal.returns-else-one-clause-ranks
returns-else-one-clause-ranks g c = record {
  within = (c.in-Some.ensures.inside, omega (arith, c.in-Some-checked_sub.ensures));
  counts = λ t.
      let r = c.in-Some.ensures.answer t in
      rw c.if-one.false
      (r.0, omega (arith, r.0, r.1, ones_before-add-zeros_before (bits_in (g.T.TableSource.lists c.args.source.now)) c.args.index r.0));
}

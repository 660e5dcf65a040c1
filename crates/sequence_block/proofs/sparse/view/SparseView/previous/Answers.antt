-- One less than the rank of the end selects the previous one.
use Rattle.std.proofs.Common.{◌≡◌, ◌+◌, ◌-◌, min, sym, ◌∙◌, arith}
use Rattle.tables_view.proofs.NearestLemmas.{previous_none, previous_of}
use Rattle.sparse_bits.proofs.lemmas.PositionLemmas.{bits_count}
use Rattle.sequence_block.specs.SparseBlock.{bits_of}
use Rattle.sequence_block.proofs.sparse.view.SparseView.previous.Goals as goal
use Rattle.sequence_block.proofs.sparse.view.SparseView.previous.Goals.{then-from-len, else-from-len}

pub returns-in-Found-eq0-clause-counts : goal.returns-in-Found-eq0-clause-counts
returns-in-Found-eq0-clause-counts c = λ xs h.
    let v = c.args.self.now in
    let end = c.if-from-len.end in
    let ends : end ≡ min (c.args.from + 1) v.len =
    elim c.if-from-len.branch [
      | then-from-len w ↦ omega (arith, c.len.ensures, w.if-from-len.true, w.end-is)
      | else-from-len w ↦ omega (arith, c.len.ensures, w.if-from-len.false, w.len-end.ensures, w.end-is)
    ] in
    let none : c.in-Found-eq0.field-0 ≡ 0 = omega (arith, c.in-Found-eq0.field-0-is, c.in-Found-eq0.field-0-test) in
    previous_none (bits_of xs v) c.args.one c.args.from end (omega (arith, ends, bits_count v.len xs h.positions))
    (sym none ∙ (c.in-Found-eq0.ensures.counts xs h).1)

pub returns-in-Found-clause-counts : goal.returns-in-Found-clause-counts
returns-in-Found-clause-counts c = λ xs h.
    let v = c.args.self.now in
    let end = c.if-from-len.end in
    let ends : end ≡ min (c.args.from + 1) v.len =
    elim c.if-from-len.branch [
      | then-from-len w ↦ omega (arith, c.len.ensures, w.if-from-len.true, w.end-is)
      | else-from-len w ↦ omega (arith, c.len.ensures, w.if-from-len.false, w.len-end.ensures, w.end-is)
    ] in
    let back : c.in-Found.ranks - 1 + 1 ≡ c.in-Found.ranks = omega (arith, c.in-Found.ranks-is) in
    previous_of (bits_of xs v) c.args.one c.args.from end (omega (arith, ends, bits_count v.len xs h.positions)) (c.in-Found.ranks - 1)
    c.select_of.result c.only_before.result (back ∙ (c.in-Found.ensures.counts xs h).1) (c.select_of.ensures.counts xs h)
    c.only_before.ensures

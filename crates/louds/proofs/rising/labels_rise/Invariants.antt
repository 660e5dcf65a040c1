use Rattle.std.proofs.Common.{◌≡◌, ◌*◌}
use Rattle.bit_lists.specs.Bits.{bits_of}
use Rattle.bit_lists.specs.Count.{ones_before}
use Rattle.louds.specs.Held.{degrees_of}
use Rattle.louds.specs.Leading.{ReadsLabels}
use Rattle.louds.proofs.lemmas.RiseLemmas.{RiseTo}
use Rattle.louds.proofs.rising.labels_rise.Given as goal

-- `node` counts the 1 bits before `position`, and the labels of siblings before that node rise
abbrev pub invariant-loop-position : goal.invariant-loop-position
invariant-loop-position g l =
    let L = g.L.Labels in
    let old = L.seen l.fn.labels in
    record {
      ones : l.node ≡ ones_before (bits_of l.bits) l.position;
      rise : RiseTo (degrees_of (bits_of l.bits) l.len) (L.listed old.words old.width l.len) l.node;
      reads : ReadsLabels old (L.seen l.labels) (2 * l.node);
    }

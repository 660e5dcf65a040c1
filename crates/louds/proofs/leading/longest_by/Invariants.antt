use Rattle.std.proofs.Common.{◌+◌, ◌*◌, ◌<◌, take}
use Rattle.bit_lists.specs.Bits.{digit_count}
use Rattle.bitm_selection.specs.Selection.{OnlySelectsBy}
use Rattle.louds.specs.Counted.{degrees_in, IsLouds}
use Rattle.louds.specs.Labels.{Leads, Rise}
use Rattle.louds.specs.Leading.{ReadsLabels}
use Rattle.louds.proofs.lemmas.LeadingLemmas.{GoesOn}
use Rattle.louds.proofs.leading.longest_by.Given as goal

-- in a trie the labels so far lead to a node, and the beginnings of the word lead on from there
abbrev pub invariant-loop-i : goal.invariant-loop-i
invariant-loop-i g l =
    let T = g.T.TableSource in
    let L = g.L.Labels in
    let lists = T.lists l.fn.source in
    let finds = g.F.Finds.finds l.finder lists in
    let word = g.W.Letters.letters l.word in
    let d = degrees_in l.len lists in
    let old = L.seen l.fn.labels in
    let ls = L.listed old.words old.width l.len in
    record {
      inside : l.at < l.len;
      down : IsLouds l.len lists → finds → Rise d ls → Leads d ls (take l.i word) 0 l.at;
      on : IsLouds l.len lists → finds → Rise d ls → GoesOn d ls word l.i l.at;
      reads : OnlySelectsBy T.lists T.reads l.fn.source l.source (g.F.Finds.most lists) (2 * l.i) (2 * l.i);
      labels : ReadsLabels old (L.seen l.labels) (l.i * (digit_count l.len + 1));
    }

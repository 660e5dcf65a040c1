use Rattle.std.proofs.Common.{◌≡◌, ℕ, ◌+◌, ◌-◌, ◌<◌, ◌≤◌, List, length, take, drop}
use Rattle.bitm_selection.specs.Selection.{OnlySelectsBy}
use Rattle.louds.specs.Counted.{degrees_in, IsLouds}
use Rattle.louds.specs.Labels.{Leads}
use Rattle.louds.specs.Leading.{ReadsLabels}
use Rattle.tree_block.specs.Labels.{labels_of}
use Rattle.tree_block.proofs.trie.words.word_by.Given as goal

-- in a tree the labels so far lead from a node on the way to the last one
abbrev pub invariant-loop-at : goal.invariant-loop-at
invariant-loop-at g l =
    let T = g.T.TableSource in
    let d = degrees_in l.len (T.lists l.fn.source) in
    let ls = labels_of l.fn.labels.words l.fn.labels.width l.len in
    record {
      inside : l.at < l.len;
      few : l.count + l.at ≤ l.node;
      room : length l.out ≡ length l.fn.out;
      front : l.count ≤ length l.fn.out → take (length l.fn.out - l.count) l.out ≡ take (length l.fn.out - l.count) l.fn.out;
      word : IsLouds l.len (T.lists l.fn.source) → g.F.Finds.finds l.finder (T.lists l.fn.source)
          → (word : List ℕ) × (length word ≡ l.count) × Leads d ls word l.at l.node × (l.count ≤ length l.fn.out → drop (length l.fn.out - l.count) l.out ≡ word);
      reads : OnlySelectsBy T.lists T.reads l.fn.source l.source (g.F.Finds.most (T.lists l.fn.source)) l.count 0;
      labels : ReadsLabels l.fn.labels l.labels l.count;
    }

abbrev pub decreases-loop-at : goal.decreases-loop-at
decreases-loop-at g l = l.at

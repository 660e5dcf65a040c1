-- The source, the finder and the labels are those of the view.
use Rattle.louds.specs.Leading.{IsLongestOf}
use Rattle.tree_block.proofs.TrieViewLemmas.{answered}
use Rattle.tree_block.proofs.trie.view.TrieView.longest.Goals as goal

pub returns-clause-answer : goal.returns-clause-answer
returns-clause-answer g c =
    let t = c.self.inside in
    answered (λ d ls. IsLongestOf d ls (g.W.Letters.letters c.args.word) c.longest_by.result) c.len.result c.probe-source.result.lists c.new-labels.result t.tree t.labels.now t.width
    t.ends.now _ _ _ c.self.view_is c.len.ensures.len c.probe-source.ensures.lists c.new-labels.ensures c.longest_by.ensures.answer c.finder-finder.ensures

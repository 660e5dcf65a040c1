-- The source, the finder and the labels are those of the view.
use Rattle.tree_block.specs.Answers.{IsWordOf}
use Rattle.tree_block.proofs.TrieViewLemmas.{answered}
use Rattle.tree_block.proofs.trie.view.TrieView.word.Goals as goal

pub returns-clause-answer : goal.returns-clause-answer
returns-clause-answer c =
    let t = c.self.inside in
    answered (λ d ls. IsWordOf d ls c.args.node c.word_by.new.out c.word_by.result) c.len.result c.probe-source.result.lists c.new-labels.result t.tree t.labels.now t.width
    t.ends.now _ _ _ c.self.view_is c.len.ensures.len c.probe-source.ensures.lists c.new-labels.ensures (λ h f _. c.word_by.ensures.answer h f) c.finder-finder.ensures

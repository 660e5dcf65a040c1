-- Labels after that of the root fit where all do.
use Rattle.std.proofs.Common.{◌^◌, ◌<◌, rules}
use Rattle.std.proofs.lemmas.List.Elements.{All-tail}
use Rattle.tree_block.proofs.trie.given.are_labels.Goals as goal

pub returns-then-not-all_fit : goal.returns-then-not-all_fit
returns-then-not-all_fit c =
    (search rules, λ are. c.if-not-all_fit.ensures.1 (All-tail (λ x. x < 2 ^ c.args.width) 0 c.args.labels.now are.fit))

-- One item is set, and the others stay.
use Rattle.std.proofs.Common.{◌≡◌, ◌+◌, ◌-◌, ◌∷◌, length, take, drop, set, ap, ◌∙◌, arith}
use Rattle.std.proofs.lemmas.List.{drop-set, take-set}
use Rattle.tree_block.proofs.trie.words.write_inside.Goals as goal

pub returns-clause-front : goal.returns-clause-front
returns-clause-front c =
    let xs = c.args.out.now in
    let k = length xs - (c.args.count + 1) in
    let at : length xs - 1 - c.args.count ≡ k = omega arith in
    ap (λ p. take k (set xs p c.args.label)) at ∙ take-set xs k c.args.label

pub returns-clause-back : goal.returns-clause-back
returns-clause-back c =
    let xs = c.args.out.now in
    let k = length xs - (c.args.count + 1) in
    let at : length xs - 1 - c.args.count ≡ k = omega arith in
    let next : k + 1 ≡ length xs - c.args.count = omega (arith, c.requires) in
    ap (λ p. drop k (set xs p c.args.label)) at
    ∙ drop-set xs k c.args.label (omega (arith, c.requires))
    ∙ ap (λ j. c.args.label ∷ drop j xs) next

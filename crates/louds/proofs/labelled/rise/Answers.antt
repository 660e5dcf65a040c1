-- The words hold the tree, and the labels are those that are given.
use Rattle.std.proofs.Common.{◌≡◌, ◌↔◌, IsTrue, ℕ, List, length, ap, ◌∙◌, subst}
use Rattle.bit_lists.specs.Bits.{bits_of}
use Rattle.louds.specs.Held.{degrees_of}
use Rattle.louds.specs.Labels.{Rise}
use Rattle.louds.specs.Leading.{LabelReads}
use Rattle.louds.proofs.labelled.rise.Goals as goal

pub returns : goal.returns
returns g c =
    let bits = bits_of c.words.result.now in
    let d = degrees_of bits (length c.args.labels.now) in
    let degrees : d ≡ c.args.tree.now.degrees = ap (λ n. degrees_of bits n) c.requires ∙ c.words.ensures.degrees in
    let labels : c.new.result.words ≡ c.args.labels.now = ap (λ (l : LabelReads). l.words) c.new.ensures in
    subst (λ (e : List ℕ). IsTrue c.labels_rise.result ↔ Rise e c.args.labels.now) degrees
    (subst (λ (ls : List ℕ). IsTrue c.labels_rise.result ↔ Rise d ls) labels c.labels_rise.ensures.rise)

-- There are as many words as the numbers take.
use Rattle.std.proofs.Common.{◌≡◌, ◌*◌, length, sym, ap, ◌∙◌, rules}
use Rattle.std.specs.Box.{boxed_slice_items, boxed_slice_len}
use Rattle.std.specs.Int.{div_ceil}
use Rattle.louds.proofs.lemmas.LabelLemmas.{numbers_counted}
use Rattle.louds.proofs.labels.PackedGetSize.size_bytes_dyn.Goals as goal

pub returns : goal.returns
returns c =
    let e = c.self.inside in
    let len : boxed_slice_len e.words ≡ length (boxed_slice_items e.words) = search rules in
    c.size_bytes_dyn.ensures
    ∙ ap (λ n. 8 * n) len
    ∙ ap (λ n. 8 * n) c.self.invariant.tight
    ∙ ap (λ n. 8 * div_ceil (n * e.width) 64) (sym (numbers_counted (boxed_slice_items e.words) e.width e.len))
    ∙ ap (λ p. 8 * div_ceil (length p.items * p.width) 64) c.self.view_is

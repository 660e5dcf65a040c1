-- Each of the words was written.
use Rattle.std.proofs.Common.{◌≡◌, ℕ, length, replicate, sym, ◌∙◌, arith}
use Rattle.std.proofs.lemmas.List.{ext_get_or, get_or-replicate, length-replicate}
use Rattle.bitm_block.proofs.writing.clear_gap.Goals as goal

pub returns : goal.returns
returns c =
    let n = length c.args.words.now in
    let same : length c.loop-at.words ≡ n = omega (arith, c.loop-at.auto.words) in
    ext_get_or 0 c.loop-at.words (replicate n 0) (same ∙ sym (length-replicate {A = ℕ} n 0))
    (λ i less.
    c.loop-at.invariant i (omega (arith, less, same, c.requires, c.loop-at-test.false, c.loop-at.auto.at-end))
    ∙ sym (get_or-replicate n i 0 0 (omega (arith, less, same))))

-- The first of the words that are left is mixed in.
use Rattle.std.proofs.Common.{◌≡◌, suc, ◌+◌, drop, get_or, sym, ap, ◌∙◌, arith}
use Rattle.std.proofs.Math.Seq.{drop-cons}
use Rattle.std.proofs.lemmas.List.{drop_all}
use Rattle.bitm_block.specs.Checksum.{mixed, checksum_from}
use Rattle.bitm_block.proofs.checksum.chain.Goals as goal

pub loop-word-preserved : goal.loop-word-preserved
unfolding checksum_from
loop-word-preserved c =
    let ws = c.args.words.now in
    let i = c.loop-word.word-index in
    let first = drop-cons ws i 0 (omega (arith, c.loop-word-test.true)) in
    let next : i + 1 ≡ suc i = omega arith in
    ap (λ h. checksum_from h (drop (i + 1) ws)) c.mix-sum.ensures
    ∙ ap (λ k. checksum_from (mixed c.loop-word.sum (get_or ws i 0)) (drop k ws)) next
    ∙ ap (checksum_from c.loop-word.sum) (sym first)
    ∙ c.loop-word.invariant

pub returns : goal.returns
unfolding checksum_from
returns c =
    ap (checksum_from c.loop-word.sum) (sym (drop_all c.loop-word.word-index c.args.words.now (omega (arith, c.loop-word-test.false))))
    ∙ c.loop-word.invariant
